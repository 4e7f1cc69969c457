use Rattle.std.proofs.Common.{◌≡◌, length}
use Rattle.std.specs.List.{list_any}
use Rattle.gitbase_core.specs.Path.{components}
use Rattle.gitbase_core.specs.Text.{is_dot_git_ignoring_case}
use Rattle.clean_plan.proofs.kept.has_dot_git_component.Given as goal

abbrev pub invariant-loop-name : goal.invariant-loop-name
invariant-loop-name l = list_any is_dot_git_ignoring_case (components l.rest) ≡ list_any is_dot_git_ignoring_case (components l.path)

abbrev pub decreases-loop-name : goal.decreases-loop-name
decreases-loop-name l = length (components l.rest)
