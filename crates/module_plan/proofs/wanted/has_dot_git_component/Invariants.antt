use Rattle.std.proofs.Common.{◌≡◌}
use Rattle.std.specs.List.{list_any}
use Rattle.gitbase_core.specs.Path.{components}
use Rattle.gitbase_core.specs.Text.{is_dot_git_ignoring_case}
use Rattle.module_plan.proofs.wanted.has_dot_git_component.Given as goal

abbrev pub invariant-loop-name : goal.invariant-loop-name
invariant-loop-name l = list_any is_dot_git_ignoring_case l.name-iterator ≡ list_any is_dot_git_ignoring_case (components l.path)
