use Rattle.std.proofs.Common.{◌≡◌, length}
use Rattle.std.specs.List.{list_any}
use Rattle.gitbase_core.specs.Path.{components}
use Rattle.worktree_fs.specs.Paths.{is_dot_or_dot_dot}
use Rattle.worktree_fs.proofs.path_stack.steps.has_dot_or_dot_dot_component.Given as goal

abbrev pub invariant-loop-name : goal.invariant-loop-name
invariant-loop-name l = list_any is_dot_or_dot_dot (components l.rest) ≡ list_any is_dot_or_dot_dot (components l.path)

abbrev pub decreases-loop-name : goal.decreases-loop-name
decreases-loop-name l = length (components l.rest)
