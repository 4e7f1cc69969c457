use Rattle.std.proofs.Common.{◌≡◌}
use Rattle.gitbase_core.specs.Path.{components}
use Rattle.worktree_report.specs.Below.{join_first_components}
use Rattle.worktree_report.proofs.below.join_first_components.Given as goal

abbrev pub invariant-loop-left : goal.invariant-loop-left
invariant-loop-left l = join_first_components l.front l.left (components l.rest) ≡ join_first_components l.directory l.count (components l.path)

abbrev pub decreases-loop-left : goal.decreases-loop-left
decreases-loop-left l = l.left
