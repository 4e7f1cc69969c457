use Rattle.std.proofs.Common.{◌≡◌, ◌-◌, length}
use Rattle.gitbase_core.specs.Path.{components}
use Rattle.worktree_fs.specs.PathStack.{shared_proper_ancestor_components}
use Rattle.worktree_fs.proofs.path_stack.steps.count_non_ancestor_components.Given as goal

abbrev pub invariant-loop-below_it : goal.invariant-loop-below_it
invariant-loop-below_it l =
    length (components l.below) - length (shared_proper_ancestor_components (components l.below) (components l.rest))
    ≡ length (components l.directory) - length (shared_proper_ancestor_components (components l.directory) (components l.path))

abbrev pub decreases-loop-below_it : goal.decreases-loop-below_it
decreases-loop-below_it l = length (components l.below)
