use Rattle.std.proofs.Common.{drop}
use Rattle.gitbase_core.specs.Path.{components}
use Rattle.index_status.specs.Ways.{KnowsWayToPath}
use Rattle.index_status.proofs.Alongside.{IsAlong}
use Rattle.index_status.proofs.compare.compare_index_paths_with_worktree.Given as goal

abbrev pub invariant-loop-entry : goal.invariant-loop-entry
invariant-loop-entry g l =
    IsAlong g.W.Worktree l.fn.worktree l.worktree l.worktree_root l.index (drop l.entry-index l.entry-items) l.made.items
    × KnowsWayToPath (g.W.Worktree.told l.fn.worktree) l.worktree_root l.known.barred (components l.known.path.now)
