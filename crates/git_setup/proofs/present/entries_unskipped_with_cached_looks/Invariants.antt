use Rattle.std.proofs.Common.{◌≡◌, [], None, Some}
use Rattle.std.specs.Vec.Iter.{into_iter_items}
use Rattle.worktree_fs.specs.Kept.{KeepsTreeAndListCounts}
use Rattle.worktree_fs.specs.Tree.{Names}
use Rattle.git_setup.specs.Present.{entries_unskipped_with_cached_looks}
use Rattle.git_setup.proofs.present.entries_unskipped_with_cached_looks.Given as goal

abbrev pub invariant-loop-entry : goal.invariant-loop-entry
invariant-loop-entry g l =
    record {
      same : (t : Names) → g.W.Worktree.told l.fn.worktree ≡ Some t
          → entries_unskipped_with_cached_looks t l.root l.looks l.last l.done (into_iter_items l.entry-iterator) ≡ entries_unskipped_with_cached_looks t l.root l.looks None [] l.fn.entries;
      unfaulted : g.W.Worktree.faults l.worktree ≡ g.W.Worktree.faults l.fn.worktree;
      keeps : KeepsTreeAndListCounts g.W.Worktree l.fn.worktree l.worktree;
    }
