use Rattle.std.proofs.Common.{◌≡◌, Some, drop}
use Rattle.worktree_fs.specs.Kept.{KeepsTreeAndListCounts}
use Rattle.worktree_fs.specs.Tree.{Names}
use Rattle.git_setup.specs.Conversions.{has_attributes_above_following_entries}
use Rattle.git_setup.proofs.conversions.has_attributes_above_following_entries.Given as goal

abbrev pub invariant-loop-entry : goal.invariant-loop-entry
invariant-loop-entry g l =
    record {
      same : (t : Names) → g.W.Worktree.told l.fn.worktree ≡ Some t → has_attributes_above_following_entries t l.root l.last (drop l.entry-index l.entries) ≡ has_attributes_above_following_entries t l.root l.before l.entries;
      unfaulted : g.W.Worktree.faults l.worktree ≡ g.W.Worktree.faults l.fn.worktree;
      keeps : KeepsTreeAndListCounts g.W.Worktree l.fn.worktree l.worktree;
    }
