use Rattle.std.proofs.Common.{◌≡◌, Some, length}
use Rattle.worktree_fs.specs.Kept.{KeepsTreeAndListCounts}
use Rattle.worktree_fs.specs.KeptOwners.{KeepsOwnershipAnswers}
use Rattle.worktree_fs.specs.Owners.{OwnershipByPath}
use Rattle.worktree_fs.specs.Tree.{Names}
use Rattle.git_places.specs.Upward.{nearest_top_within_limits}
use Rattle.git_places.proofs.UpwardLemmas.{IsSpelled}
use Rattle.git_places.proofs.upward.search_upward_for_top.Given as goal

abbrev pub invariant-loop-path : goal.invariant-loop-path
invariant-loop-path g l =
    record {
      spelled : IsSpelled l.path;
      same : (t : Names) (owned : OwnershipByPath) → g.W.Worktree.told l.fn.worktree ≡ Some t → g.O.Owners.told l.fn.owners ≡ Some owned
          → nearest_top_within_limits l.limits t owned l.path ≡ nearest_top_within_limits l.limits t owned l.fn.current;
      unfaulted : g.W.Worktree.faults l.worktree ≡ g.W.Worktree.faults l.fn.worktree;
      owners_unfaulted : g.O.Owners.faults l.owners ≡ g.O.Owners.faults l.fn.owners;
      keeps : KeepsTreeAndListCounts g.W.Worktree l.fn.worktree l.worktree;
      owners : KeepsOwnershipAnswers g.O.Owners l.fn.owners l.owners;
    }

abbrev pub decreases-loop-path : goal.decreases-loop-path
decreases-loop-path g l = length l.path
