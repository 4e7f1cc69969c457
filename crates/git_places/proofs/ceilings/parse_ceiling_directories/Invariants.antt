use Rattle.std.proofs.Common.{◌≡◌, ◌==◌, Some, length}
use Rattle.std.specs.List.{slice_split}
use Rattle.worktree_fs.specs.Kept.{KeepsTreeAndListCounts}
use Rattle.worktree_fs.specs.Tree.{Names}
use Rattle.git_places.specs.Ceilings.{append_ceilings_of_entries, parse_ceiling_directories}
use Rattle.git_places.proofs.ceilings.parse_ceiling_directories.Given as goal

abbrev pub invariant-loop-made : goal.invariant-loop-made
invariant-loop-made g l =
    record {
      same : (t : Names) → g.W.Worktree.told l.fn.worktree ≡ Some t → append_ceilings_of_entries t l.made l.as_it_is (slice_split (λ b. b == 58) l.left) ≡ parse_ceiling_directories t l.text;
      unfaulted : g.W.Worktree.faults l.worktree ≡ g.W.Worktree.faults l.fn.worktree;
      keeps : KeepsTreeAndListCounts g.W.Worktree l.fn.worktree l.worktree;
    }

abbrev pub decreases-loop-made : goal.decreases-loop-made
decreases-loop-made g l = length l.left
