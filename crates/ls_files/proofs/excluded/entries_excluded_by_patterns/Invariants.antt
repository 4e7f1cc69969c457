use Rattle.std.proofs.Common.{◌≡◌, ◌++◌, Some, drop, filter}
use Rattle.worktree_fs.specs.Kept.{KeepsTreeAndListCounts}
use Rattle.worktree_fs.specs.Tree.{Names}
use Rattle.ls_files.specs.Excluded.{do_patterns_exclude_entry}
use Rattle.ls_files.proofs.excluded.entries_excluded_by_patterns.Given as goal

abbrev pub invariant-loop-entry : goal.invariant-loop-entry
invariant-loop-entry g l =
    record {
      same : (t : Names) → g.W.Worktree.told l.fn.worktree ≡ Some t
          → l.done ++ filter (do_patterns_exclude_entry t l.root l.patterns l.case) (drop l.entry-index l.entries) ≡ filter (do_patterns_exclude_entry t l.root l.patterns l.case) l.entries;
      unfaulted : g.W.Worktree.faults l.worktree ≡ g.W.Worktree.faults l.fn.worktree;
      keeps : KeepsTreeAndListCounts g.W.Worktree l.fn.worktree l.worktree;
    }
