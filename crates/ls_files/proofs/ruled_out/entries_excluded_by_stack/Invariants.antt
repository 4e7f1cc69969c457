use Rattle.std.proofs.Common.{◌≡◌, [], Some, drop}
use Rattle.worktree_fs.specs.Kept.{KeepsTreeAndListCounts}
use Rattle.worktree_fs.specs.Tree.{Names}
use Rattle.worktree_report.specs.Asked.{sources_of_tree_and_setup}
use Rattle.worktree_stack.specs.Stacked.{IsInStepWithTree, setup_of_stack}
use Rattle.ls_files.specs.Excluded.{excluded_entries_appended}
use Rattle.ls_files.proofs.ruled_out.entries_excluded_by_stack.Given as goal

abbrev pub invariant-loop-entry : goal.invariant-loop-entry
invariant-loop-entry g l =
    record {
      made : setup_of_stack l.stack ≡ setup_of_stack l.fn.stack;
      in_step : (t : Names) → g.W.Worktree.told l.worktree ≡ Some t → IsInStepWithTree (sources_of_tree_and_setup t l.setup) l.stack;
      same : (t : Names) → g.W.Worktree.told l.fn.worktree ≡ Some t
          → excluded_entries_appended t l.root l.setup (setup_of_stack l.fn.stack) l.done (drop l.entry-index l.entries) ≡ excluded_entries_appended t l.root l.setup (setup_of_stack l.fn.stack) [] l.entries;
      unfaulted : g.W.Worktree.faults l.worktree ≡ g.W.Worktree.faults l.fn.worktree;
      keeps : KeepsTreeAndListCounts g.W.Worktree l.fn.worktree l.worktree;
    }
