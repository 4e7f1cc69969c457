-- The states of the index paths, and the report beside them.
use Rattle.std.specs.Prelude.{◌≡◌, ◌≤◌, ◌+◌, ℕ, List, Bool, Some, Option, Result, Ok, Err, IfOk, IfErr, OnOk, IsErrOf}
use Rattle.gitbase_core.specs.declared.entry.IndexEntry.{IndexEntry}
use Rattle.gitbase_core.specs.declared.find.Find.{Ghosts as FindOf}
use Rattle.worktree_fs.specs.declared.interrupt.Interrupt.{Ghosts as InterruptOf}
use Rattle.worktree_fs.specs.declared.worktree.Worktree.{Ghosts as WorktreeOf}
use Rattle.worktree_fs.specs.Causes.{CountNotIncreased, CountIncreasedOrSaturated, saturating_sum}
use Rattle.worktree_fs.specs.Kept.{KeepsTreeAndListCounts, KeepsStoredObjects}
use Rattle.worktree_fs.specs.Tree.{Names}
use Rattle.worktree_stack.specs.Reading.{TreeAndObjects}
use Rattle.dir_classify.specs.Excludes.{TellsTreeAndObjects}
use Rattle.dir_walk.specs.declared.strategy.Strategy.TheVariants.{AtOnce}
use Rattle.dir_walk.specs.Kept.{AsksInterruptPerRaise, KeepsWorktree}
use Rattle.worktree_report.specs.declared.error.ReportError.{ReportError}
use Rattle.worktree_report.specs.declared.error.ReportError.TheVariants as reports
use Rattle.worktree_report.specs.declared.report.Report.{Report}
use Rattle.worktree_report.specs.declared.setup.Setup.{Setup}
use Rattle.worktree_report.specs.Asked.{IsReportOfSetup, IsSetupValidAtRoot}
use Rattle.worktree_report.specs.Excluding.{stack_setup_if_excludes_option}
use Rattle.worktree_report.specs.Loading.{known_submodules_in_tree, IsKnownWithoutMisread}
use Rattle.worktree_report.specs.Reported.{MakesReportBySetup}
use Rattle.index_status.specs.declared.error.StatesError.{StatesError}
use Rattle.index_status.specs.declared.error.StatesError.TheVariants as states
use Rattle.index_status.specs.declared.error.StatusError.{StatusError}
use Rattle.index_status.specs.declared.error.StatusError.TheVariants as errors
use Rattle.index_status.specs.declared.report_beside.IndexStatus.{IndexStatus}
use Rattle.index_status.specs.Rows.{AreConflictedExactlyWhereUnmerged, ArePossibleRowsOfIndex, PathsAscendStrictly, IsLookedAtForSomeEntry, least_files_read_for_rows, rows_of_index_over_tree}
use Rattle.index_status.specs.States.{most_reads_for_entries}

-- why there is no report; want of memory is the same for both
abbrev pub status_error_of_report_error : ReportError → StatusError
status_error_of_report_error (reports.Config at line) = errors.Report (reports.Config at line)
status_error_of_report_error (reports.Modules line) = errors.Report (reports.Modules line)
status_error_of_report_error (reports.ActiveSpec at) = errors.Report (reports.ActiveSpec at)
status_error_of_report_error reports.ReadFault = errors.Report reports.ReadFault
status_error_of_report_error (reports.Walk e) = errors.Report (reports.Walk e)
status_error_of_report_error reports.OutOfMemory = errors.OutOfMemory

-- why there are no states
abbrev pub status_error_of_states_error : StatesError → StatusError
status_error_of_states_error (states.Fault path) = errors.Fault path
status_error_of_states_error states.OutOfMemory = errors.OutOfMemory

-- the worktree failed at a path that is looked at for a state
abbrev pub RefusesStatusWithStatesCause : Option Names → List ℕ → List IndexEntry → Type 0 → StatusError → Type 0
RefusesStatusWithStatesCause told root entries Failed (errors.Report e) = ⊥
RefusesStatusWithStatesCause told root entries Failed (errors.Fault path) = Failed × IsLookedAtForSomeEntry told root entries path
RefusesStatusWithStatesCause told root entries Failed errors.OutOfMemory = Unit {0}

-- The states beside a report that is made, where a worktree was `w0` and is `w1`.
pub record ComparesBesideReport {W : Type 0} (w : WorktreeOf W) (w0 w1 : W) (root : List ℕ) (entries : List IndexEntry) (report : Report) (result : Result IndexStatus StatusError) : Type 0 where
  pub gives : (t : Names) → w.told w0 ≡ Some t → IfOk result (λ status. status.paths.items ≡ rows_of_index_over_tree t root entries)
  pub possible : IfOk result (λ status. ArePossibleRowsOfIndex entries status.paths.items)
  pub ascends : IfOk result (λ status. PathsAscendStrictly status.paths.items)
  pub conflicted : IfOk result (λ status. AreConflictedExactlyWhereUnmerged entries status.paths.items)
  pub beside : IfOk result (λ status. status.report ≡ report)
  -- each file that is compared is read once at most, whatever is answered
  pub reads : w.reads w1 ≤ w.reads w0 + most_reads_for_entries entries
  -- and each that is the same or modified was read
  pub read : IfOk result (λ status. saturating_sum (w.reads w0) (least_files_read_for_rows status.paths.items) ≤ w.reads w1)
  -- and no look that failed is hidden
  pub unfaulted : OnOk result (w.faults w1 ≡ w.faults w0)
  pub refused : IfErr result (RefusesStatusWithStatesCause (w.told w0) root entries (CountIncreasedOrSaturated (w.faults w0) (w.faults w1)))
  pub keeps : KeepsTreeAndListCounts w w0 w1

-- each distinct path of the index with its state over a tree, and the report
pub record IsStatusOverTree (composes : Bool) (s : TreeAndObjects) (root : List ℕ) (setup : Setup) (status : IndexStatus) : Type 0 where
  pub paths : status.paths.items ≡ rows_of_index_over_tree s.tree root setup.index
  pub report : IsReportOfSetup composes s root setup status.report

-- The report was made first, and then the index paths were looked at, where a worktree was `w0` and is `w1`; each file that is
-- compared was read once at most, and each that is the same or modified was read. Over a told tree their states are exact, whatever failed.
pub record StatusComparesAfterReport {W F I : Type 0} (w : WorktreeOf W) (f : FindOf F) (i : InterruptOf I) (w0 w1 : W) (o0 o1 : F) (i0 i1 : I)
    (root : List ℕ) (setup : Setup) (status : IndexStatus) : Type 0 where
  pub between : W
  pub made : MakesReportBySetup w f i w0 between o0 o1 i0 i1 root setup (Ok status.report)
  pub asks : KeepsTreeAndListCounts w between w1
  pub reads : w.reads w1 ≤ w.reads between + most_reads_for_entries setup.index
  pub read : saturating_sum (w.reads between) (least_files_read_for_rows status.paths.items) ≤ w.reads w1
  pub unfaulted : w.faults w1 ≡ w.faults between
  pub paths : (t : Names) → w.told w0 ≡ Some t → status.paths.items ≡ rows_of_index_over_tree t root setup.index

-- the report was made, and then the worktree failed while the index paths were looked at
pub record FailsComparingAfterReport {W F I : Type 0} (w : WorktreeOf W) (f : FindOf F) (i : InterruptOf I) (w0 w1 : W) (o0 o1 : F) (i0 i1 : I)
    (root : List ℕ) (setup : Setup) : Type 0 where
  pub between : W
  pub report : Report
  pub made : MakesReportBySetup w f i w0 between o0 o1 i0 i1 root setup (Ok report)
  pub asks : KeepsTreeAndListCounts w between w1
  pub reads : w.reads w1 ≤ w.reads between + most_reads_for_entries setup.index
  pub rose : CountIncreasedOrSaturated (w.faults between) (w.faults w1)

-- The states and the report of the work tree at `root`, where a worktree was `w0` and is `w1`, a store was `o0` and is `o1`, and an
-- interrupt was `i0` and is `i1`.
pub record MakesReportAndComparesIndex {W F I : Type 0} (w : WorktreeOf W) (f : FindOf F) (i : InterruptOf I) (w0 w1 : W) (o0 o1 : F) (i0 i1 : I)
    (root : List ℕ) (setup : Setup) (result : Result IndexStatus StatusError) : Type 0 where
  -- Over a told tree and a store that tells what it holds, and without a fault, it is exactly the one that the setup asks for.
  pub gives : (s : TreeAndObjects) → TellsTreeAndObjects (w.told w0) (f.holds o0) (stack_setup_if_excludes_option root setup) s → CountNotIncreased (w.faults w0) (w.faults w1)
      → IfOk result (IsStatusOverTree (w.precomposes w0) s root setup)
  -- Over any worktree each path of the index stands once, in ascending order, with a state that it may have, which is that it is
  -- conflicted exactly where the index has an entry of it at another stage than 0; and all is said of the report that is said where it
  -- is made alone.
  pub possible : IfOk result (λ status. ArePossibleRowsOfIndex setup.index status.paths.items)
  pub ascends : IfOk result (λ status. PathsAscendStrictly status.paths.items)
  pub conflicted : IfOk result (λ status. AreConflictedExactlyWhereUnmerged setup.index status.paths.items)
  pub beside : IfOk result (StatusComparesAfterReport w f i w0 w1 o0 o1 i0 i1 root setup)
  -- Each refusal has its cause: there is no such report, or there is one and then the worktree failed at a path that is looked at for
  -- a state.
  pub no_report : (e : ReportError) → IsErrOf result (errors.Report e) → MakesReportBySetup w f i w0 w1 o0 o1 i0 i1 root setup (Err e)
  -- where memory was wanted for the report, that is wanted for the status, and no such refusal
  pub no_memory : ¬ IsErrOf result (errors.Report reports.OutOfMemory)
  pub cause : (path : List ℕ) → IsErrOf result (errors.Fault path) → FailsComparingAfterReport w f i w0 w1 o0 o1 i0 i1 root setup
  pub later : (path : List ℕ) → IsErrOf result (errors.Fault path) → (t : Names) → w.told w0 ≡ Some t → IsKnownWithoutMisread (known_submodules_in_tree t root setup)
  pub at : (path : List ℕ) → IsErrOf result (errors.Fault path) → IsLookedAtForSomeEntry (w.told w0) root setup.index path
  -- For valid input, and where nothing failed or was raised, only memory may be wanted.
  pub complete : (s : TreeAndObjects) → TellsTreeAndObjects (w.told w0) (f.holds o0) (stack_setup_if_excludes_option root setup) s
      → CountNotIncreased (w.faults w0) (w.faults w1) → CountNotIncreased (f.faults o0) (f.faults o1) → CountNotIncreased (i.raised i0) (i.raised i1)
      → IsSetupValidAtRoot (w.precomposes w0) s root setup → IfErr result (λ e. e ≡ errors.OutOfMemory)
  -- What stays.
  pub worktree : KeepsWorktree w w0 w1
  -- where subtrees are walked at once, over forks, the worktree counts one directory as listed at most
  pub lists : setup.options.strategy ≡ AtOnce → w.lists w1 ≤ w.lists w0 + 1
  pub store : KeepsStoredObjects f o0 o1
  pub interrupt : AsksInterruptPerRaise i i0 i1
  pub listed : OnOk result (w.list_faults w1 ≡ w.list_faults w0)
  pub calm : OnOk result (i.raised i1 ≡ i.raised i0)
