-- What making a plan says: of the plan or the refusal, and of what stays.
use Rattle.std.specs.Prelude.{◌≡◌, ℕ, List, Bool, Option, Some, Result, Ok, Err, IfOk, IfErr, OnOk}
use Rattle.gitbase_core.specs.declared.find.Find.{Ghosts as FindOf}
use Rattle.worktree_fs.specs.declared.interrupt.Interrupt.{Ghosts as InterruptOf}
use Rattle.worktree_fs.specs.declared.worktree.Worktree.{Ghosts as WorktreeOf}
use Rattle.worktree_fs.specs.Causes.{CountNotIncreased, CountIncreasedOrSaturated}
use Rattle.worktree_fs.specs.Kept.{KeepsTreeAndListCounts, KeepsStoredObjects}
use Rattle.worktree_fs.specs.Tree.{Names}
use Rattle.worktree_stack.specs.Reading.{TreeAndObjects}
use Rattle.dir_classify.specs.Excludes.{TellsTreeAndObjects}
use Rattle.dir_classify.specs.Layers.{current_directory_in_worktree}
use Rattle.dir_walk.specs.Kept.{AsksInterruptPerRaise, KeepsWorktree}
use Rattle.worktree_report.specs.declared.error.ReportError.{ReportError}
use Rattle.worktree_report.specs.declared.report.Report.{Report}
use Rattle.worktree_report.specs.declared.setup.Setup.{Setup}
use Rattle.worktree_report.specs.Asked.{IsSetupValidAtRoot, current_dir_or_root, report_of}
use Rattle.worktree_report.specs.Excluding.{stack_setup_if_excludes_option}
use Rattle.worktree_report.specs.Reported.{MakesReportBySetup}
use Rattle.clean_plan.specs.declared.error.CleanError.{CleanError}
use Rattle.clean_plan.specs.declared.error.CleanError.TheVariants as errors
use Rattle.clean_plan.specs.declared.outcome.Plan.{Plan}
use Rattle.clean_plan.specs.declared.what.Wanted.{Wanted}
use Rattle.clean_plan.specs.Asked.{CleanPlanInputs}
use Rattle.clean_plan.specs.Plans.{IsOrderedRemovalPlan, entries_of_report_entries, paths_of_removable_entries}
use Rattle.clean_plan.specs.Refusals.{HasFaultOrMemoryCause, HoldsUnlessCleanFault, clean_error_of_report_error}
use Rattle.clean_plan.specs.Safe.{NoPathLiesBeneathAnother, RemovesSafelyAndCompletely, AscendOutsideGitAndIndex}
use Rattle.clean_plan.specs.Setups.{plan_inputs_of_setup, traversal_root_relative_to_work_tree}

-- what is asked for over a tree, by a report of the work tree at `root`
abbrev pub plan_inputs_over_tree : Wanted → Names → List ℕ → Setup → Report → CleanPlanInputs
plan_inputs_over_tree wanted t root setup report =
    plan_inputs_of_setup wanted setup (traversal_root_relative_to_work_tree root report.root) (current_directory_in_worktree t root (current_dir_or_root root setup.current_dir))

-- This is the plan over a tree: by the entries of the report of the work tree at `root`; and it is safe to act on.
pub record IsSafePlanOverTree (composes : Bool) (s : TreeAndObjects) (root : List ℕ) (setup : Setup) (wanted : Wanted) (plan : Plan) : Type 0 where
  pub report : Report
  pub report_is : report_of composes s root setup ≡ Some report
  pub plan_is : IsOrderedRemovalPlan (plan_inputs_over_tree wanted s.tree root setup report) (entries_of_report_entries report.entries) plan.paths.items
  pub apart : NoPathLiesBeneathAnother plan.paths.items
  pub safe : RemovesSafelyAndCompletely (plan_inputs_over_tree wanted s.tree root setup report) (entries_of_report_entries report.entries) plan.paths.items
      (paths_of_removable_entries (plan_inputs_over_tree wanted s.tree root setup report) (entries_of_report_entries report.entries))

-- Whatever a worktree tells, it is the plan by the entries of a report of the work tree at `root`; where it tells its tree, it is that by
-- where the current directory is there.
pub record IsPlanByReport (told : Option Names) (root : List ℕ) (setup : Setup) (wanted : Wanted) (report : Report) (plan : Plan) : Type 0 where
  pub current : Option (List ℕ)
  pub current_is : (t : Names) → told ≡ Some t → current ≡ current_directory_in_worktree t root (current_dir_or_root root setup.current_dir)
  pub plan_is : IsOrderedRemovalPlan (plan_inputs_of_setup wanted setup (traversal_root_relative_to_work_tree root report.root) current) (entries_of_report_entries report.entries) plan.paths.items

-- The plan by a report that is made, where a worktree was `w0` and is `w1`.
pub record PlansByMadeReport {W : Type 0} (w : WorktreeOf W) (w0 w1 : W)
    (root : List ℕ) (setup : Setup) (wanted : Wanted) (report : Report) (result : Result Plan CleanError) : Type 0 where
  -- Nothing is listed, and no file is read.
  pub asks : KeepsTreeAndListCounts w w0 w1
  pub reads : w.reads w1 ≡ w.reads w0
  -- A plan is the one by the entries of that report, whatever failed.
  pub by_report : IfOk result (IsPlanByReport (w.told w0) root setup wanted report)
  -- Over any worktree and by any report the paths ascend strictly, and none has an index entry at it or beneath it.
  pub spares : IfOk result (λ plan. AscendOutsideGitAndIndex setup.options.ignore_case setup.index plan.paths.items)
  -- A fault comes only where the worktree counted one, and no other answer hides one.
  pub refused : IfErr result (HasFaultOrMemoryCause (CountIncreasedOrSaturated (w.faults w0) (w.faults w1)))
  pub unfaulted : HoldsUnlessCleanFault result (w.faults w1 ≡ w.faults w0)

-- After a report was made, or refused, which left the worktree as `between`: a refusal of the report is that of the plan, and nothing was
-- asked after it; else it is planned by that report.
abbrev pub PlansOrRefusesAfterReport : {W : Type 0} → WorktreeOf W → W → W → List ℕ → Setup → Wanted → Result Report ReportError → Result Plan CleanError → Type 0
PlansOrRefusesAfterReport w between w1 root setup wanted (Ok r) result = PlansByMadeReport w between w1 root setup wanted r result
PlansOrRefusesAfterReport w between w1 root setup wanted (Err e) result = (result ≡ Err (clean_error_of_report_error e)) × (w1 ≡ between)

-- The plan for the work tree at `root`, where a worktree was `w0` and is `w1`, a store was `o0` and is `o1`, and an interrupt was
-- `i0` and is `i1`.
pub record MakesReportAndPlan {W F I : Type 0} (w : WorktreeOf W) (f : FindOf F) (i : InterruptOf I) (w0 w1 : W) (o0 o1 : F) (i0 i1 : I)
    (root : List ℕ) (setup : Setup) (wanted : Wanted) (result : Result Plan CleanError) : Type 0 where
  -- Over a told tree and a store that tells what it holds, and without a fault, it is exactly the one that the setup asks for.
  pub gives : (s : TreeAndObjects) → TellsTreeAndObjects (w.told w0) (f.holds o0) (stack_setup_if_excludes_option root setup) s → CountNotIncreased (w.faults w0) (w.faults w1)
      → IfOk result (IsSafePlanOverTree (w.precomposes w0) s root setup wanted)
  -- One report is made, and all that its making says holds of it; the plan comes of it.
  pub made : Result Report ReportError
  pub between : W
  pub reported : MakesReportBySetup w f i w0 between o0 o1 i0 i1 root setup made
  pub ends : PlansOrRefusesAfterReport w between w1 root setup wanted made result
  -- For valid input, and where nothing failed or was raised, only memory may be wanted.
  pub complete : (s : TreeAndObjects) → TellsTreeAndObjects (w.told w0) (f.holds o0) (stack_setup_if_excludes_option root setup) s
      → CountNotIncreased (w.faults w0) (w.faults w1) → CountNotIncreased (f.faults o0) (f.faults o1) → CountNotIncreased (i.raised i0) (i.raised i1)
      → IsSetupValidAtRoot (w.precomposes w0) s root setup → IfErr result (λ e. e ≡ errors.OutOfMemory)
  -- What stays.
  pub worktree : KeepsWorktree w w0 w1
  pub store : KeepsStoredObjects f o0 o1
  pub interrupt : AsksInterruptPerRaise i i0 i1
  pub listed : OnOk result (w.list_faults w1 ≡ w.list_faults w0)
  pub calm : OnOk result (i.raised i1 ≡ i.raised i0)
