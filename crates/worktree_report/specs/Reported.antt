-- What making a report says: of the report or the refusal, and of what stays.
use Rattle.std.specs.Prelude.{◌≡◌, ◌⊎◌, ◌≤◌, ◌-◌, ◌+◌, ◌^◌, min, ℕ, List, length, true, Bool, Option, Some, Result, Ok, Err, IfOk, IfErr, OnOk, IsErrOf}
use Rattle.gitbase_core.specs.declared.find.Find.{Ghosts as FindOf}
use Rattle.worktree_fs.specs.declared.interrupt.Interrupt.{Ghosts as InterruptOf}
use Rattle.worktree_fs.specs.declared.worktree.Worktree.{Ghosts as WorktreeOf}
use Rattle.worktree_fs.specs.Causes.{CountNotIncreased, CountIncreasedOrSaturated, saturating_sum}
use Rattle.worktree_fs.specs.Kept.{KeepsStoredObjects}
use Rattle.worktree_fs.specs.Paths.{root_joined_with_relative}
use Rattle.worktree_fs.specs.Tree.{Names}
use Rattle.worktree_stack.specs.Lookups.{one_if_refused}
use Rattle.worktree_stack.specs.Reading.{TreeAndObjects}
use Rattle.dir_classify.specs.declared.error.Error.{Error}
use Rattle.dir_classify.specs.declared.error.Error.TheVariants.{OutOfMemory}
use Rattle.dir_classify.specs.Excludes.{TellsTreeAndObjects}
use Rattle.dir_classify.specs.Refused.{HoldsIfFaultError}
use Rattle.dir_walk.specs.declared.report.Report.{Report as WalkReport}
use Rattle.dir_walk.specs.declared.strategy.Strategy.TheVariants.{Held, AtOnce}
use Rattle.dir_walk.specs.Distinct.{IsStrictlyAscendingByPath}
use Rattle.dir_walk.specs.Kept.{AsksInterruptPerRaise, KeepsWorktree, HoldsIfInterrupted, HoldsIfListingFault}
use Rattle.dir_walk.specs.Opens.{CountsListingsByStrategy, reads_files_for_rules_only}
use Rattle.dir_walk.specs.Root.{rooted, find_traversal_root, walk_over_sources}
use Rattle.dir_walk.specs.Puts.{count_hidden_emissions}
use Rattle.dir_walk.specs.Reports.{IsReportFromNormalizedRoot}
use Rattle.dir_walk.specs.Unopened.{count_unlisted_in_answer}
use Rattle.dir_walk.specs.Walkable.{HasReportOrIsWalkable}
use Rattle.dir_walk.specs.Walks.{CountsOpenedInWholeWalk, most_opened_in_walk}
use Rattle.worktree_report.specs.declared.error.ReportError.{ReportError}
use Rattle.worktree_report.specs.declared.error.ReportError.TheVariants as errors
use Rattle.worktree_report.specs.declared.known.Known.{Known}
use Rattle.worktree_report.specs.declared.refusal.Misread.{Misread}
use Rattle.worktree_report.specs.declared.refusal.Misread.TheVariants as misread
use Rattle.worktree_report.specs.declared.report.Report.{Report}
use Rattle.worktree_report.specs.declared.setup.Setup.{Setup}
use Rattle.worktree_report.specs.declared.refusal.Refusal.{Refusal}
use Rattle.worktree_report.specs.declared.refusal.Refusal.TheVariants as refusals
use Rattle.worktree_report.specs.declared.refusal.WalkWord.{WalkWord}
use Rattle.worktree_report.specs.Asked.{walk_setting_of_setup, walk_options_of_setup, sources_of_tree_and_setup, report_text_of_setup, IsWalkErrorAboutInput, IsWalkErrorFoundInTree, IsErrorOfUnenteredRoot, IsWalkErrorOfSetup, IsReportOfSetup, IsWalkReportOfSetup, ReadsAtMostAsWalkAndModules, HasSafeReportAtRoot, IsSetupValidAtRoot, ListsDirectoriesOfReport, AsksAndReadsForReport, RefusesWalkWithWordAndPath, IsWordAndPathAboutInput}
use Rattle.worktree_report.specs.Converted.{refusal_of_report_error, IsRefusalOfMakingReport}
use Rattle.worktree_report.specs.Excluding.{stack_setup_if_excludes_option}
use Rattle.worktree_report.specs.Lines.{text_of_report}
use Rattle.worktree_report.specs.Loading.{count_files_if_submodules_asked, known_submodules_in_tree, IsKnownWithoutMisread}
use Rattle.worktree_report.specs.Loads.{report_error_of_walk_error, ReadsFilesWithoutFault}
use Rattle.worktree_report.specs.Orderly.{IsReportInOrder, IsTextOfReportInOrder}
use Rattle.worktree_report.specs.Outside.{FailsReadingBeforeWalk, IsMisreadOfSetup, ReadsOnlySubmoduleFiles, MisreadsBeforeWalk, HoldsOfMisread, HoldsIfReadingError, StopsReadingAtError}
use Rattle.worktree_report.specs.Submodules.{report_with_submodules}
use Rattle.worktree_report.specs.Unopened.{count_too_deep_in_report, count_unlisted_in_report}

-- The whole path of the traversal root that a setup asks for in a tree.
abbrev pub IsTraversalRootPath : Bool → Names → List ℕ → Setup → List ℕ → Type 0
IsTraversalRootPath composes t root setup path =
    (start : List ℕ) × (find_traversal_root (walk_setting_of_setup composes root setup) t setup.root ≡ rooted start) × (path ≡ root_joined_with_relative root start)

-- Over what is told, and without a fault of the worktree, so many directories are opened at most as the walk of a setup enters within
-- its depth, and `spare` more; none where there is no walk.
abbrev pub OpensAtMostAsWalkEnters : {W F : Type 0} → WorktreeOf W → FindOf F → W → W → F → List ℕ → Setup → ℕ → ℕ → Type 0
OpensAtMostAsWalkEnters w f w0 w1 o0 root setup spare opened =
    (s : TreeAndObjects) → TellsTreeAndObjects (w.told w0) (f.holds o0) (stack_setup_if_excludes_option root setup) s → CountNotIncreased (w.faults w0) (w.faults w1)
    → opened ≤ most_opened_in_walk setup.depth (walk_over_sources (walk_setting_of_setup (w.precomposes w0) root setup) (stack_setup_if_excludes_option root setup) s setup.root) spare

-- The same over a told tree alone, where blobs are those of the setup; `composes` says whether the worktree composes names.
abbrev pub OpensAtMostAsWalkOverTree : {W : Type 0} → WorktreeOf W → Bool → W → W → List ℕ → Setup → ℕ → ℕ → Type 0
OpensAtMostAsWalkOverTree w composes w0 w1 root setup spare opened =
    (t : Names) → w.told w0 ≡ Some t → CountNotIncreased (w.faults w0) (w.faults w1)
    → opened ≤ most_opened_in_walk setup.depth (walk_over_sources (walk_setting_of_setup composes root setup) (stack_setup_if_excludes_option root setup) (sources_of_tree_and_setup t setup) setup.root) spare

-- What the walk of the work tree at `root` gives, where a worktree was `w0` and is `w1`, a store was `o0` and is `o1`, and an interrupt
-- was `i0` and is `i1`.
pub record WalksBySetup {W F I : Type 0} (w : WorktreeOf W) (f : FindOf F) (i : InterruptOf I) (w0 w1 : W) (o0 o1 : F) (i0 i1 : I)
    (root : List ℕ) (setup : Setup) (result : Result WalkReport Error) : Type 0 where
  -- Over a told tree and a store that tells what it holds, and without a fault, it is exactly the one that the setup asks for.
  pub gives : (s : TreeAndObjects) → TellsTreeAndObjects (w.told w0) (f.holds o0) (stack_setup_if_excludes_option root setup) s → CountNotIncreased (w.faults w0) (w.faults w1)
      → IfOk result (IsWalkReportOfSetup (w.precomposes w0) s root setup)
  -- Over any worktree the entries ascend strictly by path, are counted, are none that the options hide, and are from a traversal root
  -- that was asked for.
  pub ordered : IfOk result (λ r. IsStrictlyAscendingByPath r.entries)
  pub counted : IfOk result (λ r. r.outcome.returned_entries ≡ min (length r.entries) (2 ^ 64 - 1))
  pub filtered : IfOk result (λ r. count_hidden_emissions (walk_options_of_setup (w.precomposes w0) setup) r.entries ≡ 0)
  pub seen : IfOk result (λ r. min r.outcome.returned_entries (2 ^ 32 - 1) ≤ r.outcome.seen_entries)
  pub once : IfOk result (IsReportFromNormalizedRoot (walk_setting_of_setup (w.precomposes w0) root setup) setup.root)
  pub named : (t : Names) → w.told w0 ≡ Some t → CountNotIncreased (w.faults w0) (w.faults w1)
      → IfOk result (λ r. IsTraversalRootPath (w.precomposes w0) t root setup r.root)
  -- Each refusal has its cause; over a told tree it is found there, whatever failed.
  pub about : IfErr result (IsWalkErrorAboutInput (w.precomposes w0) root setup)
  pub found : (s : TreeAndObjects) → w.told w0 ≡ Some s.tree → IfErr result (IsWalkErrorFoundInTree (w.precomposes w0) root setup (f.holds o0) s)
  pub cause : IfErr result (HoldsIfFaultError (CountIncreasedOrSaturated (w.faults w0) (w.faults w1)) (CountIncreasedOrSaturated (f.faults o0) (f.faults o1)))
  pub interrupted : IfErr result (HoldsIfInterrupted (CountIncreasedOrSaturated (i.raised i0) (i.raised i1)))
  pub listing : IfErr result (HoldsIfListingFault (CountIncreasedOrSaturated (w.list_faults w0) (w.list_faults w1)))
  pub no_root : (t : Names) → w.told w0 ≡ Some t → CountNotIncreased (w.faults w0) (w.faults w1) → IfErr result (IsErrorOfUnenteredRoot (w.precomposes w0) t root setup)
  pub refused : (s : TreeAndObjects) → TellsTreeAndObjects (w.told w0) (f.holds o0) (stack_setup_if_excludes_option root setup) s → CountNotIncreased (w.faults w0) (w.faults w1)
      → IfErr result (IsWalkErrorOfSetup (w.precomposes w0) s root setup (CountIncreasedOrSaturated (f.faults o0) (f.faults o1)))
  -- For valid input, and where nothing failed or was raised, only memory may be wanted.
  pub complete : (s : TreeAndObjects) → TellsTreeAndObjects (w.told w0) (f.holds o0) (stack_setup_if_excludes_option root setup) s
      → CountNotIncreased (w.faults w0) (w.faults w1) → CountNotIncreased (f.faults o0) (f.faults o1) → CountNotIncreased (i.raised i0) (i.raised i1)
      → HasReportOrIsWalkable (walk_setting_of_setup (w.precomposes w0) root setup) (stack_setup_if_excludes_option root setup) s setup.root setup.depth → IfErr result (λ e. e ≡ OutOfMemory)
  -- What stays.
  pub worktree : KeepsWorktree w w0 w1
  pub store : KeepsStoredObjects f o0 o1
  pub interrupt : AsksInterruptPerRaise i i0 i1
  pub listed : OnOk result (w.list_faults w1 ≡ w.list_faults w0)
  pub calm : OnOk result (i.raised i1 ≡ i.raised i0)
  -- What is opened and read.
  pub opens : CountsOpenedInWholeWalk w i w0 w1 i0 i1 setup.options.strategy (walk_setting_of_setup (w.precomposes w0) root setup) (stack_setup_if_excludes_option root setup) setup.root (λ (r : WalkReport). r.outcome) (λ (r : WalkReport). r.root) result
      (OpensAtMostAsWalkEnters w f w0 w1 o0 root setup (count_unlisted_in_answer result))

-- what holds of a refused walk
abbrev pub HoldsOfWalkError : (Error → Type 0) → ReportError → Type 0
HoldsOfWalkError Holds (errors.Walk e) = Holds e
HoldsOfWalkError Holds (errors.Config at line) = Unit {0}
HoldsOfWalkError Holds (errors.Modules line) = Unit {0}
HoldsOfWalkError Holds (errors.ActiveSpec at) = Unit {0}
HoldsOfWalkError Holds errors.ReadFault = Unit {0}
HoldsOfWalkError Holds errors.OutOfMemory = Unit {0}

-- what holds where the worktree failed, and what where the store did
abbrev pub HoldsIfReportFault : Type 0 → Type 0 → ReportError → Type 0
HoldsIfReportFault TreeFailed StoreFailed (errors.Walk e) = HoldsIfFaultError TreeFailed StoreFailed e
HoldsIfReportFault TreeFailed StoreFailed (errors.Config at line) = Unit {0}
HoldsIfReportFault TreeFailed StoreFailed (errors.Modules line) = Unit {0}
HoldsIfReportFault TreeFailed StoreFailed (errors.ActiveSpec at) = Unit {0}
HoldsIfReportFault TreeFailed StoreFailed errors.ReadFault = TreeFailed
HoldsIfReportFault TreeFailed StoreFailed errors.OutOfMemory = Unit {0}

-- What tells of submodules is outside its grammar just there where a refusal says so, and all of it is in its grammar where the
-- walk was refused, which comes later.
abbrev pub MisreadsExactlyWhereSaid : Result (Option Known) Misread → ReportError → Type 0
MisreadsExactlyWhereSaid given (errors.Config at line) = given ≡ Err (misread.Config at line)
MisreadsExactlyWhereSaid given (errors.Modules line) = given ≡ Err (misread.Modules line)
MisreadsExactlyWhereSaid given (errors.ActiveSpec at) = given ≡ Err (misread.ActiveSpec at)
MisreadsExactlyWhereSaid given errors.ReadFault = Unit {0}
MisreadsExactlyWhereSaid given (errors.Walk e) = IsKnownWithoutMisread given
MisreadsExactlyWhereSaid given errors.OutOfMemory = Unit {0}

-- a report is that of a walk with the submodules, and is refused for want of memory or as the walk is
abbrev pub IsReportOfWalkResult : Result Report ReportError → Option Known → Result WalkReport Error → Type 0
IsReportOfWalkResult (Ok r) known (Ok walked) = r ≡ report_with_submodules known walked
IsReportOfWalkResult (Ok r) known (Err e) = ⊥
IsReportOfWalkResult (Err error) known (Ok walked) = error ≡ errors.OutOfMemory
IsReportOfWalkResult (Err error) known (Err e) = error ≡ report_error_of_walk_error e

-- What is opened and read: what tells of submodules first, and then as the walk does. So many directories were opened, of which `Within`
-- says how many. The interrupt was asked before each, and before one was found too deep, and once more where it was raised. `composes`
-- says whether the worktree composes names.
pub record CountsOpenedForReport {W I : Type 0} (w : WorktreeOf W) (i : InterruptOf I) (composes : Bool) (w0 w1 : W) (i0 i1 : I) (root : List ℕ) (setup : Setup) (result : Result Report ReportError)
    (Within : ℕ → Type 0) : Type 0 where
  pub opened : ℕ
  pub within : Within opened
  pub listed : CountsListingsByStrategy setup.options.strategy (w.lists w0) (w.lists w1) opened
  pub asked : saturating_sum (i.questions i0) (opened + count_too_deep_in_report result + (i.raised i1 - i.raised i0)) ≤ i.questions i1
  pub counted : IfOk result (λ r. r.outcome.read_dir_calls ≡ min opened (2 ^ 32 - 1))
  pub reads : setup.options.strategy ≡ Held → reads_files_for_rules_only (walk_options_of_setup composes setup) ≡ true
      → ReadsAtMostAsWalkAndModules composes root setup result (w.reads w0) (w.reads w1) opened (one_if_refused result)

-- What tells of submodules was read before anything else, so many files and none of them again, and none of these readings failed.
pub record ReadsSubmoduleFilesFirst {W : Type 0} (w : WorktreeOf W) (w0 w1 : W) (files : ℕ) : Type 0 where
  pub loaded : W
  pub has : ReadsFilesWithoutFault w w0 loaded files
  pub behind : KeepsWorktree w loaded w1

-- The report of the work tree at `root`, where a worktree was `w0` and is `w1`, a store was `o0` and is `o1`, and an interrupt
-- was `i0` and is `i1`.
pub record MakesReportBySetup {W F I : Type 0} (w : WorktreeOf W) (f : FindOf F) (i : InterruptOf I) (w0 w1 : W) (o0 o1 : F) (i0 i1 : I)
    (root : List ℕ) (setup : Setup) (result : Result Report ReportError) : Type 0 where
  -- Over a told tree and a store that tells what it holds, and without a fault, it is exactly the one that the setup asks for.
  pub gives : (s : TreeAndObjects) → TellsTreeAndObjects (w.told w0) (f.holds o0) (stack_setup_if_excludes_option root setup) s → CountNotIncreased (w.faults w0) (w.faults w1)
      → IfOk result (IsReportOfSetup (w.precomposes w0) s root setup)
  -- Over any worktree the entries are in order, are counted, and have the submodules that are known.
  pub orderly : IfOk result (IsReportInOrder (w.precomposes w0) (w.told w0) root setup)
  pub named : (t : Names) → w.told w0 ≡ Some t → CountNotIncreased (w.faults w0) (w.faults w1)
      → IfOk result (λ r. IsTraversalRootPath (w.precomposes w0) t root setup r.root)
  -- Each refusal has its cause. What tells of submodules is read before the walk: where that is refused nothing else was asked.
  pub misread : (t : Names) → w.told w0 ≡ Some t → IfErr result (MisreadsExactlyWhereSaid (known_submodules_in_tree t root setup))
  pub outside : IfErr result (HoldsOfMisread (IsMisreadOfSetup root setup))
  pub alone : IfErr result (HoldsIfReadingError (ReadsOnlySubmoduleFiles w w0 w1 o0 o1 i0 i1 setup))
  pub stops : IfErr result (StopsReadingAtError w w0 w1 setup)
  -- No reading that failed is made again: where there is a report, or the walk was refused, each of these files was read once.
  pub loaded : OnOk result (ReadsSubmoduleFilesFirst w w0 w1 (count_files_if_submodules_asked setup))
  pub loaded_walk : IfErr result (HoldsOfWalkError (λ e. ReadsSubmoduleFilesFirst w w0 w1 (count_files_if_submodules_asked setup)))
  pub about : IfErr result (HoldsOfWalkError (IsWalkErrorAboutInput (w.precomposes w0) root setup))
  pub found : (s : TreeAndObjects) → w.told w0 ≡ Some s.tree → IfErr result (HoldsOfWalkError (IsWalkErrorFoundInTree (w.precomposes w0) root setup (f.holds o0) s))
  pub cause : IfErr result (HoldsIfReportFault (CountIncreasedOrSaturated (w.faults w0) (w.faults w1)) (CountIncreasedOrSaturated (f.faults o0) (f.faults o1)))
  pub interrupted : IfErr result (HoldsOfWalkError (HoldsIfInterrupted (CountIncreasedOrSaturated (i.raised i0) (i.raised i1))))
  pub listing : IfErr result (HoldsOfWalkError (HoldsIfListingFault (CountIncreasedOrSaturated (w.list_faults w0) (w.list_faults w1))))
  pub no_root : (t : Names) → w.told w0 ≡ Some t → CountNotIncreased (w.faults w0) (w.faults w1) → IfErr result (HoldsOfWalkError (IsErrorOfUnenteredRoot (w.precomposes w0) t root setup))
  pub refused : (s : TreeAndObjects) → TellsTreeAndObjects (w.told w0) (f.holds o0) (stack_setup_if_excludes_option root setup) s → CountNotIncreased (w.faults w0) (w.faults w1)
      → IfErr result (HoldsOfWalkError (IsWalkErrorOfSetup (w.precomposes w0) s root setup (CountIncreasedOrSaturated (f.faults o0) (f.faults o1))))
  -- For valid input, and where nothing failed or was raised, only memory may be wanted.
  pub complete : (s : TreeAndObjects) → TellsTreeAndObjects (w.told w0) (f.holds o0) (stack_setup_if_excludes_option root setup) s
      → CountNotIncreased (w.faults w0) (w.faults w1) → CountNotIncreased (f.faults o0) (f.faults o1) → CountNotIncreased (i.raised i0) (i.raised i1)
      → IsSetupValidAtRoot (w.precomposes w0) s root setup → IfErr result (λ e. e ≡ errors.OutOfMemory)
  -- What stays.
  pub worktree : KeepsWorktree w w0 w1
  pub store : KeepsStoredObjects f o0 o1
  pub interrupt : AsksInterruptPerRaise i i0 i1
  pub listed : OnOk result (w.list_faults w1 ≡ w.list_faults w0)
  pub calm : OnOk result (i.raised i1 ≡ i.raised i0)
  -- What is opened and read. Over what is told, and without a fault, no more directories are opened than the walk enters within its
  -- depth, and where a listing is refused one more.
  pub opens : CountsOpenedForReport w i (w.precomposes w0) w0 w1 i0 i1 root setup result (OpensAtMostAsWalkEnters w f w0 w1 o0 root setup (count_unlisted_in_report result))

-- There is no report, for an error that the refusal stands for; and no more was opened, asked and read than making it takes. Over a
-- told tree, and without a fault, no more directories were opened than the walk enters within its depth, and where a listing is
-- refused one more.
pub record RefusesReportWithinBounds {W I : Type 0} (w : WorktreeOf W) (i : InterruptOf I) (composes : Bool) (w0 w1 : W) (i0 i1 : I) (root : List ℕ) (setup : Setup) (refusal : Refusal) : Type 0 where
  pub error : ReportError
  pub is : refusal ≡ refusal_of_report_error error
  pub opens : CountsOpenedForReport w i composes w0 w1 i0 i1 root setup (Err error) (OpensAtMostAsWalkOverTree w composes w0 w1 root setup (count_unlisted_in_report {T = Report} (Err error)))

-- It is the text of a report that was made once: no more was opened, asked and read than making it takes, whatever failed. What tells of
-- submodules was read first, and without a fault.
pub record MakesReportTextOnce {W I : Type 0} (w : WorktreeOf W) (i : InterruptOf I) (composes : Bool) (w0 w1 : W) (i0 i1 : I) (root : List ℕ) (setup : Setup) (text : List ℕ) : Type 0 where
  pub report : Report
  pub text_is : text ≡ text_of_report setup.options report
  pub orderly : IsReportInOrder composes (w.told w0) root setup report
  pub loaded : ReadsSubmoduleFilesFirst w w0 w1 (count_files_if_submodules_asked setup)
  pub opens : CountsOpenedForReport w i composes w0 w1 i0 i1 root setup (Ok report) (OpensAtMostAsWalkOverTree w composes w0 w1 root setup 0)

-- what holds where the walk was refused or interrupted, so that all was read that tells of submodules
abbrev pub HoldsIfWalkRefusal : Type 0 → Refusal → Type 0
HoldsIfWalkRefusal Holds refusals.Interrupted = Holds
HoldsIfWalkRefusal Holds refusals.Usage = Unit {0}
HoldsIfWalkRefusal Holds (refusals.Setup line) = Unit {0}
HoldsIfWalkRefusal Holds (refusals.Misread which) = Unit {0}
HoldsIfWalkRefusal Holds (refusals.Walk word path) = Holds
HoldsIfWalkRefusal Holds refusals.Fault = Unit {0}
HoldsIfWalkRefusal Holds refusals.Output = Unit {0}
HoldsIfWalkRefusal Holds refusals.OutOfMemory = Unit {0}

-- The same of its text over a tree alone, with the refusals of the program. `composes` says whether the worktree composes names.
pub record MakesTextBySetup {W I : Type 0} (w : WorktreeOf W) (i : InterruptOf I) (composes : Bool) (w0 w1 : W) (i0 i1 : I) (root : List ℕ) (setup : Setup) (result : Result (List ℕ) Refusal) : Type 0 where
  pub gives : (t : Names) → w.told w0 ≡ Some t → CountNotIncreased (w.faults w0) (w.faults w1) → IfOk result (λ text. report_text_of_setup composes t root setup ≡ Some text)
  pub orderly : IfOk result (IsTextOfReportInOrder composes (w.told w0) root setup)
  pub safe : (t : Names) → w.told w0 ≡ Some t → CountNotIncreased (w.faults w0) (w.faults w1) → OnOk result (HasSafeReportAtRoot composes t root setup)
  pub works : (t : Names) → w.told w0 ≡ Some t → CountNotIncreased (w.faults w0) (w.faults w1)
      → OnOk result (AsksAndReadsForReport composes t root setup (i.questions i0) (i.questions i1) (w.reads w0) (w.reads w1))
  pub opens : (t : Names) → w.told w0 ≡ Some t → CountNotIncreased (w.faults w0) (w.faults w1) → OnOk result (ListsDirectoriesOfReport composes t root setup (w.lists w0) (w.lists w1))
  pub refused : (t : Names) → w.told w0 ≡ Some t → CountNotIncreased (w.faults w0) (w.faults w1)
      → (word : WalkWord) (path : List ℕ) → IsErrOf result (refusals.Walk word path) → RefusesWalkWithWordAndPath composes t root setup word path
  pub misread : (t : Names) → w.told w0 ≡ Some t → (which : Misread) → IsErrOf result (refusals.Misread which) → known_submodules_in_tree t root setup ≡ Err which
  pub outside : (which : Misread) → IsErrOf result (refusals.Misread which) → MisreadsBeforeWalk w w0 w1 i0 i1 root setup which
  pub about : (word : WalkWord) (path : List ℕ) → IsErrOf result (refusals.Walk word path) → IsWordAndPathAboutInput composes (w.told w0) root setup word path
  pub cause : IsErrOf result refusals.Fault → CountIncreasedOrSaturated (w.faults w0) (w.faults w1)
  pub fault_late : IsErrOf result refusals.Fault → FailsReadingBeforeWalk w w0 w1 i0 i1 setup ⊎ ((t : Names) → w.told w0 ≡ Some t → IsKnownWithoutMisread (known_submodules_in_tree t root setup))
  pub interrupted : IsErrOf result refusals.Interrupted → CountIncreasedOrSaturated (i.raised i0) (i.raised i1)
  pub interrupted_late : (t : Names) → w.told w0 ≡ Some t → IsErrOf result refusals.Interrupted → IsKnownWithoutMisread (known_submodules_in_tree t root setup)
  pub answers : IfErr result IsRefusalOfMakingReport
  -- One report was made for a text, whatever failed; and where a walk was refused, no reading that failed was made again before it.
  pub made : IfOk result (MakesReportTextOnce w i composes w0 w1 i0 i1 root setup)
  pub loaded : IfErr result (HoldsIfWalkRefusal (ReadsSubmoduleFilesFirst w w0 w1 (count_files_if_submodules_asked setup)))
  -- what is opened and read where there is no report; want of memory may come behind one
  pub making : IfErr result (λ refusal. (refusal ≡ refusals.OutOfMemory) ⊎ RefusesReportWithinBounds w i composes w0 w1 i0 i1 root setup refusal)
  pub complete : (t : Names) → w.told w0 ≡ Some t → CountNotIncreased (w.faults w0) (w.faults w1) → CountNotIncreased (i.raised i0) (i.raised i1)
      → IsSetupValidAtRoot composes (sources_of_tree_and_setup t setup) root setup → IfErr result (λ refusal. refusal ≡ refusals.OutOfMemory)
  pub worktree : KeepsWorktree w w0 w1
  pub interrupt : AsksInterruptPerRaise i i0 i1
  pub listed : OnOk result (w.list_faults w1 ≡ w.list_faults w0)
  -- where subtrees are walked at once, over forks, the worktree counts one directory as listed at most
  pub lists : setup.options.strategy ≡ AtOnce → w.lists w1 ≤ w.lists w0 + 1
  pub calm : OnOk result (i.raised i1 ≡ i.raised i0)
