-- What the top call gives, and why it gives nothing.
use Rattle.std.specs.Prelude.{◌≡◌, ◌≤◌, ◌+◌, ◌++◌, ◌∷◌, [], ℕ, List, Bool, true, false, codes, Option, Some, None, Ok, Result, IfOk, IfErr, OnOk}
use Rattle.std.specs.List.{flat_map}
use Rattle.gitbase_core.specs.Path.{is_empty_or_root_path}
use Rattle.worktree_fs.specs.declared.interrupt.Interrupt.{Ghosts as InterruptOf}
use Rattle.worktree_fs.specs.declared.worktree.Worktree.{Ghosts as WorktreeOf}
use Rattle.worktree_fs.specs.Causes.{CountNotIncreased, saturating_increment}
use Rattle.worktree_fs.specs.Tree.{Names, look}
use Rattle.dir_walk.specs.declared.strategy.Strategy.TheVariants.{AtOnce}
use Rattle.dir_walk.specs.Kept.{AsksInterruptPerRaise, KeepsWorktree}
use Rattle.worktree_report.specs.declared.refusal.Refusal.{Refusal}
use Rattle.worktree_report.specs.declared.refusal.Refusal.TheVariants as refusals
use Rattle.worktree_report.specs.declared.report.Report.{Report}
use Rattle.worktree_report.specs.declared.setup.Setup.{Setup}
use Rattle.worktree_report.specs.Asked.{sources_of_tree_and_setup, ListsDirectoriesOfReport, AsksAndReadsForReport}
use Rattle.worktree_report.specs.Behind.{AnswersBehindReadSetup, MakesReportTextFirst, RefusesTextWithCause}
use Rattle.worktree_report.specs.Converted as converted
use Rattle.worktree_report.specs.Escapes.{path_escaped}
use Rattle.worktree_report.specs.Orderly.{IsReportInOrder}
use Rattle.worktree_report.specs.Run.{AnswersIfCommand, RefusesOnlyWithCauses, IsReadyForReportAt, KeepsWorktreeAndInterrupt, ListsOneDirectoryIfAtOnce, ListsDirectoriesAtPlaces}
use Rattle.worktree_report.specs.SetupAt.{setup_of_file_looked_at}
use Rattle.clean_plan.specs.declared.error.CleanError.{CleanError}
use Rattle.clean_plan.specs.declared.error.CleanError.TheVariants as errors
use Rattle.clean_plan.specs.declared.outcome.Plan.{Plan}
use Rattle.clean_plan.specs.declared.what.Finding.{Finding}
use Rattle.clean_plan.specs.declared.what.Wanted.{Wanted}
use Rattle.clean_plan.specs.Kept.{has_dot_git_component}
use Rattle.clean_plan.specs.Paths.{AscendsStrictly, is_text_in_list}
use Rattle.clean_plan.specs.Planned.{IsSafePlanOverTree, IsPlanByReport}
use Rattle.clean_plan.specs.Prepared.{options_prepared_for_plan}
use Rattle.clean_plan.specs.Safe.{AscendOutsideGitAndIndex}
use Rattle.clean_plan.specs.Wanted.{allowing_special_and_spec_excluded}
use Rattle.clean_plan.specs.Words as words
use Rattle.clean_plan.specs.Words.{Request}

-- the line for words that ask for nothing
abbrev pub usage : List ℕ
usage = codes "usage: clean untracked|all|ignored nonbare|all ROOT SETUP\n"

-- the request of the words
abbrev pub request_of_words : Bool → List (List ℕ) → Option Request
request_of_words = words.parse_clean_request

-- ---- the text

-- a path, escaped, and a line feed
abbrev pub escaped_path_line : List ℕ → List ℕ
escaped_path_line path = path_escaped path ++ 10 ∷ []

-- a line for each path of a plan, in their order
abbrev pub lines_of_plan_paths : List (List ℕ) → List ℕ
lines_of_plan_paths paths = flat_map escaped_path_line paths

-- the setup with the options that a plan needs
abbrev pub setup_prepared_for_plan : Finding → Setup → Setup
setup_prepared_for_plan finding setup = record setup { options = options_prepared_for_plan finding setup.options }

-- it is the text of the plan for the work tree at `root`, by a setup that is prepared
pub record IsPlanTextBySetup (composes : Bool) (t : Names) (root : List ℕ) (setup : Setup) (wanted : Wanted) (text : List ℕ) : Type 0 where
  pub plan : Plan
  pub plan_is : IsSafePlanOverTree composes (sources_of_tree_and_setup t setup) root setup wanted plan
  pub text_is : text ≡ lines_of_plan_paths plan.paths.items

-- a path is not that of the root, and has no component `.git`
pub record IsBelowRootOutsideDotGit (path : List ℕ) : Type 0 where
  pub below : is_empty_or_root_path path ≡ false
  pub no_git : has_dot_git_component path ≡ false

-- it is the text of paths that ascend strictly, none of them that of the root or with a component `.git`
pub record IsTextOfPathsOutsideDotGit (text : List ℕ) : Type 0 where
  pub paths : List (List ℕ)
  pub ascends : AscendsStrictly paths
  pub each : (path : List ℕ) → is_text_in_list path paths ≡ true → IsBelowRootOutsideDotGit path
  pub text_is : text ≡ lines_of_plan_paths paths

-- Whatever a worktree tells, it is the text of a plan by the entries of some report of the work tree at `root` that is in order, and by
-- where the current directory is in its tree, if it tells one: none of its paths has an index entry at it or beneath it.
pub record IsPlanTextBySomeReport (composes : Bool) (told : Option Names) (root : List ℕ) (setup : Setup) (wanted : Wanted) (text : List ℕ) : Type 0 where
  pub report : Report
  pub orderly : IsReportInOrder composes told root setup report
  pub plan : Plan
  pub plan_is : IsPlanByReport told root setup wanted report plan
  pub spared : AscendOutsideGitAndIndex setup.options.ignore_case setup.index plan.paths.items
  pub text_is : text ≡ lines_of_plan_paths plan.paths.items

-- the same by a setup, prepared; where a tree is told, by the one that is read there
pub record IsRequestTextBySomeReport (composes : Bool) (told : Option Names) (request : Request) (text : List ℕ) : Type 0 where
  pub setup : Setup
  pub read : (t : Names) → told ≡ Some t → setup_of_file_looked_at (look t request.places.setup true) ≡ Ok setup
  pub text_is : IsPlanTextBySomeReport composes told request.places.root (setup_prepared_for_plan request.finding setup) (allowing_special_and_spec_excluded request.what) text

-- what making it takes: the setup is read once, and the rest is what the report by the prepared setup takes
pub record CountsPlanQuestionsAndReads (composes : Bool) (t : Names) (questions0 questions1 reads0 reads1 : ℕ) (request : Request) : Type 0 where
  pub setup : Setup
  pub read : setup_of_file_looked_at (look t request.places.setup true) ≡ Ok setup
  pub works : AsksAndReadsForReport composes t request.places.root (setup_prepared_for_plan request.finding setup) questions0 questions1 (saturating_increment reads0) reads1

-- It is the text of what is wanted over the tree `t`, as a request has it: the setup is read, and prepared.
pub record IsPlanTextOfRequestAndWanted (composes : Bool) (t : Names) (request : Request) (wanted : Wanted) (text : List ℕ) : Type 0 where
  pub setup : Setup
  pub read : setup_of_file_looked_at (look t request.places.setup true) ≡ Ok setup
  pub text_is : IsPlanTextBySetup composes t request.places.root (setup_prepared_for_plan request.finding setup) wanted text

-- it is the text that the request asks for
abbrev pub IsPlanTextOfRequest : Bool → Names → Request → List ℕ → Type 0
IsPlanTextOfRequest composes t request text = IsPlanTextOfRequestAndWanted composes t request (allowing_special_and_spec_excluded request.what) text

-- it is what is asked for, if something is
abbrev pub IsTextOfOptionalRequest : Bool → Names → Option Request → List ℕ → Type 0
IsTextOfOptionalRequest composes t None text = ⊥
IsTextOfOptionalRequest composes t (Some request) text = IsPlanTextOfRequest composes t request text

-- the bytes are those that the words ask for, over the tree `t`
abbrev pub IsPlanTextOfWords : Bool → Names → List (List ℕ) → List ℕ → Type 0
IsPlanTextOfWords composes t words text = IsTextOfOptionalRequest composes t (request_of_words composes words) text

-- ---- refusals

-- the refusal that stands for that of a plan
abbrev pub refusal_of_clean_error : CleanError → Refusal
refusal_of_clean_error (errors.Report e) = converted.refusal_of_report_error e
refusal_of_clean_error errors.Fault = refusals.Fault
refusal_of_clean_error errors.OutOfMemory = refusals.OutOfMemory

-- The text of the plan, or why there is none, where a worktree was `w0` and is `w1`, and an interrupt was `i0` and is `i1`. `composes`
-- says whether the worktree composes names.
pub record AnswersPlanTextOrRefusal {W I : Type 0} (w : WorktreeOf W) (i : InterruptOf I) (composes : Bool) (w0 w1 : W) (i0 i1 : I) (root : List ℕ) (setup : Setup) (wanted : Wanted) (answer : Result (List ℕ) Refusal) : Type 0 where
  pub gives : (t : Names) → w.told w0 ≡ Some t → IfOk answer (IsPlanTextBySetup composes t root setup wanted)
  pub by_report : IfOk answer (IsPlanTextBySomeReport composes (w.told w0) root setup wanted)
  -- no fault was counted, one that the walk swallows among them
  pub unfaulted : OnOk answer (CountNotIncreased (w.faults w0) (w.faults w1))
  -- one report was made, and behind it no file was read
  pub made : OnOk answer (MakesReportTextFirst w i composes w0 w1 i0 i1 root setup 0)
  -- the interrupt and the worktree's files are asked for the report alone
  pub works : (t : Names) → w.told w0 ≡ Some t
      → OnOk answer (AsksAndReadsForReport composes t root setup (i.questions i0) (i.questions i1) (w.reads w0) (w.reads w1))
  -- and so are its directories
  pub opens : (t : Names) → w.told w0 ≡ Some t → OnOk answer (ListsDirectoriesOfReport composes t root setup (w.lists w0) (w.lists w1))
  pub lists : setup.options.strategy ≡ AtOnce → w.lists w1 ≤ w.lists w0 + 1
  pub refused : IfErr answer (RefusesTextWithCause w i composes w0 w1 i0 i1 root setup 0)
  pub worktree : KeepsWorktree w w0 w1
  pub interrupt : AsksInterruptPerRaise i i0 i1
  pub listed : OnOk answer (w.list_faults w1 ≡ w.list_faults w0)
  pub calm : OnOk answer (i.raised i1 ≡ i.raised i0)

-- ---- the call

-- The text that a request asks for, or why there is none.
pub record AnswersCleanRequest {W I : Type 0} (w : WorktreeOf W) (i : InterruptOf I) (w0 w1 : W) (i0 i1 : I) (request : Request) (answer : Result (List ℕ) Refusal) : Type 0 where
  -- Over a told tree it is exactly the one that the prepared setup asks for, and safe to act on.
  pub gives : (t : Names) → w.told w0 ≡ Some t → IfOk answer (IsPlanTextOfRequest (w.precomposes w0) t request)
  -- Over any worktree no fault was counted where there is a text, and the count does not stand at its last value.
  pub unfaulted : OnOk answer (CountNotIncreased (w.faults w0) (w.faults w1))
  -- Over any worktree it is the text of a plan by some report, and spares what the index has.
  pub by_report : IfOk answer (IsRequestTextBySomeReport (w.precomposes w0) (w.told w0) request)
  -- Over any worktree it has neither the root nor what has a component `.git`.
  pub outside_git : IfOk answer IsTextOfPathsOutsideDotGit
  pub works : (t : Names) → w.told w0 ≡ Some t
      → OnOk answer (CountsPlanQuestionsAndReads (w.precomposes w0) t (i.questions i0) (i.questions i1) (w.reads w0) (w.reads w1) request)
  -- Directories are listed for the report alone; where subtrees are walked at once, one is counted at most, whatever is answered.
  pub opens : (t : Names) → w.told w0 ≡ Some t
      → OnOk answer (ListsDirectoriesAtPlaces (setup_prepared_for_plan request.finding) (w.precomposes w0) t request.places (w.lists w0) (w.lists w1))
  pub lists : (t : Names) → w.told w0 ≡ Some t → ListsOneDirectoryIfAtOnce t request.places (w.lists w0) (w.lists w1)
  pub causes : RefusesOnlyWithCauses w i w0 w1 i0 i1 (setup_prepared_for_plan request.finding) request.places answer
  -- It comes by the setup, which was read once and without a fault, then prepared; or as that was not read. By the setup a refusal, but for
  -- want of memory, comes as the report is made, or behind that, where no file is read.
  pub in_order : AnswersBehindReadSetup w w0 w1 i0 i1 request.places
      (λ setup loaded. AnswersPlanTextOrRefusal w i (w.precomposes w0) loaded w1 i0 i1 request.places.root (setup_prepared_for_plan request.finding setup) (allowing_special_and_spec_excluded request.what) answer) answer
  pub keeps : KeepsWorktreeAndInterrupt w i w0 w1 i0 i1 answer

-- the text that is asked for, or why there is none
abbrev pub AnswersOptionalCleanRequest : {W I : Type 0} → WorktreeOf W → InterruptOf I → W → W → I → I → Option Request → Result (List ℕ) Refusal → Type 0
AnswersOptionalCleanRequest w i w0 w1 i0 i1 asked answer = AnswersIfCommand (AnswersCleanRequest w i w0 w1 i0 i1) w0 w1 i0 i1 asked answer

-- what is asked for can be had
abbrev pub IsTreeReadyForRequest : Bool → Names → Option Request → Type 0
IsTreeReadyForRequest composes t None = ⊥
IsTreeReadyForRequest composes t (Some request) = IsReadyForReportAt (setup_prepared_for_plan request.finding) composes t request.places

-- The words, the setup and the worktree are as they should be.
abbrev pub AreValidCleanWords : Bool → Names → List (List ℕ) → Type 0
AreValidCleanWords composes t words = IsTreeReadyForRequest composes t (request_of_words composes words)
