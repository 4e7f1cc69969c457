-- What the top call gives, and why it gives nothing.
use Rattle.std.specs.Prelude.{◌≡◌, ◌⊎◌, ◌≤◌, ◌+◌, ℕ, List, Bool, true, codes, Option, Some, None, option_and_then, Result, Ok, Err, IfOk, IfErr, OnOk, IsErrOf}
use Rattle.std.specs.Result.{result_ok}
use Rattle.worktree_fs.specs.declared.interrupt.Interrupt.{Ghosts as InterruptOf}
use Rattle.worktree_fs.specs.declared.worktree.Worktree.{Ghosts as WorktreeOf}
use Rattle.worktree_fs.specs.Causes.{CountNotIncreased, CountIncreasedOrSaturated, saturating_increment}
use Rattle.worktree_fs.specs.Tree.{Names, look}
use Rattle.submodule.specs.Active.{active_specs_or_error_of_config}
use Rattle.module_plan.specs.declared.error.ModuleError.{ModuleError}
use Rattle.module_plan.specs.declared.error.ModuleError.TheVariants as errors
use Rattle.module_plan.specs.declared.step.ModulePlan.{ModulePlan}
use Rattle.module_plan.specs.declared.step.Verdict.{Verdict}
use Rattle.module_plan.specs.Lines.{text_of_plan}
use Rattle.module_plan.specs.Order.{sort_steps_by_path}
use Rattle.module_plan.specs.Plans.{HasNoObstacles, HasOnlySafeSteps, IsStrictlySortedByPath, IsSortedPlanOfVerdicts, IsPlanOfPossibleVerdicts, index_of_refused_active_value, verdicts_on_all_submodules}
use Rattle.module_plan.specs.Verdicts.{steps_of_verdicts, skipped_of_verdicts}
use Rattle.module_plan.specs.Wanted.{plan_input_of_configs}
use Rattle.worktree_report.specs.declared.known.Known.{Known}
use Rattle.worktree_report.specs.declared.modules.Modules.{Modules}
use Rattle.worktree_report.specs.declared.refusal.Misread.{Misread}
use Rattle.worktree_report.specs.declared.refusal.Misread.TheVariants as misread
use Rattle.worktree_report.specs.declared.refusal.Refusal.{Refusal}
use Rattle.worktree_report.specs.declared.refusal.Refusal.TheVariants as refusals
use Rattle.worktree_report.specs.declared.setup.Setup.{Setup}
use Rattle.worktree_report.specs.Loading.{count_files_for_submodules, known_submodules_in_tree, modules_of_setup_in_tree, AreModulesOfSomeText, IsKnownWithoutMisread}
use Rattle.worktree_report.specs.Outside.{count_files_read_to_misread, IsMisreadAskedBySetup, StopsAtUnreadFile}
use Rattle.worktree_report.specs.Run.{AnswersIfCommand, IsMisreadOfCommandSetup, AreSubmodulesKnownAtPlaces, MisreadsSubmoduleFiles, ReadsFilesUpToMisread, RefusesSetupAtLine, StopsAtUnreadSubmoduleFile}
use Rattle.worktree_report.specs.SetupAt.{setup_of_file_looked_at}
use Rattle.gitbase_core.specs.Steps.{◌>>=◌}
use Rattle.worktree_report.specs.Words.{RootAndSetupPaths, parse_places_of_command}

-- the line for words that ask for nothing
abbrev pub usage : List ℕ
usage = codes "usage: modules ROOT SETUP\n"

-- The places that are asked for: the words are `modules ROOT SETUP`, with `composed` before them exactly where the worktree composes
-- names. Any other words ask for nothing.
abbrev pub root_and_setup_of_modules_command : Bool → List (List ℕ) → Option RootAndSetupPaths
root_and_setup_of_modules_command composes words = parse_places_of_command (codes "modules") composes words

-- a setup, with submodules asked for
abbrev pub setup_with_submodules_option : Setup → Setup
setup_with_submodules_option setup = record setup { options = record setup.options { submodules = true } }

-- ---- the text

-- the plan of what becomes of each submodule: its lines
abbrev pub plan_text_of_verdicts : List Verdict → List ℕ
plan_text_of_verdicts vs = text_of_plan (sort_steps_by_path (steps_of_verdicts vs)) (skipped_of_verdicts vs)

-- what becomes of the submodules that files tell of, over a tree; `fold` says whether letters fold in path specs
abbrev pub verdicts_of_modules : Names → List ℕ → Bool → Modules → List Verdict
verdicts_of_modules t root fold modules = verdicts_on_all_submodules t root (plan_input_of_configs fold modules.file modules.config)

-- the text, unless a value is refused
abbrev pub text_unless_value_refused : Option ℕ → List ℕ → Option (List ℕ)
text_unless_value_refused None text = Some text
text_unless_value_refused (Some value) text = None

-- none where a value of `submodule.active` is refused
abbrev pub plan_text_of_modules : Names → List ℕ → Bool → Modules → Option (List ℕ)
plan_text_of_modules t root fold modules =
    text_unless_value_refused (index_of_refused_active_value (active_specs_or_error_of_config fold modules.config.sections)) (plan_text_of_verdicts (verdicts_of_modules t root fold modules))

-- and where what tells of submodules is outside its grammar
abbrev pub plan_text_by_setup : Names → List ℕ → Setup → Option (List ℕ)
plan_text_by_setup t root setup = option_and_then (plan_text_of_modules t root setup.options.ignore_case) (result_ok (modules_of_setup_in_tree t root setup))

-- The bytes over the tree `t`. None where the setup is no file or has a line outside the grammar, or what tells of submodules is
-- outside its own.
unfoldable pub read_setup_and_make_plan_text : Names → RootAndSetupPaths → Option (List ℕ)
read_setup_and_make_plan_text t places = do
  setup ← result_ok (setup_of_file_looked_at (look t places.setup true))
  plan_text_by_setup t places.root setup

-- the bytes that the words ask for; none where they ask for nothing too
abbrev pub modules_plan_text_for_words : Bool → Names → List (List ℕ) → Option (List ℕ)
modules_plan_text_for_words composes t words = option_and_then (read_setup_and_make_plan_text t) (root_and_setup_of_modules_command composes words)

-- ---- what is safe

-- a plan of what files tell may be carried out: its steps are safe, and nothing bars the way to one
pub record HasSafeUnobstructedPlan (t : Names) (root : List ℕ) (fold : Bool) (modules : Modules) : Type 0 where
  pub plan : ModulePlan
  pub is_plan : IsSortedPlanOfVerdicts (verdicts_of_modules t root fold modules) plan
  pub safe : HasOnlySafeSteps (plan_input_of_configs fold modules.file modules.config) plan
  pub open_way : HasNoObstacles t root plan

-- Whatever a worktree tells: a text that is the lines of a plan of what some text in the place of `.gitmodules` tells, with the overrides of
-- some configuration. Each of the names has its verdict there, open but for what bars the way; the steps ascend strictly by path, and each
-- is safe to take. `fold` says whether letters fold in path specs.
pub record IsTextOfSafePlan (told : Option Names) (root : List ℕ) (fold : Bool) (text : List ℕ) : Type 0 where
  pub modules : Modules
  pub told_by : AreModulesOfSomeText root modules
  pub plan : ModulePlan
  pub possible : IsPlanOfPossibleVerdicts told root (plan_input_of_configs fold modules.file modules.config) plan
  pub ascends : IsStrictlySortedByPath plan.steps.items
  pub safe : HasOnlySafeSteps (plan_input_of_configs fold modules.file modules.config) plan
  pub text_is : text ≡ text_of_plan plan.steps.items plan.skipped.items

-- The same by a setup; where a tree is told, by the one that is read there.
pub record IsSafePlanTextBySetup (told : Option Names) (places : RootAndSetupPaths) (text : List ℕ) : Type 0 where
  pub setup : Setup
  pub read : (t : Names) → told ≡ Some t → setup_of_file_looked_at (look t places.setup true) ≡ Ok setup
  pub is : IsTextOfSafePlan told places.root setup.options.ignore_case text

-- the modules of the tree are read, and each plan of theirs is safe
pub record HasSafePlanBySetup (t : Names) (root : List ℕ) (setup : Setup) : Type 0 where
  pub modules : Modules
  pub read : modules_of_setup_in_tree t root setup ≡ Ok modules
  pub safe : HasSafeUnobstructedPlan t root setup.options.ignore_case modules

-- the setup is read, and each plan by it is safe
pub record HasSafePlanBySetupFile (t : Names) (places : RootAndSetupPaths) : Type 0 where
  pub setup : Setup
  pub read : setup_of_file_looked_at (look t places.setup true) ≡ Ok setup
  pub safe : HasSafePlanBySetup t places.root setup

-- ---- refusals

-- the refusal that stands for that of a plan
abbrev pub refusal_of_module_error : ModuleError → Refusal
refusal_of_module_error (errors.ActiveSpec value) = refusals.Misread (misread.ActiveSpec value)
refusal_of_module_error (errors.Fault path) = refusals.Fault
refusal_of_module_error errors.OutOfMemory = refusals.OutOfMemory

-- a refusal that may come once the setup is read; a fault where the worktree failed
abbrev pub MayComeFromPlanning : Type 0 → Refusal → Type 0
MayComeFromPlanning Failed refusals.Interrupted = ⊥
MayComeFromPlanning Failed refusals.Usage = ⊥
MayComeFromPlanning Failed (refusals.Setup line) = ⊥
MayComeFromPlanning Failed (refusals.Misread which) = Unit {0}
MayComeFromPlanning Failed (refusals.Walk word path) = ⊥
MayComeFromPlanning Failed refusals.Fault = Failed
MayComeFromPlanning Failed refusals.Output = ⊥
MayComeFromPlanning Failed refusals.OutOfMemory = Unit {0}

-- and that may come at all: no interrupt is asked, and nothing is walked
abbrev pub MayComeFromModulesCommand : Type 0 → Refusal → Type 0
MayComeFromModulesCommand Failed refusals.Interrupted = ⊥
MayComeFromModulesCommand Failed refusals.Usage = ⊥
MayComeFromModulesCommand Failed (refusals.Setup line) = Unit {0}
MayComeFromModulesCommand Failed (refusals.Misread which) = Unit {0}
MayComeFromModulesCommand Failed (refusals.Walk word path) = ⊥
MayComeFromModulesCommand Failed refusals.Fault = Failed
MayComeFromModulesCommand Failed refusals.Output = ⊥
MayComeFromModulesCommand Failed refusals.OutOfMemory = Unit {0}

-- The text of the plan, or why there is none, where a worktree was `w0` and is `w1`.
pub record MakesPlanText {W : Type 0} (w : WorktreeOf W) (w0 w1 : W) (root : List ℕ) (setup : Setup) (answer : Result (List ℕ) Refusal) : Type 0 where
  pub gives : (t : Names) → w.told w0 ≡ Some t → IfOk answer (λ text. plan_text_by_setup t root setup ≡ Some text)
  pub safe : (t : Names) → w.told w0 ≡ Some t → OnOk answer (HasSafePlanBySetup t root setup)
  pub orderly : IfOk answer (IsTextOfSafePlan (w.told w0) root setup.options.ignore_case)
  pub misread : (t : Names) → w.told w0 ≡ Some t → (which : Misread) → IsErrOf answer (refusals.Misread which) → known_submodules_in_tree t root (setup_with_submodules_option setup) ≡ Err which
  pub about : (which : Misread) → IsErrOf answer (refusals.Misread which) → IsMisreadAskedBySetup root (setup_with_submodules_option setup) which
  pub misread_reads : (which : Misread) → IsErrOf answer (refusals.Misread which) → w.reads w1 ≤ w.reads w0 + count_files_read_to_misread setup which
  pub refused : IfErr answer (MayComeFromPlanning (CountIncreasedOrSaturated (w.faults w0) (w.faults w1)))
  pub fault_late : IsErrOf answer refusals.Fault → (t : Names) → w.told w0 ≡ Some t
      → StopsAtUnreadFile t setup (w.reads w0) (w.reads w1) ⊎ IsKnownWithoutMisread (known_submodules_in_tree t root (setup_with_submodules_option setup))
  pub unfaulted : OnOk answer (w.faults w1 ≡ w.faults w0)
  pub reads : w.reads w1 ≤ w.reads w0 + count_files_for_submodules setup
  pub tree : w.told w1 ≡ w.told w0
  pub faults : w.faults w0 ≤ w.faults w1
  pub list_faults : w.list_faults w1 ≡ w.list_faults w0
  pub lists : w.lists w1 ≡ w.lists w0
  pub precomposes : w.precomposes w1 ≡ w.precomposes w0

-- ---- the call

-- the setup is a file in its grammar, and so is what tells of submodules
pub record AreSetupAndModulesReadable (t : Names) (places : RootAndSetupPaths) : Type 0 where
  pub setup : Setup
  pub read : setup_of_file_looked_at (look t places.setup true) ≡ Ok setup
  pub known : Option Known
  pub known_is : known_submodules_in_tree t places.root (setup_with_submodules_option setup) ≡ Ok known

-- a fault comes in its time: no file was read behind the setup, or one that tells of submodules could not be, or all that tells of them is
-- in its grammar
abbrev pub FailsReadingInOrder : Names → RootAndSetupPaths → ℕ → ℕ → Type 0
FailsReadingInOrder t places reads0 reads1 = (reads1 ≤ saturating_increment reads0) ⊎ (StopsAtUnreadSubmoduleFile setup_with_submodules_option t places reads0 reads1 ⊎ AreSubmodulesKnownAtPlaces setup_with_submodules_option t places)

-- the setup is read once, and where it is one, each file that it asks for once at most
abbrev pub ReadsEachFileAtMostOnce : Names → RootAndSetupPaths → ℕ → ℕ → Type 0
ReadsEachFileAtMostOnce t places reads0 reads1 =
    (reads1 ≤ saturating_increment reads0) ⊎ ((setup : Setup) × (setup_of_file_looked_at (look t places.setup true) ≡ Ok setup) × (reads1 ≤ saturating_increment reads0 + count_files_for_submodules setup))

-- The text of the plan at some places, or why there is none, where a worktree was `w0` and is `w1`.
pub record AnswersPlanAtPlaces {W : Type 0} (w : WorktreeOf W) (w0 w1 : W) (places : RootAndSetupPaths) (answer : Result (List ℕ) Refusal) : Type 0 where
  -- Over a told tree it is exactly the one that the files ask for, and safe to carry out.
  pub gives : (t : Names) → w.told w0 ≡ Some t → IfOk answer (λ text. read_setup_and_make_plan_text t places ≡ Some text)
  pub safe : (t : Names) → w.told w0 ≡ Some t → OnOk answer (HasSafePlanBySetupFile t places)
  -- Whatever the worktree tells, it is that of a plan whose steps are safe and in order, by what a text in the place of `.gitmodules` tells.
  pub orderly : IfOk answer (IsSafePlanTextBySetup (w.told w0) places)
  -- Each refusal has its cause.
  pub refused : IfErr answer (MayComeFromModulesCommand (CountIncreasedOrSaturated (w.faults w0) (w.faults w1)))
  -- Over a told tree a fault comes where no file was read behind the setup, or one that tells of submodules could not be, or all that
  -- tells of them is in its grammar.
  pub fault_late : IsErrOf answer refusals.Fault → (t : Names) → w.told w0 ≡ Some t → FailsReadingInOrder t places (w.reads w0) (w.reads w1)
  pub setup : (t : Names) → w.told w0 ≡ Some t → (line : ℕ) → IsErrOf answer (refusals.Setup line) → RefusesSetupAtLine t places line
  pub misread : (t : Names) → w.told w0 ≡ Some t → (which : Misread) → IsErrOf answer (refusals.Misread which) → MisreadsSubmoduleFiles setup_with_submodules_option t places which
  pub misread_about : (which : Misread) → IsErrOf answer (refusals.Misread which) → IsMisreadOfCommandSetup setup_with_submodules_option (w.told w0) places which
  -- Told or not, nothing is read behind a setup that is refused, nor behind what is outside its grammar.
  pub setup_reads : (line : ℕ) → IsErrOf answer (refusals.Setup line) → w.reads w1 ≤ saturating_increment (w.reads w0)
  pub misread_reads : (which : Misread) → IsErrOf answer (refusals.Misread which) → ReadsFilesUpToMisread setup_with_submodules_option (w.told w0) places which (w.reads w0) (w.reads w1)
  -- For valid input, and where nothing failed, only memory may be wanted.
  pub complete : (t : Names) → w.told w0 ≡ Some t → CountNotIncreased (w.faults w0) (w.faults w1) → AreSetupAndModulesReadable t places
      → IfErr answer (λ refusal. refusal ≡ refusals.OutOfMemory)
  -- Where there is a text nothing failed, so that no call that failed is made again and answered as if it had not.
  pub unfaulted : OnOk answer (w.faults w1 ≡ w.faults w0)
  -- Each file is read once at most, and none behind the setup where that is refused.
  pub reads : (t : Names) → w.told w0 ≡ Some t → ReadsEachFileAtMostOnce t places (w.reads w0) (w.reads w1)
  -- What stays.
  pub tree : w.told w1 ≡ w.told w0
  pub faults : w.faults w0 ≤ w.faults w1
  pub list_faults : w.list_faults w1 ≡ w.list_faults w0
  pub lists : w.lists w1 ≡ w.lists w0
  pub precomposes : w.precomposes w1 ≡ w.precomposes w0

-- the text that is asked for, or why there is none; no interrupt is handed in for it
abbrev pub AnswersPlanCommand : {W : Type 0} → WorktreeOf W → W → W → Option RootAndSetupPaths → Result (List ℕ) Refusal → Type 0
AnswersPlanCommand w w0 w1 asked answer = AnswersIfCommand {I = Unit {0}} (AnswersPlanAtPlaces w w0 w1) w0 w1 tt tt asked answer

-- and the interrupt has been asked nothing
abbrev pub AnswersPlanWithoutInterrupt : {W I : Type 0} → WorktreeOf W → InterruptOf I → W → W → I → I → Option RootAndSetupPaths → Result (List ℕ) Refusal → Type 0
AnswersPlanWithoutInterrupt w i w0 w1 i0 i1 places answer = AnswersPlanCommand w w0 w1 places answer × (i1 ≡ i0)

-- what is asked for can be had
abbrev pub CanPlanBeAnswered : Names → Option RootAndSetupPaths → Type 0
CanPlanBeAnswered t None = ⊥
CanPlanBeAnswered t (Some places) = AreSetupAndModulesReadable t places

-- The words, the setup and what tells of submodules are as they should be.
abbrev pub AreWordsValidInTree : Bool → Names → List (List ℕ) → Type 0
AreWordsValidInTree composes t words = CanPlanBeAnswered t (root_and_setup_of_modules_command composes words)
