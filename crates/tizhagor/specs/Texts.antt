-- The text of each call, by the root and the setup that were found.
use Rattle.std.specs.Prelude.{◌≡◌, ◌≤◌, ℕ, List, Bool, Option, Some, Result, Ok, Err, IfOk, IfErr, OnOk, IsErrOf}
use Rattle.worktree_fs.specs.declared.interrupt.Interrupt.{Ghosts as InterruptOf}
use Rattle.worktree_fs.specs.declared.worktree.Worktree.{Ghosts as WorktreeOf}
use Rattle.worktree_fs.specs.Causes.{CountIncreasedOrSaturated, CountNotIncreased}
use Rattle.worktree_fs.specs.Tree.{Names}
use Rattle.worktree_report.specs.Asked.{sources_of_tree_and_setup, report_text_of_setup, IsSetupValidAtRoot, RefusesWalkWithWordAndPath}
use Rattle.worktree_report.specs.Loading.{known_submodules_in_tree}
use Rattle.worktree_report.specs.Reported.{MakesTextBySetup}
use Rattle.worktree_report.specs.Run as report
use Rattle.worktree_report.specs.declared.known.Known.{Known}
use Rattle.worktree_report.specs.declared.refusal.Refusal.{Refusal}
use Rattle.worktree_report.specs.declared.refusal.Refusal.TheVariants as refusals
use Rattle.worktree_report.specs.declared.setup.Setup.{Setup}
use Rattle.clean_plan.specs.Run as clean
use Rattle.clean_plan.specs.Wanted.{keeping_special_and_spec_excluded}
use Rattle.index_status.specs.Run as status
use Rattle.module_plan.specs.Run as modules
use Rattle.tizhagor.specs.declared.call.Call.{Call}
use Rattle.tizhagor.specs.declared.call.Call.TheVariants as calls

-- it is the text that a call asks for, over the tree `t` by a setup; for a plan of what may be removed by the setup that is prepared
abbrev pub IsTextOfCall : Call → Bool → Names → List ℕ → Setup → List ℕ → Type 0
IsTextOfCall calls.Report composes t root setup text = report_text_of_setup composes t root setup ≡ Some text
IsTextOfCall (calls.Plan what finding) composes t root setup text = clean.IsPlanTextBySetup composes t root (clean.setup_prepared_for_plan finding setup) (keeping_special_and_spec_excluded what) text
IsTextOfCall calls.Modules composes t root setup text = modules.plan_text_by_setup t root setup ≡ Some text
IsTextOfCall calls.State composes t root setup text = status.status_text_over_tree composes t root setup ≡ Some text

-- What making it says, where a worktree was `w0` and is `w1`, and an interrupt was `i0` and is `i1`: of the text or the refusal, its cause,
-- and what stays.
abbrev pub MakesTextOfCall : {W I : Type 0} → WorktreeOf W → InterruptOf I → W → W → I → I → List ℕ → Setup → Result (List ℕ) Refusal → Call → Type 0
MakesTextOfCall w i w0 w1 i0 i1 root setup answer calls.Report = MakesTextBySetup w i (w.precomposes w0) w0 w1 i0 i1 root setup answer
MakesTextOfCall w i w0 w1 i0 i1 root setup answer (calls.Plan what finding) = clean.AnswersPlanTextOrRefusal w i (w.precomposes w0) w0 w1 i0 i1 root (clean.setup_prepared_for_plan finding setup) (keeping_special_and_spec_excluded what) answer
MakesTextOfCall w i w0 w1 i0 i1 root setup answer calls.Modules = modules.MakesPlanText w w0 w1 root setup answer × (i1 ≡ i0)
MakesTextOfCall w i w0 w1 i0 i1 root setup answer calls.State = status.AnswersStatusTextOrRefusal w i (w.precomposes w0) w0 w1 i0 i1 root setup answer

-- What is said of the count of faults where there is a text: that none was counted, and, where it makes a report, that the count does not
-- stand at its last value. A report alone is given with faults that the walk goes on with.
abbrev pub CountsNoFaultForCall : Call → ℕ → ℕ → Type 0
CountsNoFaultForCall calls.Report before now = Unit {0}
CountsNoFaultForCall (calls.Plan what finding) before now = (now ≡ before) × CountNotIncreased before now
CountsNoFaultForCall calls.Modules before now = now ≡ before
CountsNoFaultForCall calls.State before now = (now ≡ before) × CountNotIncreased before now

-- what has to be known of that count besides, so that the text is said
abbrev pub TextNeedsNoFaultForCall : Call → ℕ → ℕ → Type 0
TextNeedsNoFaultForCall calls.Report before now = CountNotIncreased before now
TextNeedsNoFaultForCall (calls.Plan what finding) before now = Unit {0}
TextNeedsNoFaultForCall calls.Modules before now = Unit {0}
TextNeedsNoFaultForCall calls.State before now = Unit {0}

-- what tells of submodules is in its grammar
pub record AreSubmoduleFilesValid (t : Names) (root : List ℕ) (setup : Setup) : Type 0 where
  pub known : Option Known
  pub known_is : known_submodules_in_tree t root (modules.setup_with_submodules_option setup) ≡ Ok known

-- the text can be had
abbrev pub IsSetupValidForCall : Call → Bool → Names → List ℕ → Setup → Type 0
IsSetupValidForCall calls.Report composes t root setup = IsSetupValidAtRoot composes (sources_of_tree_and_setup t setup) root setup
IsSetupValidForCall (calls.Plan what finding) composes t root setup =
    IsSetupValidAtRoot composes (sources_of_tree_and_setup t (clean.setup_prepared_for_plan finding setup)) root (clean.setup_prepared_for_plan finding setup)
IsSetupValidForCall calls.Modules composes t root setup = AreSubmoduleFilesValid t root setup
IsSetupValidForCall calls.State composes t root setup = IsSetupValidAtRoot composes (sources_of_tree_and_setup t setup) root setup

-- ---- why there is no text

-- a report is refused over the tree: what tells of submodules is outside its grammar, or the walk stops
abbrev pub RefusesReportOverTree : Bool → Names → List ℕ → Setup → Refusal → Type 0
RefusesReportOverTree composes t root setup (refusals.Walk word path) = RefusesWalkWithWordAndPath composes t root setup word path
RefusesReportOverTree composes t root setup (refusals.Misread which) = known_submodules_in_tree t root setup ≡ Err which
RefusesReportOverTree composes t root setup refusals.Interrupted = ⊥
RefusesReportOverTree composes t root setup refusals.Usage = ⊥
RefusesReportOverTree composes t root setup (refusals.Setup line) = ⊥
RefusesReportOverTree composes t root setup refusals.Fault = ⊥
RefusesReportOverTree composes t root setup refusals.Output = ⊥
RefusesReportOverTree composes t root setup refusals.OutOfMemory = ⊥

-- and so are steps for submodules: nothing is walked for them
abbrev pub RefusesSubmoduleSteps : Names → List ℕ → Setup → Refusal → Type 0
RefusesSubmoduleSteps t root setup (refusals.Misread which) = known_submodules_in_tree t root setup ≡ Err which
RefusesSubmoduleSteps t root setup (refusals.Walk word path) = ⊥
RefusesSubmoduleSteps t root setup refusals.Interrupted = ⊥
RefusesSubmoduleSteps t root setup refusals.Usage = ⊥
RefusesSubmoduleSteps t root setup (refusals.Setup line) = ⊥
RefusesSubmoduleSteps t root setup refusals.Fault = ⊥
RefusesSubmoduleSteps t root setup refusals.Output = ⊥
RefusesSubmoduleSteps t root setup refusals.OutOfMemory = ⊥

-- the text of a call is refused over the tree by a root and a setup
abbrev pub RefusesTextOfCall : Call → Bool → Names → List ℕ → Setup → Refusal → Type 0
RefusesTextOfCall calls.Report composes t root setup refusal = RefusesReportOverTree composes t root setup refusal
RefusesTextOfCall (calls.Plan what finding) composes t root setup refusal = RefusesReportOverTree composes t root (clean.setup_prepared_for_plan finding setup) refusal
RefusesTextOfCall calls.Modules composes t root setup refusal = RefusesSubmoduleSteps t root (modules.setup_with_submodules_option setup) refusal
RefusesTextOfCall calls.State composes t root setup refusal = RefusesReportOverTree composes t root setup refusal

-- The same text as that of the program that reads a setup text: the call's own words, over the work tree at `root` with the setup text
-- at `path`; but that a plan leaves pipes, sockets and devices where they lie.
abbrev pub IsTextOfCallBySetupFile : Call → Bool → Names → List ℕ → List ℕ → List ℕ → Type 0
IsTextOfCallBySetupFile calls.Report composes t root path text = report.report_text_at_places composes t (record { root = root; setup = path }) ≡ Some text
IsTextOfCallBySetupFile (calls.Plan what finding) composes t root path text =
    clean.IsPlanTextOfRequestAndWanted composes t (record { what = what; finding = finding; places = record { root = root; setup = path } }) (keeping_special_and_spec_excluded what) text
IsTextOfCallBySetupFile calls.Modules composes t root path text = modules.read_setup_and_make_plan_text t (record { root = root; setup = path }) ≡ Some text
IsTextOfCallBySetupFile calls.State composes t root path text = status.status_text_by_setup_in_tree composes t (record { root = root; setup = path }) ≡ Some text
