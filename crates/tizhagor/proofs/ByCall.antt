-- What follows of the text of a call by a setup.
use Rattle.std.proofs.Common.{◌≡◌, ◌⊎◌, ◌≤◌, inl, inr, ℕ, List, Bool, true, Option, Some, None, Result, Ok, Err, IfOk, IfErr, OnOk, ap, sym, ◌∙◌, subst, refl, arith}
use Rattle.worktree_fs.specs.declared.interrupt.Interrupt.{Ghosts as InterruptOf}
use Rattle.worktree_fs.specs.declared.worktree.Worktree.{Ghosts as WorktreeOf}
use Rattle.worktree_fs.specs.Causes.{CountIncreasedOrSaturated, CountNotIncreased}
use Rattle.worktree_fs.specs.Tree.{Names, look}
use Rattle.worktree_report.specs.Behind.{RefusesTextWithCause}
use Rattle.worktree_report.specs.Asked.{sources_of_tree_and_setup, IsSetupValidAtRoot}
use Rattle.worktree_report.specs.Loading.{known_submodules_in_tree}
use Rattle.worktree_report.specs.Reported.{MakesTextBySetup}
use Rattle.worktree_report.specs.SetupAt.{setup_of_file_looked_at}
use Rattle.worktree_report.specs.Run as report
use Rattle.worktree_report.specs.declared.known.Known.{Known}
use Rattle.worktree_report.specs.declared.refusal.Misread.{Misread}
use Rattle.worktree_report.specs.declared.refusal.Refusal.{Refusal}
use Rattle.worktree_report.specs.declared.refusal.Refusal.TheVariants as refusals
use Rattle.worktree_report.specs.declared.setup.Setup.{Setup}
use Rattle.tizhagor.specs.ProgramLines.{status_of_program_refusal}
use Rattle.clean_plan.specs.Run as clean
use Rattle.index_status.specs.Run as status
use Rattle.module_plan.specs.Run as modules
use Rattle.tizhagor.specs.declared.call.Call.{Call}
use Rattle.tizhagor.specs.declared.call.Call.TheVariants as calls
use Rattle.tizhagor.specs.Texts.{AreSubmoduleFilesValid, TextNeedsNoFaultForCall, IsSetupValidForCall, IsTextOfCallBySetupFile, IsTextOfCall, CountsNoFaultForCall, RefusesReportOverTree, RefusesSubmoduleSteps, RefusesTextOfCall, MakesTextOfCall}

-- ---- the same text as by a setup text

report-joins : (composes : Bool) (t : Names) (root path : List ℕ) (setup : Setup) (text : List ℕ) → setup_of_file_looked_at (look t path true) ≡ Ok setup
    → IsTextOfCall calls.Report composes t root setup text → IsTextOfCallBySetupFile calls.Report composes t root path text
unfolding report.report_text_at_places
report-joins composes t root path setup text read is = rw read is

modules-joins : (composes : Bool) (t : Names) (root path : List ℕ) (setup : Setup) (text : List ℕ) → setup_of_file_looked_at (look t path true) ≡ Ok setup
    → IsTextOfCall calls.Modules composes t root setup text → IsTextOfCallBySetupFile calls.Modules composes t root path text
unfolding modules.read_setup_and_make_plan_text
modules-joins composes t root path setup text read is = rw read is

state-joins : (composes : Bool) (t : Names) (root path : List ℕ) (setup : Setup) (text : List ℕ) → setup_of_file_looked_at (look t path true) ≡ Ok setup
    → IsTextOfCall calls.State composes t root setup text → IsTextOfCallBySetupFile calls.State composes t root path text
unfolding status.status_text_by_setup_in_tree
state-joins composes t root path setup text read is = rw read is

pub joins : (call : Call) (composes : Bool) (t : Names) (root path : List ℕ) (setup : Setup) (text : List ℕ) → setup_of_file_looked_at (look t path true) ≡ Ok setup
    → IsTextOfCall call composes t root setup text → IsTextOfCallBySetupFile call composes t root path text
joins calls.Report composes t root path setup text read is = report-joins composes t root path setup text read is
joins (calls.Plan what finding) composes t root path setup text read is = record { setup = setup; read = read; text_is = is }
joins calls.Modules composes t root path setup text read is = modules-joins composes t root path setup text read is
joins calls.State composes t root path setup text read is = state-joins composes t root path setup text read is

-- ---- refusals

is_known : {known : Option Known} {m : Misread} → ◌≡◌ {A = Result (Option Known) Misread} (Ok known) (Err m) → ⊥
is_known e = absurd cc

module _ {W I : Type 0} (w : WorktreeOf W) (i : InterruptOf I) (w0 w1 : W) (i0 i1 : I) (root : List ℕ) (setup : Setup) where
  -- a text is the one that is asked for
  pub text_is : (call : Call) (text : List ℕ) → MakesTextOfCall w i w0 w1 i0 i1 root setup (Ok text) call
      → (t : Names) → w.told w0 ≡ Some t → TextNeedsNoFaultForCall call (w.faults w0) (w.faults w1) → IsTextOfCall call (w.precomposes w0) t root setup text
  text_is calls.Report text made t told quiet = made.gives t told quiet
  text_is (calls.Plan what finding) text made t told quiet = made.gives t told
  text_is calls.Modules text made t told quiet = made.0.gives t told
  text_is calls.State text made t told quiet = made.gives t told

  -- and comes without a fault, but for a report
  pub unfaulted : (call : Call) (text : List ℕ) → MakesTextOfCall w i w0 w1 i0 i1 root setup (Ok text) call → CountsNoFaultForCall call (w.faults w0) (w.faults w1)
  unfaulted calls.Report text made = tt
  unfaulted (calls.Plan what finding) text made = let quiet = made.unfaulted in let faults = made.worktree.faults in (omega (arith, quiet, faults), quiet)
  unfaulted calls.Modules text made = made.0.unfaulted
  unfaulted calls.State text made = let quiet = made.unfaulted in let faults = made.worktree.faults in (omega (arith, quiet, faults), quiet)

  -- what stays
  pub stays : (call : Call) (answer : Result (List ℕ) Refusal) → MakesTextOfCall w i w0 w1 i0 i1 root setup answer call → w.told w1 ≡ w.told w0
  stays calls.Report answer made = made.worktree.tree
  stays (calls.Plan what finding) answer made = made.worktree.tree
  stays calls.Modules answer made = made.0.tree
  stays calls.State answer made = made.worktree.tree

  pub later : (call : Call) (answer : Result (List ℕ) Refusal) → MakesTextOfCall w i w0 w1 i0 i1 root setup answer call → w.faults w0 ≤ w.faults w1
  later calls.Report answer made = made.worktree.faults
  later (calls.Plan what finding) answer made = made.worktree.faults
  later calls.Modules answer made = made.0.faults
  later calls.State answer made = made.worktree.faults

  -- a fault was counted
  text-fault : (other : Setup) (most : ℕ) (refusal : Refusal) → RefusesTextWithCause w i (w.precomposes w0) w0 w1 i0 i1 root other most refusal → refusal ≡ refusals.Fault → CountIncreasedOrSaturated (w.faults w0) (w.faults w1)
  text-fault other most refusal refused is =
      elim refused [
        | inl memory ↦ absurd (let both : refusals.OutOfMemory ≡ refusals.Fault = sym memory ∙ is in cc)
        | inr known ↦ elim known [ inl failed ↦ failed.1.rose | inr none ↦ none.cause (ap Err is) ]
      ]

  pub fault_cause : (call : Call) (refusal : Refusal) → MakesTextOfCall w i w0 w1 i0 i1 root setup (Err refusal) call → refusal ≡ refusals.Fault → CountIncreasedOrSaturated (w.faults w0) (w.faults w1)
  fault_cause calls.Report refusal made is = made.cause (ap Err is)
  fault_cause (calls.Plan what finding) refusal made is = text-fault (clean.setup_prepared_for_plan finding setup) _ refusal made.refused is
  fault_cause calls.Modules refusal made is = subst (modules.MayComeFromPlanning (CountIncreasedOrSaturated (w.faults w0) (w.faults w1))) is made.0.refused
  fault_cause calls.State refusal made is = text-fault setup _ refusal made.refused is

  -- the interrupt was raised
  pub text-interrupted : (other : Setup) (most : ℕ) (refusal : Refusal) → RefusesTextWithCause w i (w.precomposes w0) w0 w1 i0 i1 root other most refusal → refusal ≡ refusals.Interrupted → CountIncreasedOrSaturated (i.raised i0) (i.raised i1)
  text-interrupted other most refusal refused is =
      elim refused [
        | inl memory ↦ absurd (let both : refusals.OutOfMemory ≡ refusals.Interrupted = sym memory ∙ is in cc)
        | inr known ↦ elim known [
          | inl failed ↦ absurd (let both : refusals.Fault ≡ refusals.Interrupted = sym failed.0 ∙ is in cc)
          | inr none ↦ none.interrupted (ap Err is)
        ]
      ]

  pub interrupt_cause : (call : Call) (refusal : Refusal) → MakesTextOfCall w i w0 w1 i0 i1 root setup (Err refusal) call → refusal ≡ refusals.Interrupted → CountIncreasedOrSaturated (i.raised i0) (i.raised i1)
  interrupt_cause calls.Report refusal made is = made.interrupted (ap Err is)
  interrupt_cause (calls.Plan what finding) refusal made is = text-interrupted (clean.setup_prepared_for_plan finding setup) _ refusal made.refused is
  interrupt_cause calls.Modules refusal made is = absurd (subst (modules.MayComeFromPlanning (CountIncreasedOrSaturated (w.faults w0) (w.faults w1))) is made.0.refused)
  interrupt_cause calls.State refusal made is = text-interrupted setup _ refusal made.refused is

  -- for what can be had, where nothing failed or was raised, only memory may be wanted
  pub text-complete : (other : Setup) (most : ℕ) (refusal : Refusal) → RefusesTextWithCause w i (w.precomposes w0) w0 w1 i0 i1 root other most refusal
      → (t : Names) → w.told w0 ≡ Some t → CountNotIncreased (w.faults w0) (w.faults w1) → CountNotIncreased (i.raised i0) (i.raised i1)
      → IsSetupValidAtRoot (w.precomposes w0) (sources_of_tree_and_setup t other) root other → refusal ≡ refusals.OutOfMemory
  text-complete other most refusal refused t told quiet calm valid =
      elim refused [
        | inl memory ↦ memory
        | inr known ↦ elim known [
          | inl failed ↦ absurd (let rose = failed.1.rose in omega (arith, rose, quiet))
          | inr none ↦ none.complete t told quiet calm valid
        ]
      ]

  modules-complete : (refusal : Refusal) → modules.MakesPlanText w w0 w1 root setup (Err refusal) → (t : Names) → w.told w0 ≡ Some t → CountNotIncreased (w.faults w0) (w.faults w1)
      → AreSubmoduleFilesValid t root setup → refusal ≡ refusals.OutOfMemory
  modules-complete refusals.Interrupted plans t told quiet ready = absurd plans.refused
  modules-complete refusals.Usage plans t told quiet ready = absurd plans.refused
  modules-complete (refusals.Setup line) plans t told quiet ready = absurd plans.refused
  modules-complete (refusals.Misread m) plans t told quiet ready = absurd (is_known (sym ready.known_is ∙ plans.misread t told m refl))
  modules-complete (refusals.Walk word path) plans t told quiet ready = absurd plans.refused
  modules-complete refusals.Fault plans t told quiet ready = absurd (let rose = plans.refused in omega (arith, rose, quiet))
  modules-complete refusals.Output plans t told quiet ready = absurd plans.refused
  modules-complete refusals.OutOfMemory plans t told quiet ready = refl

  pub complete : (call : Call) (refusal : Refusal) → MakesTextOfCall w i w0 w1 i0 i1 root setup (Err refusal) call
      → (t : Names) → w.told w0 ≡ Some t → CountNotIncreased (w.faults w0) (w.faults w1) → CountNotIncreased (i.raised i0) (i.raised i1)
      → IsSetupValidForCall call (w.precomposes w0) t root setup → refusal ≡ refusals.OutOfMemory
  complete calls.Report refusal made t told quiet calm ready = made.complete t told quiet calm ready
  complete (calls.Plan what finding) refusal made t told quiet calm ready = text-complete (clean.setup_prepared_for_plan finding setup) _ refusal made.refused t told quiet calm ready
  complete calls.Modules refusal made t told quiet calm ready = modules-complete refusal made.0 t told quiet ready
  complete calls.State refusal made t told quiet calm ready = text-complete setup _ refusal made.refused t told quiet calm ready

  -- what is refused over a tree, but for an interrupt
  report-refused : (other : Setup) (refusal : Refusal) → MakesTextBySetup w i (w.precomposes w0) w0 w1 i0 i1 root other (Err refusal)
      → (t : Names) → w.told w0 ≡ Some t → CountNotIncreased (w.faults w0) (w.faults w1) → status_of_program_refusal refusal ≡ 128
      → (refusal ≡ refusals.OutOfMemory) ⊎ RefusesReportOverTree (w.precomposes w0) t root other refusal
  report-refused other refusals.Interrupted made t told quiet is = absurd (omega (arith, is))
  report-refused other refusals.Usage made t told quiet is = absurd made.answers
  report-refused other (refusals.Setup line) made t told quiet is = absurd made.answers
  report-refused other (refusals.Walk word path) made t told quiet is = inr (made.refused t told quiet word path refl)
  report-refused other (refusals.Misread which) made t told quiet is = inr (made.misread t told which refl)
  report-refused other refusals.Fault made t told quiet is = absurd (let rose = made.cause refl in omega (arith, rose, quiet))
  report-refused other refusals.Output made t told quiet is = absurd made.answers
  report-refused other refusals.OutOfMemory made t told quiet is = inl refl

  pub text-refused : (other : Setup) (most : ℕ) (refusal : Refusal) → RefusesTextWithCause w i (w.precomposes w0) w0 w1 i0 i1 root other most refusal
      → (t : Names) → w.told w0 ≡ Some t → CountNotIncreased (w.faults w0) (w.faults w1) → status_of_program_refusal refusal ≡ 128
      → (refusal ≡ refusals.OutOfMemory) ⊎ RefusesReportOverTree (w.precomposes w0) t root other refusal
  text-refused other most refusal refused t told quiet is =
      elim refused [
        | inl memory ↦ inl memory
        | inr known ↦ elim known [
          | inl failed ↦ absurd (let rose = failed.1.rose in omega (arith, rose, quiet))
          | inr none ↦ report-refused other refusal none t told quiet is
        ]
      ]

  steps-refused : (refusal : Refusal) → modules.MakesPlanText w w0 w1 root setup (Err refusal) → (t : Names) → w.told w0 ≡ Some t
      → CountNotIncreased (w.faults w0) (w.faults w1) → (refusal ≡ refusals.OutOfMemory) ⊎ RefusesSubmoduleSteps t root (modules.setup_with_submodules_option setup) refusal
  steps-refused refusals.Interrupted plans t told quiet = absurd plans.refused
  steps-refused refusals.Usage plans t told quiet = absurd plans.refused
  steps-refused (refusals.Setup line) plans t told quiet = absurd plans.refused
  steps-refused (refusals.Misread which) plans t told quiet = inr (plans.misread t told which refl)
  steps-refused (refusals.Walk word path) plans t told quiet = absurd plans.refused
  steps-refused refusals.Fault plans t told quiet = absurd (let rose = plans.refused in omega (arith, rose, quiet))
  steps-refused refusals.Output plans t told quiet = absurd plans.refused
  steps-refused refusals.OutOfMemory plans t told quiet = inl refl

  pub refused : (call : Call) (refusal : Refusal) → MakesTextOfCall w i w0 w1 i0 i1 root setup (Err refusal) call
      → (t : Names) → w.told w0 ≡ Some t → CountNotIncreased (w.faults w0) (w.faults w1) → status_of_program_refusal refusal ≡ 128
      → (refusal ≡ refusals.OutOfMemory) ⊎ RefusesTextOfCall call (w.precomposes w0) t root setup refusal
  refused calls.Report refusal made t told quiet is = report-refused setup refusal made t told quiet is
  refused (calls.Plan what finding) refusal made t told quiet is = text-refused (clean.setup_prepared_for_plan finding setup) _ refusal made.refused t told quiet is
  refused calls.Modules refusal made t told quiet is = steps-refused refusal made.0 t told quiet
  refused calls.State refusal made t told quiet is = text-refused setup _ refusal made.refused t told quiet is
