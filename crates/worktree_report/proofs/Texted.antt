-- The text of a report is that of one that was made.
use Rattle.std.proofs.Common.{◌≡◌, ◌^◌, ℕ, List, Option, Some, Result, Ok, Err, refl}
use Rattle.gitbase_core.specs.declared.find.Find.{Ghosts as FindOf}
use Rattle.worktree_fs.specs.declared.interrupt.Interrupt.{Ghosts as InterruptOf}
use Rattle.worktree_fs.specs.declared.worktree.Worktree.{Ghosts as WorktreeOf}
use Rattle.worktree_fs.specs.Causes.{CountNotIncreased}
use Rattle.dir_classify.specs.declared.error.Error.{Error}
use Rattle.dir_walk.specs.declared.report.Report.{Report as WalkReport}
use Rattle.worktree_report.specs.declared.error.ReportError.{ReportError}
use Rattle.worktree_report.specs.declared.error.ReportError.TheVariants as errors
use Rattle.worktree_report.specs.declared.known.Known.{Known}
use Rattle.worktree_report.specs.declared.refusal.Refusal.{Refusal}
use Rattle.worktree_report.specs.declared.report.Report.{Report}
use Rattle.worktree_report.specs.declared.setup.Setup.{Setup}
use Rattle.worktree_report.specs.declared.setup.SetupOptions.{SetupOptions}
use Rattle.worktree_report.specs.Converted.{refusal_of_report_error}
use Rattle.worktree_report.specs.Reported.{IsReportOfWalkResult, MakesReportBySetup, MakesTextBySetup}
use Rattle.worktree_report.specs.Submodules.{report_with_submodules}
use Rattle.worktree_report.specs.Texted.{IsTextOfWalkResult, IsTextOfReportResult, MakesTextOfReport}
use Rattle.worktree_report.proofs.Answered.{Texts-ok, Texts-refused}

-- the report that a text is of, or the refusal that it has
abbrev pub made_for : Result (List ℕ) ReportError → Option Known → Result WalkReport Error → Result Report ReportError
made_for (Ok text) known (Ok walked) = Ok (report_with_submodules known walked)
made_for (Ok text) known (Err e) = Err errors.OutOfMemory
made_for (Err error) known walked = Err error

pub made_for-describes : (result : Result (List ℕ) ReportError) (options : SetupOptions) (known : Option Known) (walked : Result WalkReport Error)
    → IsTextOfWalkResult result options known walked → IsReportOfWalkResult (made_for result known walked) known walked
made_for-describes (Ok text) options known (Ok walked) h = refl
made_for-describes (Ok text) options known (Err e) h = absurd h
made_for-describes (Err error) options known (Ok walked) h = h
made_for-describes (Err error) options known (Err e) h = h

pub made_for-text : (result : Result (List ℕ) ReportError) (options : SetupOptions) (known : Option Known) (walked : Result WalkReport Error)
    → IsTextOfWalkResult result options known walked → IsTextOfReportResult options (made_for result known walked) result
made_for-text (Ok text) options known (Ok walked) h = h
made_for-text (Ok text) options known (Err e) h = absurd h
made_for-text (Err error) options known walked h = refl

module _ {W F I : Type 0} {w : WorktreeOf W} {f : FindOf F} {i : InterruptOf I} {w0 w1 : W} {o0 o1 : F} {i0 i1 : I} {root : List ℕ} {setup : Setup} where
  text-of : (made : Result Report ReportError) (text : List ℕ) → IsTextOfReportResult setup.options made (Ok text) → MakesReportBySetup w f i w0 w1 o0 o1 i0 i1 root setup made
      → f.holds o0 ≡ Some setup.blobs → MakesTextBySetup w i (w.precomposes w0) w0 w1 i0 i1 root setup (Ok text)
  text-of (Ok report) text is makes held = Texts-ok report text makes held is
  text-of (Err e) text is makes held = absurd is

  refusal-of : (made : Result Report ReportError) (e : ReportError) (refusal : Refusal) → IsTextOfReportResult setup.options made (Err e)
      → MakesReportBySetup w f i w0 w1 o0 o1 i0 i1 root setup made → f.holds o0 ≡ Some setup.blobs → CountNotIncreased (f.faults o0) (f.faults o1)
      → refusal ≡ refusal_of_report_error e → MakesTextBySetup w i (w.precomposes w0) w0 w1 i0 i1 root setup (Err refusal)
  refusal-of (Ok report) e refusal is makes held kept same = absurd is
  refusal-of (Err refused) e refusal is makes held kept same = Texts-refused refused refusal makes held kept (rw (← is) same)

  pub Texts-made : (text : List ℕ) → MakesTextOfReport w f i w0 w1 o0 o1 i0 i1 root setup (Ok text) → f.holds o0 ≡ Some setup.blobs
      → MakesTextBySetup w i (w.precomposes w0) w0 w1 i0 i1 root setup (Ok text)
  Texts-made text of held = text-of of.made text of.text_is of.makes held

  pub Texts-unmade : (e : ReportError) (refusal : Refusal) → MakesTextOfReport w f i w0 w1 o0 o1 i0 i1 root setup (Err e) → f.holds o0 ≡ Some setup.blobs
      → CountNotIncreased (f.faults o0) (f.faults o1) → refusal ≡ refusal_of_report_error e → MakesTextBySetup w i (w.precomposes w0) w0 w1 i0 i1 root setup (Err refusal)
  Texts-unmade e refusal of held kept same = refusal-of of.made e refusal of.text_is of.makes held kept same
