-- The text of a report, made with no list of its entries.
use Rattle.std.specs.Prelude.{◌≡◌, ℕ, List, Option, Result, Ok, Err}
use Rattle.gitbase_core.specs.declared.find.Find.{Ghosts as FindOf}
use Rattle.worktree_fs.specs.declared.interrupt.Interrupt.{Ghosts as InterruptOf}
use Rattle.worktree_fs.specs.declared.worktree.Worktree.{Ghosts as WorktreeOf}
use Rattle.dir_classify.specs.declared.error.Error.{Error}
use Rattle.dir_walk.specs.declared.report.Report.{Report as WalkReport}
use Rattle.worktree_report.specs.declared.error.ReportError.{ReportError}
use Rattle.worktree_report.specs.declared.error.ReportError.TheVariants as errors
use Rattle.worktree_report.specs.declared.known.Known.{Known}
use Rattle.worktree_report.specs.declared.report.Report.{Report}
use Rattle.worktree_report.specs.declared.setup.Setup.{Setup}
use Rattle.worktree_report.specs.declared.setup.SetupOptions.{SetupOptions}
use Rattle.worktree_report.specs.Lines.{text_of_report}
use Rattle.worktree_report.specs.Loads.{report_error_of_walk_error}
use Rattle.worktree_report.specs.Reported.{MakesReportBySetup}
use Rattle.worktree_report.specs.Submodules.{report_with_submodules}

-- a text is that of the report that a walk gives with the submodules, and is refused for want of memory or as the walk is
abbrev pub IsTextOfWalkResult : Result (List ℕ) ReportError → SetupOptions → Option Known → Result WalkReport Error → Type 0
IsTextOfWalkResult (Ok text) options known (Ok walked) = text ≡ text_of_report options (report_with_submodules known walked)
IsTextOfWalkResult (Ok text) options known (Err e) = ⊥
IsTextOfWalkResult (Err error) options known (Ok walked) = error ≡ errors.OutOfMemory
IsTextOfWalkResult (Err error) options known (Err e) = error ≡ report_error_of_walk_error e

-- a text is that of a report, and is refused as the report is
abbrev pub IsTextOfReportResult : SetupOptions → Result Report ReportError → Result (List ℕ) ReportError → Type 0
IsTextOfReportResult options (Ok report) (Ok text) = text ≡ text_of_report options report
IsTextOfReportResult options (Ok report) (Err error) = ⊥
IsTextOfReportResult options (Err refused) (Ok text) = ⊥
IsTextOfReportResult options (Err refused) (Err error) = error ≡ refused

-- There is a report, or a refusal of one, that making it gives, and a text is that of it.
pub record MakesTextOfReport {W F I : Type 0} (w : WorktreeOf W) (f : FindOf F) (i : InterruptOf I) (w0 w1 : W) (o0 o1 : F) (i0 i1 : I)
    (root : List ℕ) (setup : Setup) (result : Result (List ℕ) ReportError) : Type 0 where
  pub made : Result Report ReportError
  pub text_is : IsTextOfReportResult setup.options made result
  pub makes : MakesReportBySetup w f i w0 w1 o0 o1 i0 i1 root setup made
