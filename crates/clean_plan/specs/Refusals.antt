-- Why there is no plan.
use Rattle.std.specs.Prelude.{Result, Ok, Err}
use Rattle.worktree_report.specs.declared.error.ReportError.{ReportError}
use Rattle.worktree_report.specs.declared.error.ReportError.TheVariants as report
use Rattle.clean_plan.specs.declared.error.CleanError.{CleanError}
use Rattle.clean_plan.specs.declared.error.CleanError.TheVariants as errors

-- there is no report: for want of memory, or by what made it
abbrev pub clean_error_of_report_error : ReportError → CleanError
clean_error_of_report_error report.OutOfMemory = errors.OutOfMemory
clean_error_of_report_error (report.Config at line) = errors.Report (report.Config at line)
clean_error_of_report_error (report.Modules line) = errors.Report (report.Modules line)
clean_error_of_report_error (report.ActiveSpec at) = errors.Report (report.ActiveSpec at)
clean_error_of_report_error report.ReadFault = errors.Report report.ReadFault
clean_error_of_report_error (report.Walk error) = errors.Report (report.Walk error)

-- the worktree failed, or memory was refused; there was a report
abbrev pub HasFaultOrMemoryCause : Type 0 → CleanError → Type 0
HasFaultOrMemoryCause Failed (errors.Report e) = ⊥
HasFaultOrMemoryCause Failed errors.Fault = Failed
HasFaultOrMemoryCause Failed errors.OutOfMemory = Unit {0}

-- it holds, unless the worktree is said to have failed
abbrev pub HoldsUnlessCleanFault : {T : Type 0} → Result T CleanError → Type 0 → Type 0
HoldsUnlessCleanFault (Ok answer) Holds = Holds
HoldsUnlessCleanFault (Err (errors.Report e)) Holds = Holds
HoldsUnlessCleanFault (Err errors.Fault) Holds = Unit {0}
HoldsUnlessCleanFault (Err errors.OutOfMemory) Holds = Holds
