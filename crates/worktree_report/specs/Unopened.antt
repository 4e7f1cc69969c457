-- What a refused report says of a directory that was not opened, or that was refused to be: as its walk does.
use Rattle.std.specs.Prelude.{ℕ, Result, Ok, Err}
use Rattle.dir_walk.specs.Unopened.{count_too_deep_error, count_unlisted_error}
use Rattle.worktree_report.specs.declared.error.ReportError.{ReportError}
use Rattle.worktree_report.specs.declared.error.ReportError.TheVariants as errors

-- one for what lies too deep
abbrev pub count_too_deep_in_report : {T : Type 0} → Result T ReportError → ℕ
count_too_deep_in_report (Ok report) = 0
count_too_deep_in_report (Err (errors.Walk e)) = count_too_deep_error e
count_too_deep_in_report (Err (errors.Config at line)) = 0
count_too_deep_in_report (Err (errors.Modules line)) = 0
count_too_deep_in_report (Err (errors.ActiveSpec at)) = 0
count_too_deep_in_report (Err errors.ReadFault) = 0
count_too_deep_in_report (Err errors.OutOfMemory) = 0

-- one where a listing was refused, and where that may have been for want of memory
abbrev pub count_unlisted_in_report : {T : Type 0} → Result T ReportError → ℕ
count_unlisted_in_report (Ok report) = 0
count_unlisted_in_report (Err (errors.Walk e)) = count_unlisted_error e
count_unlisted_in_report (Err (errors.Config at line)) = 0
count_unlisted_in_report (Err (errors.Modules line)) = 0
count_unlisted_in_report (Err (errors.ActiveSpec at)) = 0
count_unlisted_in_report (Err errors.ReadFault) = 0
count_unlisted_in_report (Err errors.OutOfMemory) = 1
