use Rattle.std.proofs.Common.{Some, ap, arith}
use Rattle.ls_files.proofs.Walked.{ListsWalked-failed, ListsWalked-ok, ListsWalked-refused}
use Rattle.ls_files.proofs.answer.list_files_by_walk_report.Goals as goal

pub returns-then-has_failed_since : goal.returns-then-has_failed_since
returns-then-has_failed_since g c =
    let rose = c.has_failed_since.ensures.failed c.if-has_failed_since.true in
    ListsWalked-failed c.in-Ok.report c.in-Ok.ensures (ap Some c.in_ok-objects.ensures) (omega (arith, rose))

pub returns-in-Ok : goal.returns-in-Ok
returns-in-Ok g c =
    let quiet = c.has_failed_since.ensures.unfailed c.if-has_failed_since.false in
    ListsWalked-ok c.in-Ok.report c.as_slice-found.result.now c.in_ok-output_and_errors_of_report_entries-in-Ok.field-0 c.in-Ok.ensures (ap Some c.in_ok-objects.ensures) c.as_slice-found.ensures c.in_ok-output_and_errors_of_report_entries-in-Ok.ensures (omega (arith, quiet))

pub returns : goal.returns
returns g c = ListsWalked-refused c.in-Err.error c.in_ok-refusal_of_report_error-in-Err.field-0 c.in-Err.ensures (ap Some c.in_ok-objects.ensures) (omega arith) c.in_ok-refusal_of_report_error-in-Err.ensures
