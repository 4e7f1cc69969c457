use Rattle.std.proofs.Common.{Some, ap, arith}
use Rattle.git_clean.proofs.Walked.{TellsCleaning-failed, TellsCleaning-ok, TellsCleaning-refused}
use Rattle.git_clean.proofs.answer.clean_dry_run_text.Goals as goal

pub returns-then-has_failed_since : goal.returns-then-has_failed_since
returns-then-has_failed_since g c =
    let rose = c.has_failed_since.ensures.failed c.if-has_failed_since.true in
    TellsCleaning-failed c.in-Ok.report c.in-Ok.ensures (ap Some c.in_ok-objects.ensures) (omega (arith, rose))

pub returns-in-Ok : goal.returns-in-Ok
returns-in-Ok g c =
    let quiet = c.has_failed_since.ensures.unfailed c.if-has_failed_since.false in
    TellsCleaning-ok c.in-Ok.report c.into_vec-found.result.items c.in_ok-dry_run_text_of_entries-in-Ok.field-0 c.in-Ok.ensures (ap Some c.in_ok-objects.ensures) c.into_vec-found.ensures c.in_ok-dry_run_text_of_entries-in-Ok.ensures (omega (arith, quiet))

pub returns : goal.returns
returns g c = TellsCleaning-refused c.in-Err.error c.in_ok-refusal_of_report_error-in-Err.field-0 c.in-Err.ensures (ap Some c.in_ok-objects.ensures) (omega arith) c.in_ok-refusal_of_report_error-in-Err.ensures
