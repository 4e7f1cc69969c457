use Rattle.std.proofs.Common.{◌≤◌, Some, ap, arith}
use Rattle.index_status.proofs.Statuses.{StatusTexts-failed, StatusTexts-ok, StatusTexts-refused}
use Rattle.index_status.proofs.program.make_status_as_text.Goals as goal

pub returns-then-has_failed_since : goal.returns-then-has_failed_since
returns-then-has_failed_since g c =
    let rose = c.has_failed_since.ensures.failed c.if-has_failed_since.true in
    StatusTexts-failed c.in-Ok.status c.in-Ok.ensures (ap Some c.in_ok-objects.ensures) (omega (arith, rose))

pub returns-in-Ok : goal.returns-in-Ok
returns-in-Ok g c =
    let quiet = c.has_failed_since.ensures.unfailed c.if-has_failed_since.false in
    StatusTexts-ok c.in-Ok.status c.in_ok-encode_states_and_report_text-in-Ok.field-0 c.in-Ok.ensures (ap Some c.in_ok-objects.ensures) c.in_ok-encode_states_and_report_text-in-Ok.ensures (omega (arith, quiet))

pub returns : goal.returns
returns g c = StatusTexts-refused c.in-Err.error c.in_ok-refusal_of_status_error-in-Err.field-0 c.in-Err.ensures (ap Some c.in_ok-objects.ensures) (omega arith) c.in_ok-refusal_of_status_error-in-Err.ensures
