use Rattle.std.proofs.Common.{◌≤◌, Some, ap, subst, arith}
use Rattle.worktree_fs.specs.Causes.{CountIncreasedOrSaturated, CountNotIncreased}
use Rattle.clean_plan.proofs.Texts.{PlanTexts-failed, PlanTexts-ok, PlanTexts-refused}
use Rattle.clean_plan.proofs.program.plan_clean_as_text.Goals as goal

pub returns-then-has_failed_since : goal.returns-then-has_failed_since
returns-then-has_failed_since g c =
    let rose = c.has_failed_since.ensures.failed c.if-has_failed_since.true in
    PlanTexts-failed c.in-Ok.plan c.in-Ok.ensures (ap Some c.in_ok-objects.ensures) (omega (arith, rose))

pub returns-in-Ok : goal.returns-in-Ok
returns-in-Ok g c =
    let quiet = c.has_failed_since.ensures.unfailed c.if-has_failed_since.false in
    PlanTexts-ok c.in-Ok.plan c.in_ok-encode_plan_lines-in-Ok.field-0 c.in-Ok.ensures (ap Some c.in_ok-objects.ensures) c.in_ok-encode_plan_lines-in-Ok.ensures (omega (arith, quiet))

pub returns : goal.returns
returns g c = PlanTexts-refused c.in-Err.error c.in_ok-refusal_of_clean_error-in-Err.field-0 c.in-Err.ensures (ap Some c.in_ok-objects.ensures) (omega arith) c.in_ok-refusal_of_clean_error-in-Err.ensures
