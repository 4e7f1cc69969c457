use Rattle.std.proofs.lemmas.Result.{err_from_is_err_and}
use Rattle.module_plan.proofs.Runs.{PlansText-loaded, PlansText-unloaded}
use Rattle.module_plan.proofs.program.plan_text_by_setup.Goals as goal

pub returns-in_err-modules : goal.returns-in_err-modules
returns-in_err-modules g c =
    let p = err_from_is_err_and c.from_residual.result c.from_residual.ensures.1 in
    let unread = c.in_err-modules.ensures in
    rw (p.1, p.2) (PlansText-unloaded c.in_err-modules.field-0.0 unread.misread unread.outside unread.misread_reads unread.refused unread.stops unread.loads)

pub returns : goal.returns
returns g c =
    let read = c.in_ok-modules.ensures in
    let text = c.plan_text_of_modules.ensures in
    PlansText-loaded c.in_ok-modules.modules c.plan_text_of_modules.result read.gives read.loads text.gives text.safe read.text text.orderly text.misread text.refused text.late text.keeps text.reads read.unfaulted text.unfaulted
