use Rattle.std.proofs.Common.{ap, Err}
use Rattle.std.proofs.lemmas.Result.{err_from_is_err_and}
use Rattle.module_plan.proofs.Runs.{AnswersPlan-planned, AnswersPlan-unread}
use Rattle.module_plan.proofs.program.read_setup_and_make_plan_text.Goals as goal

pub returns-in_err-setup : goal.returns-in_err-setup
returns-in_err-setup g c =
    let p = err_from_is_err_and c.from_residual.result c.from_residual.ensures.1 in
    let unread = c.in_err-setup.ensures in
    rw (p.1, p.2)
    (AnswersPlan-unread c.in_err-setup.field-0.0 unread.answers (λ t told line is. unread.outside t told line (ap Err is)) (λ is. unread.cause (ap Err is)) unread.reads
    unread.tree unread.faults unread.list_faults unread.lists unread.precomposes)

pub returns : goal.returns
returns g c =
    let read = c.in_ok-setup.ensures in
    AnswersPlan-planned c.in_ok-setup.setup read.gives read.tree read.faults read.reads c.plan_text_by_setup.result read.unfaulted read.list_faults read.lists read.precomposes c.plan_text_by_setup.ensures
