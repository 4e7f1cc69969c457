use Rattle.std.proofs.Common.{ap, Err}
use Rattle.std.proofs.lemmas.Result.{err_from_is_err_and}
use Rattle.clean_plan.specs.Named.{request_in_specification}
use Rattle.clean_plan.proofs.Runs.{AnswersClean-made, AnswersClean-unread}
use Rattle.clean_plan.proofs.program.clean_plan_text_for_request.Goals as goal

pub returns-in_err-setup : goal.returns-in_err-setup
returns-in_err-setup g c =
    let p = err_from_is_err_and c.from_residual.result c.from_residual.ensures.1 in
    let unread = c.in_err-setup.ensures in
    rw (p.1, p.2)
    (AnswersClean-unread c.in_err-setup.field-0.0 unread.answers (λ t told line is. unread.outside t told line (ap Err is)) (λ is. unread.cause (ap Err is))
    unread.tree unread.faults unread.list_faults unread.reads unread.lists unread.precomposes)

pub returns : goal.returns
returns g c =
    let read = c.in_ok-setup.ensures in
    AnswersClean-made {w = g.W.Worktree} {i = g.I.Interrupt} {request = request_in_specification c.args.request} c.in_ok-setup.setup c.prepare.new.options c.plan_clean_as_text.result c.prepare.ensures.set read.gives read.tree read.faults read.unfaulted read.list_faults read.reads read.lists read.precomposes (rw c.allowing_special_and_spec_excluded.ensures at c.plan_clean_as_text.ensures)
