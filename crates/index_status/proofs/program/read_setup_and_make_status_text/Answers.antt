use Rattle.std.proofs.Common.{ap, Err}
use Rattle.std.proofs.lemmas.Result.{err_from_is_err_and}
use Rattle.index_status.proofs.Runs.{AnswersStatus-made, AnswersStatus-unread}
use Rattle.index_status.proofs.program.read_setup_and_make_status_text.Goals as goal

pub returns-in_err-setup : goal.returns-in_err-setup
returns-in_err-setup g c =
    let p = err_from_is_err_and c.from_residual.result c.from_residual.ensures.1 in
    let unread = c.in_err-setup.ensures in
    rw (p.1, p.2)
    (AnswersStatus-unread c.in_err-setup.field-0.0 unread.answers (λ t told line is. unread.outside t told line (ap Err is)) (λ is. unread.cause (ap Err is))
    unread.tree unread.faults unread.list_faults unread.reads unread.lists unread.precomposes)

pub returns : goal.returns
returns g c =
    let read = c.in_ok-setup.ensures in
    AnswersStatus-made c.in_ok-setup.setup c.make_status_as_text.result read.gives read.tree read.faults read.unfaulted read.list_faults read.reads read.lists read.precomposes c.make_status_as_text.ensures
