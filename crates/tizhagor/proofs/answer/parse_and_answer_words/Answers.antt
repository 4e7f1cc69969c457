use Rattle.std.proofs.Common.{inl, refl}
use Rattle.std.proofs.lemmas.Result.{err_from_is_err_and}
use Rattle.tizhagor.specs.Answers.{task_of_command}
use Rattle.tizhagor.proofs.BothEnds.{by_request}
use Rattle.tizhagor.proofs.Here.{by_words}
use Rattle.tizhagor.proofs.answer.parse_and_answer_words.Goals as goal

pub returns-in_err-request : goal.returns-in_err-request
returns-in_err-request g c =
    let p = err_from_is_err_and c.from_residual.result c.from_residual.ensures.1 in
    rw (p.1, p.2) (inl (inl (by_words g.W.Worktree g.I.Interrupt g.O.Owners _ _ _ _ _ _ c.in_err-request.ensures, refl)))

pub returns : goal.returns
returns g c =
    by_request g.W.Worktree g.I.Interrupt g.O.Owners g.D.Stats _ _ _ _ _ _ _ _ _ _ c.answer_command.result c.in_ok-request.request c.in_ok-request.ensures (task_of_command c.args.called.now.takes_colors c.in_ok-request.request.command) refl c.answer_command.ensures
