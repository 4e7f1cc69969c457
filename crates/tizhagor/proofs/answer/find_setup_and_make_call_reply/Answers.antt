use Rattle.std.proofs.Common.{[], subst, sym, true, Result}
use Rattle.tizhagor.specs.declared.refusal.CommandRefusal.{CommandRefusal}
use Rattle.tizhagor.specs.declared.reply.Reply.{Reply}
use Rattle.tizhagor.specs.Answers.{AnswersCallBytes, found_in_call_environment, call_environment_of_fields}
use Rattle.tizhagor.specs.Asking.{request_with_call_options}
use Rattle.tizhagor.specs.Replies.{HoldsOfOutputOfPlainReply}
use Rattle.tizhagor.proofs.Here.{says_plainly}
use Rattle.tizhagor.proofs.answer.find_setup_and_make_call_reply.Goals as goal

pub returns : goal.returns
returns g c =
    subst (λ (r : Result Reply CommandRefusal). HoldsOfOutputOfPlainReply (AnswersCallBytes g.W.Worktree g.I.Interrupt g.O.Owners c.args.worktree.now c.find_setup_and_make_call_bytes-answer.new.worktree c.args.interrupt.now c.find_setup_and_make_call_bytes-answer.new.interrupt c.args.owners.now c.find_setup_and_make_call_bytes-answer.new.owners (found_in_call_environment (call_environment_of_fields c.args.here.now.current.now c.args.here.now.variables.now true []) c.args.here.now.directory.now (request_with_call_options c.args.call c.args.asked)) c.args.call c.args.writing) r)
    (sym c.plain_reply_or_here_refusal.ensures)
    (says_plainly (AnswersCallBytes g.W.Worktree g.I.Interrupt g.O.Owners c.args.worktree.now c.find_setup_and_make_call_bytes-answer.new.worktree c.args.interrupt.now c.find_setup_and_make_call_bytes-answer.new.interrupt c.args.owners.now c.find_setup_and_make_call_bytes-answer.new.owners (found_in_call_environment (call_environment_of_fields c.args.here.now.current.now c.args.here.now.variables.now true []) c.args.here.now.directory.now (request_with_call_options c.args.call c.args.asked)) c.args.call c.args.writing) c.find_setup_and_make_call_bytes-answer.result c.find_setup_and_make_call_bytes-answer.ensures)
