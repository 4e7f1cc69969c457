use Rattle.std.proofs.Common.{Result, subst, sym}
use Rattle.tizhagor.specs.Ends.{EndsWithStatusAndStreams}
use Rattle.tizhagor.specs.declared.refusal.CommandRefusal.{CommandRefusal}
use Rattle.tizhagor.specs.declared.reply.Reply.{Reply}
use Rattle.tizhagor.proofs.finish.finish_with_answer.Goals as goal

pub returns-in-Ok : goal.returns-in-Ok
returns-in-Ok g c =
    subst (λ (answer : Result Reply CommandRefusal). EndsWithStatusAndStreams g.S.Sink g.E.Sink c.args.out.now c.write_reply_to_streams.new.out c.args.err.now c.write_reply_to_streams.new.err c.args.first.now answer c.write_reply_to_streams.result)
    (sym c.in-Ok.is)
    (c.write_reply_to_streams.ensures c.args.first.now)
