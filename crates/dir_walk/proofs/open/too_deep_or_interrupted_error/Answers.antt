use Rattle.std.proofs.Common.{arith}
use Rattle.dir_walk.proofs.open.too_deep_or_interrupted_error.Goals as goal

pub returns-then-raised-clause-interrupt : goal.returns-then-raised-clause-interrupt
returns-then-raised-clause-interrupt g c = record { questions = omega (arith, c.is_raised-raised.ensures.questions, c.if-raised.ensures.cause); raised = c.is_raised-raised.ensures.later }
