use Rattle.std.proofs.Common.{arith, refl}
use Rattle.dir_walk.proofs.open.list_directory.Goals as goal

pub returns-then-is_raised-clause-interrupt : goal.returns-then-is_raised-clause-interrupt
returns-then-is_raised-clause-interrupt g c = record { questions = omega (arith, c.is_raised.ensures.questions, c.if-is_raised.ensures.cause); raised = c.is_raised.ensures.later }

pub returns-then-is_raised-clause-counts : goal.returns-then-is_raised-clause-counts
returns-then-is_raised-clause-counts g c =
    record {
      counted = λ given. tt;
      returned = refl;
      seen = refl;
      opens = tt;
      tried = record {
        listed = λ small. omega (arith, small);
        counted = λ small. omega (arith, small);
        asked = omega (arith, c.is_raised.ensures.questions, c.if-is_raised.ensures.cause);
      };
      once = omega arith;
      reads = refl;
    }
