use Rattle.std.proofs.Common.{rules}
use Rattle.module_plan.proofs.Among.{among-by_order, among-inserted}
use Rattle.module_plan.proofs.taken.TakenPaths.insert_if_new.Goals as goal

pub returns-clause-is_new : goal.returns-clause-is_new
returns-clause-is_new c =
    let there = among-by_order c.in_ok-path.path c.self.inside.sorted.keys in
    search rules

pub returns-clause-more : goal.returns-clause-more
returns-clause-more c = λ other.
    let grown = among-inserted other c.self.inside.sorted.keys c.in_ok-path.path in
    search rules
