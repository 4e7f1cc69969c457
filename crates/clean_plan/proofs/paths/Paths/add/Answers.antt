use Rattle.clean_plan.proofs.Among.{among-inserted}
use Rattle.std.proofs.Common.{rules}
use Rattle.clean_plan.proofs.paths.Paths.add.Goals as goal

pub returns : goal.returns
returns c = λ other.
    let grown = among-inserted other c.self.inside.sorted.keys c.args.path in
    search rules
