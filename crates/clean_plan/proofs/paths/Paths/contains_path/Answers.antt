use Rattle.std.proofs.Common.{rules}
use Rattle.clean_plan.proofs.Among.{among-by_order}
use Rattle.clean_plan.proofs.paths.Paths.contains_path.Goals as goal

pub returns : goal.returns
returns c = let there = among-by_order c.args.path.now c.self.inside.sorted.keys in search rules
