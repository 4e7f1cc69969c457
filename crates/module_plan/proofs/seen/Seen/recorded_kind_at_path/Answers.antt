use Rattle.std.proofs.Common.{rules}
use Rattle.module_plan.proofs.SeenKinds.{found_seen}
use Rattle.module_plan.proofs.seen.Seen.recorded_kind_at_path.Goals as goal

pub returns : goal.returns
returns c = λ t are. found_seen t c.args.full.now c.args.self.now c.copied.result are (search rules)
