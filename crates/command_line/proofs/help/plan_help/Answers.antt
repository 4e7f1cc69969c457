use Rattle.std.proofs.Common.{refl}
use Rattle.command_line.specs.Helps.{plan}
use Rattle.command_line.proofs.help.plan_help.Goals as goal

pub returns : goal.returns
unfolding plan
returns c = refl
