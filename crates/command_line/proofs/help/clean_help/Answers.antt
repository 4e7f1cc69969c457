use Rattle.std.proofs.Common.{refl}
use Rattle.command_line.specs.Helps.{clean}
use Rattle.command_line.proofs.help.clean_help.Goals as goal

pub returns : goal.returns
unfolding clean
returns c = refl
