use Rattle.std.proofs.Common.{refl}
use Rattle.command_line.specs.CheckHelp.{check}
use Rattle.command_line.proofs.check_help.check_ignore_help.Goals as goal

pub returns : goal.returns
unfolding check
returns c = refl
