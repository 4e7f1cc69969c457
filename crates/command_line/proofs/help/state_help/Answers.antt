use Rattle.std.proofs.Common.{refl}
use Rattle.command_line.specs.Helps.{state_help_text}
use Rattle.command_line.proofs.help.state_help.Goals as goal

pub returns : goal.returns
unfolding state_help_text
returns c = refl
