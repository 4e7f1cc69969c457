use Rattle.std.proofs.Common.{refl}
use Rattle.command_line.specs.Helps.{report}
use Rattle.command_line.proofs.help.report_help.Goals as goal

pub returns : goal.returns
unfolding report
returns c = refl
