use Rattle.std.proofs.Common.{refl}
use Rattle.command_line.specs.Helps.{files}
use Rattle.command_line.proofs.help.ls_files_help.Goals as goal

pub returns : goal.returns
unfolding files
returns c = refl
