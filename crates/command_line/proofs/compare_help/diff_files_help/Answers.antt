use Rattle.std.proofs.Common.{refl}
use Rattle.command_line.specs.CompareHelp.{diff_files_help_text}
use Rattle.command_line.proofs.compare_help.diff_files_help.Goals as goal

pub returns : goal.returns
unfolding diff_files_help_text
returns c = refl
