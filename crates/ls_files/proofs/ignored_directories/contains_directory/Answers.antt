use Rattle.std.proofs.Common.{◌∙◌}
use Rattle.ls_files.proofs.NameSets.{found-by}
use Rattle.ls_files.proofs.ignored_directories.contains_directory.Goals as goal

pub returns : goal.returns
returns c = c.contains.ensures ∙ found-by c.args.directory.now c.args.mixed.now.keys
