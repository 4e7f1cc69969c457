use Rattle.std.proofs.Common.{◌∙◌}
use Rattle.git_clean.proofs.Ordered.{found-by}
use Rattle.git_clean.proofs.above.set_contains_key.Goals as goal

pub returns : goal.returns
returns c = c.contains.ensures ∙ found-by c.args.directory.now c.args.directories.now.keys
