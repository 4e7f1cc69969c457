use Rattle.std.proofs.Common.{rules}
use Rattle.git_config_files.proofs.PathSets.{found-by}
use Rattle.git_config_files.proofs.appearance.is_path_among_files.Goals as goal

pub returns : goal.returns
returns c =
    let there = found-by c.met.inside.paths.keys c.met.inside.files c.args.path.now c.met.invariant in
    search rules
