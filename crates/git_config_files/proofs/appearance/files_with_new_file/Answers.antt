use Rattle.std.proofs.Common.{rules}
use Rattle.git_config_files.proofs.PathSets.{one-more}
use Rattle.git_config_files.proofs.appearance.files_with_new_file.Goals as goal

pub invariant_of-result : goal.invariant_of-result
invariant_of-result c = λ path.
    let same = one-more c.met.inside.paths.keys c.met.inside.files c.args.source c.args.path.now c.met.invariant path in
    search rules
