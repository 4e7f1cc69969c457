use Rattle.worktree_fs.specs.Tree.{Names}
use Rattle.git_config_files.proofs.Deeper.{found_as}
use Rattle.git_config_files.proofs.Laws.{stacked_is}
use Rattle.git_config_files.proofs.stack.read_keys_of_files.Goals as goal

pub returns : goal.returns
returns g c = found_as _ _ _ _ _ _ (λ (tree : Names). stacked_is tree c.args.known.now c.args.files.now) c.read_keys_file_by_file.ensures
