use Rattle.std.proofs.Common.{◌≡◌, [], drop}
use Rattle.worktree_report.specs.SetupMeant.{insert_paths_in_order}
use Rattle.worktree_report.proofs.setup.meant.path_set_from_paths.Given as goal

abbrev pub invariant-loop-path : goal.invariant-loop-path
invariant-loop-path l = insert_paths_in_order l.set.keys (drop l.path-index l.paths) ≡ insert_paths_in_order [] l.paths
