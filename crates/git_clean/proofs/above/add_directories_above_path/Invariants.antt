use Rattle.std.proofs.Common.{◌≡◌, ◌-◌, drop, length, take}
use Rattle.ls_files.specs.Others.{directories_above_path, directories_above_behind_prefix}
use Rattle.worktree_report.specs.SetupMeant.{insert_paths_in_order}
use Rattle.git_clean.proofs.above.add_directories_above_path.Given as goal

abbrev pub decreases-loop-at : goal.decreases-loop-at
decreases-loop-at l = length l.path - l.at

abbrev pub invariant-loop-at : goal.invariant-loop-at
invariant-loop-at l =
    insert_paths_in_order l.directories.keys (directories_above_behind_prefix (take l.at l.path) (drop l.at l.path)) ≡ insert_paths_in_order l.fn.directories.keys (directories_above_path l.path)
