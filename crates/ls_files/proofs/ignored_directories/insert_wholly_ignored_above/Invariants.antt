use Rattle.std.proofs.Common.{◌≡◌, ◌-◌, drop, length, take}
use Rattle.ls_files.specs.IgnoredDirectories.{insert_wholly_ignored_of_list}
use Rattle.ls_files.specs.Others.{directories_above_path, directories_above_behind_prefix}
use Rattle.ls_files.proofs.ignored_directories.insert_wholly_ignored_above.Given as goal

abbrev pub decreases-loop-at : goal.decreases-loop-at
decreases-loop-at l = length l.path - l.at

abbrev pub invariant-loop-at : goal.invariant-loop-at
invariant-loop-at l =
    insert_wholly_ignored_of_list l.index l.mixed.keys l.names.keys (directories_above_behind_prefix (take l.at l.path) (drop l.at l.path))
    ≡ insert_wholly_ignored_of_list l.index l.mixed.keys l.fn.names.keys (directories_above_path l.path)
