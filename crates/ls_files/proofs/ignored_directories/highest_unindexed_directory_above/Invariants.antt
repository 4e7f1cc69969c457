use Rattle.std.proofs.Common.{◌≡◌, ◌-◌, drop, find, length, take}
use Rattle.ls_files.specs.IgnoredDirectories.{is_directory_unindexed, highest_unindexed_directory_above}
use Rattle.ls_files.specs.Others.{directories_above_behind_prefix}
use Rattle.ls_files.proofs.ignored_directories.highest_unindexed_directory_above.Given as goal

abbrev pub decreases-loop-at : goal.decreases-loop-at
decreases-loop-at l = length l.path - l.at

abbrev pub invariant-loop-at : goal.invariant-loop-at
invariant-loop-at l =
    find (is_directory_unindexed l.index) (directories_above_behind_prefix (take l.at l.path) (drop l.at l.path)) ≡ highest_unindexed_directory_above l.index l.path
