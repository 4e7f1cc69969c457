use Rattle.std.proofs.Common.{◌≡◌, ◌-◌, drop, find, length, take}
use Rattle.ls_files.specs.IgnoredDirectories.{is_directory_excluded_and_unindexed, highest_excluded_unindexed_directory}
use Rattle.ls_files.specs.Others.{directories_above_behind_prefix}
use Rattle.ls_files.proofs.judged.highest_excluded_unindexed_directory.Given as goal

abbrev pub decreases-loop-at : goal.decreases-loop-at
decreases-loop-at l = length l.path - l.at

abbrev pub invariant-loop-at : goal.invariant-loop-at
invariant-loop-at l =
    find (is_directory_excluded_and_unindexed l.patterns l.case l.index) (directories_above_behind_prefix (take l.at l.path) (drop l.at l.path))
    ≡ highest_excluded_unindexed_directory l.patterns l.case l.index l.path
