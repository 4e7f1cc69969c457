use Rattle.std.proofs.Common.{◌≡◌, ◌-◌, drop, find, length, take}
use Rattle.ls_files.specs.Others.{directories_above_behind_prefix, may_directory_stand_for_contents, highest_directory_standing_for_contents}
use Rattle.ls_files.proofs.others.highest_directory_standing_for_contents.Given as goal

abbrev pub decreases-loop-at : goal.decreases-loop-at
decreases-loop-at l = length l.path - l.at

abbrev pub invariant-loop-at : goal.invariant-loop-at
invariant-loop-at l =
    find (may_directory_stand_for_contents l.index l.specs l.ignored) (directories_above_behind_prefix (take l.at l.path) (drop l.at l.path)) ≡ highest_directory_standing_for_contents l.index l.specs l.ignored l.path
