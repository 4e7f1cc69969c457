use Rattle.std.proofs.Common.{◌≡◌, ◌-◌, drop, find, length, take}
use Rattle.ls_files.specs.Others.{directories_above_behind_prefix}
use Rattle.git_clean.specs.Places.{directory_goes_whole, highest_removed_directory_above}
use Rattle.git_clean.specs.Scenes.{scene_in_specification}
use Rattle.git_clean.proofs.places.highest_removed_directory_above.Given as goal

abbrev pub decreases-loop-at : goal.decreases-loop-at
decreases-loop-at l = length l.path - l.at

abbrev pub invariant-loop-at : goal.invariant-loop-at
invariant-loop-at l =
    find (directory_goes_whole (scene_in_specification l.scene)) (directories_above_behind_prefix (take l.at l.path) (drop l.at l.path)) ≡ highest_removed_directory_above (scene_in_specification l.scene) l.path
