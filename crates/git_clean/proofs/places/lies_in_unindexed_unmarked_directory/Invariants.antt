use Rattle.std.proofs.Common.{◌≡◌, ◌-◌, drop, length, take}
use Rattle.std.specs.List.{list_any}
use Rattle.ls_files.specs.Others.{directories_above_behind_prefix}
use Rattle.git_clean.specs.Places.{lies_in_unindexed_unmarked_directory, is_directory_unindexed_and_unmarked}
use Rattle.git_clean.specs.Scenes.{scene_in_specification}
use Rattle.git_clean.proofs.places.lies_in_unindexed_unmarked_directory.Given as goal

abbrev pub decreases-loop-at : goal.decreases-loop-at
decreases-loop-at l = length l.path - l.at

abbrev pub invariant-loop-at : goal.invariant-loop-at
invariant-loop-at l =
    list_any (is_directory_unindexed_and_unmarked (scene_in_specification l.scene)) (directories_above_behind_prefix (take l.at l.path) (drop l.at l.path)) ≡ lies_in_unindexed_unmarked_directory (scene_in_specification l.scene) l.path
