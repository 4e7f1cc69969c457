use Rattle.std.proofs.Common.{◌≡◌, ◌-◌, drop, find, length, take}
use Rattle.ls_files.specs.Others.{directories_above_path, directories_above_behind_prefix}
use Rattle.git_clean.specs.Parts.{is_removable_subdirectory}
use Rattle.git_clean.specs.Scenes.{scene_in_specification}
use Rattle.git_clean.proofs.parts.topmost_removable_part.Given as goal

abbrev pub decreases-loop-at : goal.decreases-loop-at
decreases-loop-at l = length l.path - l.at

abbrev pub invariant-loop-at : goal.invariant-loop-at
invariant-loop-at l =
    find (is_removable_subdirectory (scene_in_specification l.scene) l.directory) (directories_above_behind_prefix (take l.at l.path) (drop l.at l.path))
    ≡ find (is_removable_subdirectory (scene_in_specification l.scene) l.directory) (directories_above_path l.path)
