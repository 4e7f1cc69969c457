use Rattle.std.proofs.Common.{◌≡◌, ◌-◌, drop, length, take}
use Rattle.std.specs.List.{list_any}
use Rattle.ls_files.specs.Others.{directories_above_behind_prefix}
use Rattle.git_clean.specs.Directories.{set_contains_directory, lies_beneath_any_directory}
use Rattle.git_clean.proofs.above.lies_beneath_any_directory.Given as goal

abbrev pub decreases-loop-at : goal.decreases-loop-at
decreases-loop-at l = length l.path - l.at

abbrev pub invariant-loop-at : goal.invariant-loop-at
invariant-loop-at l =
    list_any (set_contains_directory l.directories.keys) (directories_above_behind_prefix (take l.at l.path) (drop l.at l.path)) ≡ lies_beneath_any_directory l.directories.keys l.path
