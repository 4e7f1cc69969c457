use Rattle.std.proofs.Common.{◌≡◌, ◌-◌, drop, length, take}
use Rattle.std.specs.List.{list_all}
use Rattle.ls_files.specs.Killed.{index_has_every_directory_above, index_has_path_or_beneath}
use Rattle.ls_files.specs.Others.{directories_above_behind_prefix}
use Rattle.ls_files.proofs.killed.index_has_every_directory_above.Given as goal

abbrev pub decreases-loop-at : goal.decreases-loop-at
decreases-loop-at l = length l.name - l.at

abbrev pub invariant-loop-at : goal.invariant-loop-at
invariant-loop-at l = list_all (index_has_path_or_beneath l.index) (directories_above_behind_prefix (take l.at l.name) (drop l.at l.name)) ≡ index_has_every_directory_above l.index l.name
