use Rattle.std.proofs.Common.{◌≡◌, ◌-◌, drop, length, take}
use Rattle.std.specs.List.{list_any}
use Rattle.ls_files.specs.Killed.{has_merged_entry_at, lies_below_merged_file}
use Rattle.ls_files.specs.Others.{directories_above_behind_prefix}
use Rattle.ls_files.proofs.killed.lies_below_merged_file.Given as goal

abbrev pub decreases-loop-at : goal.decreases-loop-at
decreases-loop-at l = length l.name - l.at

abbrev pub invariant-loop-at : goal.invariant-loop-at
invariant-loop-at l = list_any (has_merged_entry_at l.index) (directories_above_behind_prefix (take l.at l.name) (drop l.at l.name)) ≡ lies_below_merged_file l.index l.name
