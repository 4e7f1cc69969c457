use Rattle.std.proofs.Common.{◌≡◌, ◌-◌, drop, length, take}
use Rattle.std.specs.List.{list_any}
use Rattle.ls_files.specs.Alone.{last_match_excludes_directory, is_below_excluded_directory}
use Rattle.ls_files.specs.Others.{directories_above_behind_prefix}
use Rattle.ls_files.proofs.alone.is_below_excluded_directory.Given as goal

abbrev pub decreases-loop-at : goal.decreases-loop-at
decreases-loop-at l = length l.path - l.at

abbrev pub invariant-loop-at : goal.invariant-loop-at
invariant-loop-at l = list_any (last_match_excludes_directory l.rules l.case) (directories_above_behind_prefix (take l.at l.path) (drop l.at l.path)) ≡ is_below_excluded_directory l.rules l.case l.path
