use Rattle.std.proofs.Common.{◌≡◌, ◌++◌, ◌-◌, drop, length, take}
use Rattle.check_ignore.specs.Links.{directories_above_path, directories_above_rest_of_path}
use Rattle.check_ignore.proofs.links.directories_above_path.Given as goal

abbrev pub decreases-loop-at : goal.decreases-loop-at
decreases-loop-at l = length l.path - l.at

abbrev pub invariant-loop-at : goal.invariant-loop-at
invariant-loop-at l = l.above.items ++ directories_above_rest_of_path (take l.at l.path) (drop l.at l.path) ≡ directories_above_path l.path
