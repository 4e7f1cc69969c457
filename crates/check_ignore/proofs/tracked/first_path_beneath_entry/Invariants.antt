use Rattle.std.proofs.Common.{◌≡◌, drop, find}
use Rattle.check_ignore.specs.Tracked.{lies_beneath_entry}
use Rattle.check_ignore.proofs.tracked.first_path_beneath_entry.Given as goal

abbrev pub invariant-loop-one : goal.invariant-loop-one
invariant-loop-one l = find (lies_beneath_entry l.entry) (drop l.one-index l.asked) ≡ find (lies_beneath_entry l.entry) l.asked
