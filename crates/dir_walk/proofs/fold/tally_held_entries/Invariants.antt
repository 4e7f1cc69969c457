use Rattle.std.proofs.Common.{◌≡◌, take}
use Rattle.dir_walk.specs.Fold.{tally_held_entries}
use Rattle.dir_walk.proofs.fold.tally_held_entries.Given as goal

abbrev pub invariant-loop-entry : goal.invariant-loop-entry
invariant-loop-entry l = l.counts ≡ tally_held_entries (take l.entry-index l.held)
