use Rattle.std.proofs.Common.{take, length-take, arith}
use Rattle.dir_walk.proofs.Order.Tallies.{tally-loose, tally-small}
use Rattle.dir_walk.proofs.fold.tally_held_entries.Goals as goal

pub tally_with_entry-counts-requires : goal.tally_with_entry-counts-requires
tally_with_entry-counts-requires c =
    rw c.loop-entry.invariant (tally-small (take c.loop-entry.entry-index c.args.held.now) (omega (arith, length-take c.loop-entry.entry-index c.args.held.now)))

pub returns-clause-loose : goal.returns-clause-loose
returns-clause-loose c = rw c.loop-entry.invariant (tally-loose (take c.loop-entry.entry-index c.args.held.now))
