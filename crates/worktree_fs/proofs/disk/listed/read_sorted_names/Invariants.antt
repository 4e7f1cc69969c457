use Rattle.std.proofs.Common.{◌<◌, length}
use Rattle.worktree_fs.specs.Disk.{AreValidListedNames}
use Rattle.worktree_fs.proofs.Lists.Readings.{HaveTaken}
use Rattle.worktree_fs.proofs.disk.listed.read_sorted_names.Given as goal

abbrev pub invariant-loop : goal.invariant-loop
invariant-loop g l =
    let remaining = g.D.Read.remaining in
    record {
      listed : AreValidListedNames l.composes l.names.items;
      room : 0 < length l.buffer;
      taken : HaveTaken l.composes (remaining l.fn.dir) (remaining l.dir) l.names.items;
    }
