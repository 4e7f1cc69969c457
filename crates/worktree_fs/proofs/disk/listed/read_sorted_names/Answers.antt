use Rattle.std.proofs.Common.{◌<◌, length, take, rules}
use Rattle.worktree_fs.proofs.Lists.Readings.{taken_more}
use Rattle.worktree_fs.proofs.disk.listed.read_sorted_names.Goals as goal

pub loop-preserved : goal.loop-preserved
loop-preserved g c =
    let remaining = g.D.Read.remaining in
    let room : 0 < length c.read.new.buf = search rules in
    record {
      listed = c.append_nul_separated_names.ensures.listed;
      room = room;
      taken = taken_more c.args.composes (remaining c.args.dir.now) (remaining c.loop.dir) (remaining c.read.new.self) (take c.in-Ok.len c.read.new.buf) c.loop.names.items c.append_nul_separated_names.new.names.items
          c.loop.invariant.taken c.in-Ok.ensures.bytes.0 c.in_ok-append_nul_separated_names.ensures.all;
    }
