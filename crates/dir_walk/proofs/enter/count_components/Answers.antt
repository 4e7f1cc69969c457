use Rattle.std.proofs.Common.{ap, length, arith}
use Rattle.worktree_fs.proofs.Paths.Pieces.{pieces_few}
use Rattle.dir_walk.proofs.enter.count_components.Goals as goal

pub overflow_add-depth : goal.overflow_add-depth
overflow_add-depth c = omega (arith, c.loop-next.invariant, ap (λ l. length l) c.in-Some.ensures.0, pieces_few c.args.path.now)
