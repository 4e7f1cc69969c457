use Rattle.worktree_fs.proofs.Paths.Pieces.{begins-from}
use Rattle.worktree_fs.proofs.memory.route.without_leading_slashes.Goals as goal

pub returns-clause-begins : goal.returns-clause-begins
returns-clause-begins c = λ some. begins-from c.without_leading_slashes.result.now some (c.without_leading_slashes.ensures.name some)
