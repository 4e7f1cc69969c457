use Rattle.std.proofs.Common.{arith, rules}
use Rattle.worktree_stack.proofs.Rules.Nearest.{first-is}
use Rattle.worktree_stack.proofs.ignore.first_excluding_directory.Goals as goal

pub returns-then-excludes : goal.returns-then-excludes
returns-then-excludes c =
    first-is c.args.matches.now c.loop-at.at c.index-matches-at.result (omega (arith, c.loop-at-test.true)) (search rules) c.loop-at.invariant.none_before
