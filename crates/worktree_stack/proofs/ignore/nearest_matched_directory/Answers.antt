use Rattle.std.proofs.Common.{rules, arith}
use Rattle.worktree_stack.proofs.Rules.Nearest.{nearest-is}
use Rattle.worktree_stack.proofs.ignore.nearest_matched_directory.Goals as goal

pub returns-then-is_some : goal.returns-then-is_some
returns-then-is_some c =
    nearest-is c.args.matches.now c.loop-at.at c.index-matches-at.result (omega (arith, c.loop-at-test.true)) c.loop-at.invariant.within (search rules) c.loop-at.invariant.none_later
