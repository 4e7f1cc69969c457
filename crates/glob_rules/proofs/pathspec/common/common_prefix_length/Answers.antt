use Rattle.std.proofs.Common.{nat_eq, drop, arith}
use Rattle.std.proofs.lemmas.List.{length-drop}
use Rattle.std.proofs.lemmas.List.Sums.{common_prefix_len-le}
use Rattle.glob_rules.proofs.pathspec.common.common_prefix_length.Goals as goal

pub returns-else-at-right : goal.returns-else-at-right
returns-else-at-right c =
    let at = c.loop-at.at in
    let left = c.args.left.now in
    let right = c.args.right.now in
    omega (arith, common_prefix_len-le nat_eq (drop at left) (drop at right), length-drop at right, c.loop-at.invariant.same, c.if-at-right.false)
