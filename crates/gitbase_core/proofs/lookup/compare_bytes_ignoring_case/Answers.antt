use Rattle.std.proofs.Common.{sym, ◌∙◌, arith}
use Rattle.gitbase_core.proofs.FoldedOrder.{ended}
use Rattle.gitbase_core.proofs.lookup.compare_bytes_ignoring_case.Goals as goal

pub returns : goal.returns
returns c =
    let within = c.loop-i.invariant.0 in
    let done = c.loop-i-test.false in
    let both = c.min-both.ensures in
    c.cmp.ensures ∙ sym (ended c.args.left.now c.args.right.now c.loop-i.i (omega arith)) ∙ c.loop-i.invariant.1
