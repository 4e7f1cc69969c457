use Rattle.std.proofs.Common.{◌+◌, ◌-◌, ◌≤◌, arith, length, drop, length-drop}
use Rattle.std.proofs.lemmas.List.{take_all}
use Rattle.worktree_fs.proofs.Paths.Parts.{split_cut, split_whole}
use Rattle.worktree_fs.proofs.names.split_once_at_byte.Goals as goal

pub returns-then-b-byte-clause-some : goal.returns-then-b-byte-clause-some
returns-then-b-byte-clause-some c =
    let fits : length (drop (c.loop-i.i + 1) c.args.text.now) ≤ length c.args.text.now - (c.loop-i.i + 1) = omega (arith, length-drop (c.loop-i.i + 1) c.args.text.now) in
    rw (take_all (length c.args.text.now - (c.loop-i.i + 1)) (drop (c.loop-i.i + 1) c.args.text.now) fits)
    (split_cut c.args.byte c.args.text.now c.loop-i.i (omega arith) c.loop-i.invariant c.if-b-byte.true)

pub returns-clause-none : goal.returns-clause-none
returns-clause-none c = split_whole c.args.byte c.args.text.now (λ k h. c.loop-i.invariant k (omega arith))
