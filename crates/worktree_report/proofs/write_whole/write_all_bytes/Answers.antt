use Rattle.std.proofs.Common.{arith, ◌++◌, ◌∙◌, take}
use Rattle.worktree_report.proofs.Writes.{Appends-more, parts_more}
use Rattle.worktree_report.proofs.write_whole.write_all_bytes.Goals as goal

pub loop-rest-preserved : goal.loop-rest-preserved
loop-rest-preserved g c =
    let so_far = c.loop-rest.invariant in
    record {
      front = so_far.front ++ take c.in_ok-taken.taken c.loop-rest.rest.now;
      parts = parts_more c.args.bytes.now so_far.front c.loop-rest.rest.now _ c.in_ok-taken.taken so_far.parts c.split_at.ensures.back;
      so_far = Appends-more _ _ _ so_far.front (take c.in_ok-taken.taken c.loop-rest.rest.now) so_far.so_far c.in_ok-taken.ensures.appended;
      unrefused = c.in_ok-taken.ensures.unrefused (λ none. absurd (omega (arith, none, c.if-taken-eq0.false))) ∙ so_far.unrefused;
    }
