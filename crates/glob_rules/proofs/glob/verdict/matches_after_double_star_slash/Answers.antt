use Rattle.std.proofs.Common.{arith, ap, length, ◌+◌}
use Rattle.std.proofs.lemmas.List.{length-drop}
use Rattle.glob_rules.proofs.Followed.{directories-next, directories-then}
use Rattle.glob_rules.proofs.glob.verdict.matches_after_double_star_slash.Goals as goal

pub loop-next-preserved-in-Some : goal.loop-next-preserved-in-Some
loop-next-preserved-in-Some c =
    let before = c.loop-next.invariant.same in
    let step = directories-next c.args.mode c.loop-next.rest.now c.loop-next.left.now c.in-Some.next.now c.in-Some.ensures c.in-Differs.ensures.tells in
    let found = c.in-Some.ensures in
    record {
      same = (λ h. step.0 (before.0 h), λ h. before.1 (step.1 h));
      within = omega (arith, c.loop-next.invariant.within, ap length found.3, length-drop (found.0 + 1) c.loop-next.left.now);
    }

pub loop-next-preserved : goal.loop-next-preserved
loop-next-preserved c =
    let before = c.loop-next.invariant.same in
    let step = directories-then c.args.mode c.loop-next.rest.now c.loop-next.left.now c.in-Directories.after.now c.in-Directories.there.now c.in-Directories.ensures.tells in
    record {
      same = (λ h. step.0 (before.0 h), λ h. before.1 (step.1 h));
      within = omega (arith, c.loop-next.invariant.within, c.in-Directories.ensures.within.1);
    }
