use Rattle.std.proofs.Common.{ℕ, List, length, drop, arith, sym, subst, ◌∙◌}
use Rattle.std.proofs.lemmas.Bool.{eqb-true, eqb-false}
use Rattle.std.proofs.lemmas.List.{length-drop}
use Rattle.glob_rules.specs.Glob.{RestOfPatternMatches}
use Rattle.glob_rules.specs.Verdict.{LeadsToStars, LeadsToDirectories}
use Rattle.glob_rules.proofs.Reached.{advanced, ended_here, not_ended, to_stars, to_directories}
use Rattle.glob_rules.proofs.glob.run.match_until_stars.Goals as goal

pub loop-ahead-preserved : goal.loop-ahead-preserved
loop-ahead-preserved c =
    let r = c.loop-ahead.invariant.reached in
    let e = rw c.in-Some-One.field-0-is at c.in-Some-One.ensures.tells in
    let w = rw c.in-Some-One.field-0-is at c.in-Some-One.ensures.within in
    record {
      reached = rw (c.bytes_from_offset-ahead.ensures, c.bytes_from_offset-left.ensures) (advanced c.args.mode c.args.fresh c.args.pattern.now c.args.text.now c.loop-ahead.after_slash c.loop-ahead.ahead.now c.loop-ahead.left.now c.loop-ahead.barred
          c.in-Some-One.is_slash c.in-Some-One.length r (w.2 c.if-not-fits.false) (e.1 c.if-not-fits.false) e.2 (e.3 c.if-not-fits.false));
      shorter = rw c.bytes_from_offset-ahead.ensures (omega (arith, c.loop-ahead.invariant.shorter, length-drop c.in-Some-One.length c.loop-ahead.ahead.now));
      within = rw c.bytes_from_offset-left.ensures (omega (arith, c.loop-ahead.invariant.within, length-drop 1 c.loop-ahead.left.now));
    }

pub returns-in-Some-Stars-clause-tells : goal.returns-in-Some-Stars-clause-tells
returns-in-Some-Stars-clause-tells c =
    let e = rw c.in-Some-Stars.field-0-is at c.in-Some-Stars.ensures.tells in
    subst (λ (xs : List ℕ). LeadsToStars c.args.mode (λ t. RestOfPatternMatches c.args.mode c.args.fresh c.args.pattern.now t) c.args.text.now xs c.loop-ahead.left.now) (sym c.bytes_from_offset.ensures)
    (to_stars c.args.mode c.args.fresh c.args.pattern.now c.args.text.now c.loop-ahead.after_slash c.loop-ahead.ahead.now c.loop-ahead.left.now c.loop-ahead.barred
    (drop c.in-Some-Stars.length c.loop-ahead.ahead.now) c.loop-ahead.invariant.reached e)

pub returns-in-Some-Directories-clause-tells : goal.returns-in-Some-Directories-clause-tells
returns-in-Some-Directories-clause-tells c =
    let e = rw c.in-Some-Directories.field-0-is at c.in-Some-Directories.ensures.tells in
    subst (λ (xs : List ℕ). LeadsToDirectories c.args.mode c.args.fresh (λ t. RestOfPatternMatches c.args.mode c.args.fresh c.args.pattern.now t) c.args.text.now xs c.loop-ahead.left.now) (sym c.bytes_from_offset-in-Some-Directories.ensures)
    (to_directories c.args.mode c.args.fresh c.args.pattern.now c.args.text.now c.loop-ahead.after_slash c.loop-ahead.ahead.now c.loop-ahead.left.now c.loop-ahead.barred
    (drop c.in-Some-Directories.length c.loop-ahead.ahead.now) c.loop-ahead.invariant.reached e.0 e.1)

pub returns-then-is_empty-2-clause-tells : goal.returns-then-is_empty-2-clause-tells
returns-then-is_empty-2-clause-tells c =
    ended_here c.args.mode c.args.fresh c.args.pattern.now c.args.text.now c.loop-ahead.after_slash c.loop-ahead.ahead.now c.loop-ahead.left.now c.loop-ahead.barred c.loop-ahead.invariant.reached
    (eqb-true (length c.loop-ahead.ahead.now) 0 (sym c.is_empty.ensures ∙ c.loop-ahead-test.false)) (eqb-true (length c.loop-ahead.left.now) 0 (sym c.is_empty-2.ensures ∙ c.if-is_empty-2.true))

pub returns-else-is_empty-2-clause-tells : goal.returns-else-is_empty-2-clause-tells
returns-else-is_empty-2-clause-tells c = (
  not_ended c.args.mode c.args.fresh c.args.pattern.now c.args.text.now c.loop-ahead.after_slash c.loop-ahead.ahead.now c.loop-ahead.left.now c.loop-ahead.barred c.loop-ahead.invariant.reached
      (eqb-true (length c.loop-ahead.ahead.now) 0 (sym c.is_empty.ensures ∙ c.loop-ahead-test.false)) (eqb-false (length c.loop-ahead.left.now) 0 (sym c.is_empty-2.ensures ∙ c.if-is_empty-2.false)),
  c.loop-ahead.invariant.reached.held,
)
