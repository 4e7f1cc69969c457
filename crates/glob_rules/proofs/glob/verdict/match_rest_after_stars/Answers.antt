use Rattle.std.proofs.Common.{ℕ, List, length, arith, sym, subst, ◌∙◌, ◌<◌, ◌≡◌}
use Rattle.std.proofs.lemmas.Bool.{eqb-true, eqb-false}
use Rattle.std.proofs.lemmas.List.{length-drop}
use Rattle.glob_rules.proofs.Followed.{Follows, follows-next, follows-stars, follows-never, follows-ended, follows-stopped, follows-barred, follows-directories}
use Rattle.glob_rules.proofs.glob.verdict.match_rest_after_stars.Goals as goal
use Rattle.glob_rules.proofs.glob.verdict.match_rest_after_stars.Goals.{then-barred-via-then-barred, then-barred-via-else-barred+then-not-may_wildcard_match_byte}

pub returns-in-Never-clause-tells : goal.returns-in-Never-clause-tells
returns-in-Never-clause-tells c =
    follows-never c.args.mode c.args.pattern.now c.args.text.now c.loop-barred.rest.now c.loop-barred.left.now c.loop-barred.invariant.follows c.in-Never.ensures.tells

pub returns-then-is_empty-clause-tells : goal.returns-then-is_empty-clause-tells
returns-then-is_empty-clause-tells c =
    follows-ended c.args.mode c.args.pattern.now c.args.text.now c.loop-barred.rest.now c.loop-barred.left.now c.loop-barred.invariant.follows
    (eqb-true (length c.loop-barred.left.now) 0 (sym c.is_empty.ensures ∙ c.if-is_empty.true)) c.in-Differs.ensures.tells.0

some_left : (xs : List ℕ) → (length xs ≡ 0 → ⊥) → 0 < length xs
some_left xs none = omega arith

pub returns-then-barred-clause-tells : goal.returns-then-barred-clause-tells
returns-then-barred-clause-tells c =
    let some = some_left c.loop-barred.left.now (eqb-false (length c.loop-barred.left.now) 0 (sym c.is_empty.ensures ∙ c.if-is_empty.false)) in
    elim c.then-barred.branch [
      | then-barred-via-then-barred w ↦
          follows-barred c.args.mode c.args.pattern.now c.args.text.now c.loop-barred.rest.now c.loop-barred.left.now c.loop-barred.invariant.follows
          (c.in-Differs.ensures.tells.1 w.if-barred.true) c.in-Differs.ensures.tells.0
      | then-barred-via-else-barred+then-not-may_wildcard_match_byte w ↦
          follows-stopped c.args.mode c.args.pattern.now c.args.text.now c.loop-barred.rest.now c.loop-barred.left.now c.loop-barred.invariant.follows
          some (sym w.may_wildcard_match_byte.ensures ∙ w.if-not-may_wildcard_match_byte.true) c.in-Differs.ensures.tells.0
    ]

pub loop-barred-preserved-in-Differs : goal.loop-barred-preserved-in-Differs
loop-barred-preserved-in-Differs c =
    let some = some_left c.loop-barred.left.now (eqb-false (length c.loop-barred.left.now) 0 (sym c.is_empty.ensures ∙ c.if-is_empty.false)) in
    record {
      follows = subst (λ (xs : List ℕ). Follows c.args.mode c.args.pattern.now c.args.text.now c.loop-barred.rest.now xs) (sym c.bytes_from_offset-left.ensures)
          (follows-next c.args.mode c.args.pattern.now c.args.text.now c.loop-barred.rest.now c.loop-barred.left.now c.loop-barred.invariant.follows
          some (sym c.may_wildcard_match_byte.ensures ∙ c.if-not-may_wildcard_match_byte.false) c.in-Differs.ensures.tells.0);
      shorter = c.loop-barred.invariant.shorter;
      within = rw c.bytes_from_offset-left.ensures (omega (arith, c.loop-barred.invariant.within, length-drop 1 c.loop-barred.left.now));
    }

pub loop-barred-preserved : goal.loop-barred-preserved
loop-barred-preserved c =
    let w = c.in-Stars.ensures.within in
    record {
      follows = follows-stars c.args.mode c.args.pattern.now c.args.text.now c.loop-barred.rest.now c.loop-barred.left.now c.loop-barred.invariant.follows
          c.in-Stars.after.now c.in-Stars.there.now c.in-Stars.ensures.tells;
      shorter = omega (arith, c.loop-barred.invariant.shorter, w.0);
      within = omega (arith, c.loop-barred.invariant.within, w.1);
    }

pub returns-in-Directories-clause-tells : goal.returns-in-Directories-clause-tells
returns-in-Directories-clause-tells c =
    follows-directories c.args.mode c.args.pattern.now c.args.text.now c.loop-barred.rest.now c.loop-barred.left.now c.loop-barred.invariant.follows
    c.in-Directories.after.now c.in-Directories.there.now c.in-Directories.ensures.tells
