use Rattle.std.proofs.Common.{ℕ, ◌-◌, sym, ◌∙◌, option_copied, arith}
use Rattle.glob_rules.specs.Tables.{numbered_rule_matches_path}
use Rattle.glob_rules.proofs.Tabled.{past_none, past_below, within}
use Rattle.glob_rules.proofs.ignore.table.rule_count_up_to_match_in_rest.Goals as goal

pub returns-then-number-found-clause-all : goal.returns-then-number-found-clause-all
returns-then-number-found-clause-all c =
    let some = c.loop-at-test.true in
    let fits = c.loop-at.invariant.within in
    past_below c.args.rest.now c.requires.rises
    (λ (n : ℕ). numbered_rule_matches_path c.args.entries.now c.args.name.now (option_copied c.args.relative) c.args.is_dir n)
    c.args.found (c.loop-at.at - 1) (omega (arith, some, fits))
    (λ j from below pass. c.loop-at.invariant.none j (omega (arith, from, some)) below pass) (omega (arith, c.if-number-found.true))

pub rule_number_plus_one-requires : goal.rule_number_plus_one-requires
rule_number_plus_one-requires c = within c.args.name.now (option_copied c.args.relative) c.args.is_dir c.args.entries.now _ (sym c.numbered_rule_matches_path.ensures ∙ c.if-numbered_rule_matches_path.true)

pub returns-then-numbered_rule_matches_path-clause-all : goal.returns-then-numbered_rule_matches_path-clause-all
returns-then-numbered_rule_matches_path-clause-all c =
    let some = c.loop-at-test.true in
    let fits = c.loop-at.invariant.within in
    past_below c.args.rest.now c.requires.rises
    (λ (n : ℕ). numbered_rule_matches_path c.args.entries.now c.args.name.now (option_copied c.args.relative) c.args.is_dir n)
    c.rule_number_plus_one.result (c.loop-at.at - 1) (omega (arith, some, fits))
    (λ j from below pass. c.loop-at.invariant.none j (omega (arith, from, some)) below pass) (omega (arith, c.rule_number_plus_one.ensures))

pub returns-clause-all : goal.returns-clause-all
returns-clause-all c =
    past_none c.args.rest.now c.requires.rises
    (λ (n : ℕ). numbered_rule_matches_path c.args.entries.now c.args.name.now (option_copied c.args.relative) c.args.is_dir n)
    c.args.found (λ j from below pass. c.loop-at.invariant.none j (omega (arith, c.loop-at-test.false)) below pass)
