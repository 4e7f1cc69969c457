use Rattle.std.proofs.Common.{ℕ, ◌-◌, Bool, rules, sym, ◌∙◌, option_copied, arith}
use Rattle.std.specs.Ordering.{is_le}
use Rattle.std.proofs.lemmas.Bool.{false≢true}
use Rattle.std.proofs.lemmas.List.Sorted.{IsPartitionPoint-from_clause}
use Rattle.gitbase_core.specs.Index.{compare_path_bytes}
use Rattle.glob_rules.specs.Tables.{core_of_numbered_rule, numbered_rule_matches_path}
use Rattle.glob_rules.proofs.Tabled.{parted, up_to_point, none_from_point, at_none, at_other, at_core, within}
use Rattle.glob_rules.proofs.ignore.table.rule_count_through_last_match_with_core.Goals as goal

pub loop-at-init : goal.loop-at-init
loop-at-init c =
    let entries = c.args.entries.now in
    let sorted = c.args.sorted.now in
    let text = c.args.text.now in
    let test : ℕ → Bool = λ n. numbered_rule_matches_path entries c.args.name.now (option_copied c.args.relative) c.args.is_dir n in
    let point =
    IsPartitionPoint-from_clause (λ (n : ℕ). is_le (compare_path_bytes (core_of_numbered_rule entries n) text)) _ _ c.partition_point-at.ensures.partitioned
    (parted entries sorted c.requires.ordered text) (λ a r f k. search rules) in
    record {
      within = c.partition_point-at.ensures.bound;
      upto = up_to_point entries sorted c.requires.ordered text test c.partition_point-at.result c.partition_point-at.ensures.bound point;
      none = none_from_point entries sorted c.requires.ordered text test c.partition_point-at.result point;
    }

pub returns-then-not-numbered_rule_has_core-clause-all : goal.returns-then-not-numbered_rule_has_core-clause-all
returns-then-not-numbered_rule_has_core-clause-all c =
    let some = c.loop-at-test.true in
    let fits = c.loop-at.invariant.within in
    at_other c.args.entries.now c.args.sorted.now c.requires.ordered c.args.text.now
    (λ (n : ℕ). numbered_rule_matches_path c.args.entries.now c.args.name.now (option_copied c.args.relative) c.args.is_dir n)
    (c.loop-at.at - 1) (omega (arith, some, fits)) c.args.found
    (λ j from below same pass. c.loop-at.invariant.none j (omega (arith, from, some)) below same pass)
    (λ j below. c.loop-at.invariant.upto j (omega (arith, below, some)))
    (λ same. false≢true (sym c.if-not-numbered_rule_has_core.true ∙ c.numbered_rule_has_core.ensures.1 same))

pub returns-then-number-found-clause-all : goal.returns-then-number-found-clause-all
returns-then-number-found-clause-all c =
    let some = c.loop-at-test.true in
    let fits = c.loop-at.invariant.within in
    at_core c.args.entries.now c.args.sorted.now c.requires.ordered c.args.text.now
    (λ (n : ℕ). numbered_rule_matches_path c.args.entries.now c.args.name.now (option_copied c.args.relative) c.args.is_dir n)
    (c.loop-at.at - 1) (omega (arith, some, fits)) c.args.found
    (λ j from below same pass. c.loop-at.invariant.none j (omega (arith, from, some)) below same pass)
    (c.numbered_rule_has_core.ensures.0 c.if-not-numbered_rule_has_core.false) (omega (arith, c.if-number-found.true))

pub rule_number_plus_one-requires : goal.rule_number_plus_one-requires
rule_number_plus_one-requires c = within c.args.name.now (option_copied c.args.relative) c.args.is_dir c.args.entries.now _ (sym c.numbered_rule_matches_path.ensures ∙ c.if-numbered_rule_matches_path.true)

pub returns-then-numbered_rule_matches_path-clause-all : goal.returns-then-numbered_rule_matches_path-clause-all
returns-then-numbered_rule_matches_path-clause-all c =
    let some = c.loop-at-test.true in
    let fits = c.loop-at.invariant.within in
    at_core c.args.entries.now c.args.sorted.now c.requires.ordered c.args.text.now
    (λ (n : ℕ). numbered_rule_matches_path c.args.entries.now c.args.name.now (option_copied c.args.relative) c.args.is_dir n)
    (c.loop-at.at - 1) (omega (arith, some, fits)) c.rule_number_plus_one.result
    (λ j from below same pass. c.loop-at.invariant.none j (omega (arith, from, some)) below same pass)
    (c.numbered_rule_has_core.ensures.0 c.if-not-numbered_rule_has_core.false) (omega (arith, c.rule_number_plus_one.ensures))

pub returns-clause-all : goal.returns-clause-all
returns-clause-all c =
    at_none c.args.entries.now c.args.sorted.now c.requires.ordered c.args.text.now
    (λ (n : ℕ). numbered_rule_matches_path c.args.entries.now c.args.name.now (option_copied c.args.relative) c.args.is_dir n)
    c.args.found (λ j from below same pass. c.loop-at.invariant.none j (omega (arith, c.loop-at-test.false)) below same pass)
