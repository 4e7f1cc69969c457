use Rattle.std.proofs.Common.{ℕ, ◌-◌, List, sym, ◌∙◌, subst, option_copied, arith}
use Rattle.std.specs.List.{Contains}
use Rattle.std.specs.List.Sorted.{IsStrictlyIncreasing}
use Rattle.gitbase_core.proofs.PathSearch.{got}
use Rattle.glob_rules.proofs.Tabled.{are_found, others-rise, last_of_both, last_is_none, last_is}
use Rattle.glob_rules.proofs.ignore.table.Table.last_matching_entry.Goals as goal

pub rule_count_through_last_match_in_sorted-found-requires-clause-cores : goal.rule_count_through_last_match_in_sorted-found-requires-clause-cores
rule_count_through_last_match_in_sorted-found-requires-clause-cores c = λ k there.
    are_found c.args.entries.now c.args.self.now.sorted.items c.args.self.now.rest.items c.requires k (subst (λ (l : List ℕ). Contains l k) c.deref.ensures.value there)

pub rule_count_up_to_match_in_rest-found-requires-clause-rises : goal.rule_count_up_to_match_in_rest-found-requires-clause-rises
rule_count_up_to_match_in_rest-found-requires-clause-rises c =
    subst (λ (l : List ℕ). IsStrictlyIncreasing l) (sym c.deref-2.ensures.value)
    (others-rise c.args.entries.now c.args.self.now.sorted.items c.args.self.now.rest.items c.requires)

pub returns-then-found-eq0 : goal.returns-then-found-eq0
returns-then-found-eq0 c =
    let more = c.rule_count_up_to_match_in_rest-found.ensures.more in
    last_is_none c.args.name.now (option_copied c.args.relative) c.args.is_dir c.args.entries.now c.rule_count_up_to_match_in_rest-found.result
    (last_of_both c.args.name.now (option_copied c.args.relative) c.args.is_dir c.args.entries.now c.args.self.now.sorted.items c.args.self.now.rest.items
    c.rule_count_up_to_match_in_rest-found.result c.requires
    (λ k there pass. omega (arith, c.rule_count_through_last_match_in_sorted-found.ensures.all k (subst (λ (l : List ℕ). Contains l k) (sym c.deref.ensures.value) there) pass, more))
    (λ k there pass. c.rule_count_up_to_match_in_rest-found.ensures.all k (subst (λ (l : List ℕ). Contains l k) (sym c.deref-2.ensures.value) there) pass))
    (omega (arith, c.if-found-eq0.true))

pub returns : goal.returns
returns c =
    let more = c.rule_count_up_to_match_in_rest-found.ensures.more in
    sym (got c.args.entries.now (c.rule_count_up_to_match_in_rest-found.result - 1) c.get.result c.get.ensures.lookup.3)
    ∙ last_is c.args.name.now (option_copied c.args.relative) c.args.is_dir c.args.entries.now c.rule_count_up_to_match_in_rest-found.result
    (last_of_both c.args.name.now (option_copied c.args.relative) c.args.is_dir c.args.entries.now c.args.self.now.sorted.items c.args.self.now.rest.items
    c.rule_count_up_to_match_in_rest-found.result c.requires
    (λ k there pass. omega (arith, c.rule_count_through_last_match_in_sorted-found.ensures.all k (subst (λ (l : List ℕ). Contains l k) (sym c.deref.ensures.value) there) pass, more))
    (λ k there pass. c.rule_count_up_to_match_in_rest-found.ensures.all k (subst (λ (l : List ℕ). Contains l k) (sym c.deref-2.ensures.value) there) pass))
    c.rule_count_up_to_match_in_rest-found.ensures.ends (λ is. omega (arith, is, c.if-found-eq0.false))
