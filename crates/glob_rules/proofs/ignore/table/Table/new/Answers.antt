use Rattle.std.proofs.Common.{ℕ, List, rules, subst, ap}
use Rattle.std.specs.List.Sorted.{IsPermutation}
use Rattle.std.specs.Ordering.{is_lt}
use Rattle.std.proofs.lemmas.Fn.{always_returns_same}
use Rattle.std.proofs.lemmas.List.Sorted.{ranks_by}
use Rattle.glob_rules.specs.Tables.{compare_rule_numbers_by_core}
use Rattle.glob_rules.proofs.Tabled.{number_cmp_total}
use Rattle.glob_rules.proofs.ignore.table.Table.new.Goals as goal

pub returns : goal.returns
returns c =
    let entries = c.args.entries.now in
    record {
      all = subst (λ (l : List ℕ). IsPermutation l c.sort_by.new.self.items) c.in_ok-sorted.ensures c.sort_by.ensures.permutation;
      ascending = c.in_ok-sort_by.ensures.sorted (λ a b. is_lt (compare_rule_numbers_by_core entries a b))
          (ranks_by (number_cmp_total entries) (λ (n : ℕ). n)) (always_returns_same _ _ _ (λ a r f k. (ap is_lt (search rules), search rules)));
      others = c.in_ok-rest.ensures;
    }
