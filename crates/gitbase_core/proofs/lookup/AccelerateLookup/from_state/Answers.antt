use Rattle.std.proofs.Common.{◌≡◌, ℕ, List, length, rules, subst, ap, ◌∙◌}
use Rattle.std.specs.List.{range_with_len}
use Rattle.std.specs.List.Sorted.{IsPermutation}
use Rattle.std.specs.Ordering.{is_lt}
use Rattle.std.proofs.lemmas.List.Sorted.{ranks_by}
use Rattle.std.proofs.lemmas.Fn.{always_returns_same}
use Rattle.gitbase_core.specs.Lookup.{compare_entry_numbers_by_folded_path}
use Rattle.gitbase_core.specs.declared.entry.IndexEntry.{IndexEntry}
use Rattle.gitbase_core.proofs.FoldedSearch.{number_cmp_total}
use Rattle.gitbase_core.proofs.lookup.AccelerateLookup.from_state.Goals as goal

pub returns : goal.returns
returns c =
    let entries = c.args.state.now in
    let from : c.in_ok-numbers.numbers.items ≡ range_with_len 0 (length entries) =
    c.in_ok-numbers.ensures ∙ ap (λ (es : List IndexEntry). range_with_len 0 (length es)) c.entries-entries.ensures.same in
    record {
      all = subst (λ (l : List ℕ). IsPermutation l c.sort_by.new.self.items) from c.sort_by.ensures.permutation;
      ascending = rw (← c.entries-entries.ensures.same) (c.in_ok-sort_by.ensures.sorted (λ a b. is_lt (compare_entry_numbers_by_folded_path c.entries-entries.result.now a b))
          (ranks_by (number_cmp_total c.entries-entries.result.now) (λ (n : ℕ). n)) (always_returns_same _ _ _ (λ a r f k. (ap is_lt (search rules), search rules))));
    }
