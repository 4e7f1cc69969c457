-- What a search in folded order finds, and what is the first in an index.
use Rattle.std.proofs.Common.{◌≡◌, ℕ, zero, suc, ◌+◌, ◌-◌, ◌<◌, ◌≤◌, Bool, true, false, List, [], ◌∷◌, ◌++◌, length, drop, get_or, Option, Some, None, refl, sym, ap, ◌∙◌, is_some, arith, inl, inr}
use Rattle.std.specs.Prelude.{All, Contains, find, take, slice_get, nat_eq}
use Rattle.std.specs.Cmp.{IsTotalOrder}
use Rattle.std.specs.List.{position_or_len, slice_range, range_with_len, starts_with}
use Rattle.std.specs.Ordering.{MatchOrdering, nat_cmp, is_lt, is_le, ordering_then, ordering_reverse}
use Rattle.std.specs.Str.{bytes_eq}
use Rattle.std.specs.declared.cmp.Ordering.{Ordering}
use Rattle.std.specs.declared.cmp.Ordering.TheVariants.{Less, Equal, Greater}
use Rattle.std.proofs.lemmas.Bool.{cases_lt}
use Rattle.std.proofs.lemmas.Cmp.{nat_list_cmp_total, nat_cmp_total, on_total, then_total, ranked, tied_itself}
use Rattle.std.proofs.lemmas.List.{get_or-take, get_or-drop, length-take-le, length-drop}
use Rattle.std.proofs.lemmas.List.Folds.{find_at}
use Rattle.std.proofs.lemmas.List.FromFn.{length-range_with_len, get_or-range_with_len}
use Rattle.std.proofs.lemmas.List.Sorted.{sorted_far, ranks_by, Contains-permutation, All-permutation}
use Rattle.std.proofs.lemmas.List.Sums.{position_or_len_is}
use Rattle.std.proofs.lemmas.Option.{slice_get_within, get_or_from_slice_get, slice_get-get_or}
use Rattle.std.proofs.lemmas.Slice.Eq.{bytes_eq-Decides}
use Rattle.gitbase_core.specs.Text.{fold_case}
use Rattle.gitbase_core.specs.Lookup.{folded_path_of_optional_entry, folded_path_of_numbered_entry, compare_entry_numbers_by_folded_path, IsCaseFoldedLookupOfEntries, first_entry_at_path_icase, first_entry_beneath_directory_icase}
use Rattle.gitbase_core.specs.Index.{compare_path_bytes, key_begins_with_prefix, IsExactRangeOfMatches, IsSortedByPathKey, IsFirstElementNotBelowPath}
use Rattle.gitbase_core.specs.declared.entry.IndexEntry.{IndexEntry}
use Rattle.gitbase_core.proofs.PathSearch.{find-none, other, past}

pub number_cmp_total : (entries : List IndexEntry) → IsTotalOrder (compare_entry_numbers_by_folded_path entries)
number_cmp_total entries = then_total (on_total (folded_path_of_numbered_entry entries) nat_list_cmp_total) nat_cmp_total

-- an order by two parts in which a later element is not below an earlier one
not_below-first : (o p : Ordering) → is_lt (ordering_then o p) ≡ false → is_le (ordering_reverse o) ≡ true
not_below-first Less p h = absurd (cc)
not_below-first Equal p h = refl
not_below-first Greater p h = refl

not_lt : (a b : ℕ) → is_lt (nat_cmp a b) ≡ false → b ≤ a
not_lt a b h = by_order (nat_cmp a b) (ranked a b (nat_cmp a b) refl) h
  where
    by_order : (o : Ordering) → MatchOrdering o (a < b) (a ≡ b) (b < a) → is_lt o ≡ false → b ≤ a
    by_order Less m h = absurd (cc)
    by_order Equal m h = omega arith
    by_order Greater m h = omega arith

all-false : {X : Type 0} (p : X → Bool) (xs : List X) → find p xs ≡ None → All (λ x. p x ≡ false) xs
all-false p [] none k d low = absurd (omega arith)
all-false p (x ∷ xs) none k d low = by_test (p x) refl (λ rest. all-false p xs rest) k low
  where
    by_test : (t : Bool) → p x ≡ t → (find p xs ≡ None → All (λ x. p x ≡ false) xs) → (k : ℕ) → k < length (x ∷ xs) → p (get_or (x ∷ xs) k d) ≡ false
    by_test true e more k low = absurd (cc (none, e))
    by_test false e more zero low = e
    by_test false e more (suc k) low = more (rw e at none) k d (omega arith)

module _ (entries : List IndexEntry) (numbers : List ℕ) (is : IsCaseFoldedLookupOfEntries entries numbers) where
  pair : (i j : ℕ) (d : ℕ) → i ≤ j → j < length numbers → is_lt (compare_entry_numbers_by_folded_path entries (get_or numbers j d) (get_or numbers i d)) ≡ false
  pair i j d low high = sorted_far (λ a b. is_lt (compare_entry_numbers_by_folded_path entries a b)) (ranks_by (number_cmp_total entries) (λ (n : ℕ). n)) numbers is.ascending i j d low high

  pub never-fold_case : IsSortedByPathKey (folded_path_of_numbered_entry entries) numbers
  never-fold_case = record {
    at = λ i j d low high.
        ap is_le (nat_list_cmp_total.antisymm (folded_path_of_numbered_entry entries (get_or numbers i d)) (folded_path_of_numbered_entry entries (get_or numbers j d)))
        ∙ not_below-first _ (nat_cmp (get_or numbers j d) (get_or numbers i d)) (pair i j d low high);
  }

  -- numbers of one folded path ascend
  in_order : (i j d : ℕ) → i ≤ j → j < length numbers → folded_path_of_numbered_entry entries (get_or numbers i d) ≡ folded_path_of_numbered_entry entries (get_or numbers j d)
      → get_or numbers i d ≤ get_or numbers j d
  in_order i j d low high same =
      let tied : compare_path_bytes (folded_path_of_numbered_entry entries (get_or numbers j d)) (folded_path_of_numbered_entry entries (get_or numbers i d)) ≡ Equal =
      rw same (tied_itself nat_list_cmp_total (folded_path_of_numbered_entry entries (get_or numbers j d))) in
      not_lt (get_or numbers j d) (get_or numbers i d) (rw tied at (pair i j d low high))

  -- each entry's number stands somewhere
  pub place : (k : ℕ) → k < length entries → Contains numbers k
  place k low = Contains-permutation (range_with_len 0 (length entries)) numbers k is.all
      (k, omega (arith, length-range_with_len 0 (length entries)), omega (arith, get_or-range_with_len 0 (length entries) k k low))

  -- and each number is one of an entry
  pub within : (j d : ℕ) → j < length numbers → get_or numbers j d < length entries
  within j d low = All-permutation (λ n. n < length entries) (range_with_len 0 (length entries)) numbers is.all
      (λ k e below. omega (arith, length-range_with_len 0 (length entries), get_or-range_with_len 0 (length entries) k e (omega (arith, length-range_with_len 0 (length entries))))) j d low

  folded_at : (k : ℕ) (d : IndexEntry) → k < length entries → folded_path_of_numbered_entry entries k ≡ fold_case (get_or entries k d).path
  folded_at k d low = rw (slice_get-get_or entries k d low) refl

some_at : (entries : List IndexEntry) (n : ℕ) → n < length entries → slice_get entries n ≡ None → ⊥
some_at [] n low none = absurd (omega arith)
some_at (e ∷ entries) n low none = absurd (cc (none, slice_get-get_or (e ∷ entries) n e low))

-- the entry of the least number that passes a test is the first that does
first_is : (t : IndexEntry → Bool) (entries : List IndexEntry) (n : ℕ) (e : IndexEntry) → slice_get entries n ≡ Some e → t e ≡ true
    → ((k : ℕ) (d : IndexEntry) → k < n → t (get_or entries k d) ≡ true → ⊥) → Some e ≡ find t entries
first_is t entries n e here passes none =
    let at : get_or entries n e ≡ e = get_or_from_slice_get entries n e e here in
    let low : n < length entries = slice_get_within entries n e here in
    let found : position_or_len t entries ≡ n =
    position_or_len_is t entries n e (omega arith) (λ k below. fails k below (t (get_or entries k e)) refl) (λ below. rw at passes) in
    sym here ∙ sym (ap (slice_get entries) found) ∙ sym (find_at t entries)
  where
    fails : (k : ℕ) → k < n → (b : Bool) → t (get_or entries k e) ≡ b → t (get_or entries k e) ≡ false
    fails k below true h = absurd (none k e below h)
    fails k below false h = h

module _ (path : List ℕ) (entries : List IndexEntry) (numbers : List ℕ) (is : IsCaseFoldedLookupOfEntries entries numbers) where
  pub found-fold_case : (n : ℕ) (e : IndexEntry) → IsFirstElementNotBelowPath (folded_path_of_numbered_entry entries) (fold_case path) numbers (Some n) → slice_get entries n ≡ Some e
      → fold_case e.path ≡ fold_case path → Some e ≡ first_entry_at_path_icase path entries
  found-fold_case n e first here same =
      first_is (λ x. bytes_eq (fold_case x.path) (fold_case path)) entries n e here ((bytes_eq-Decides (fold_case e.path) (fold_case path)).1 same)
      (λ k d below passes.
      let low : k < length entries = omega (arith, slice_get_within entries n e here) in
      let there = place entries numbers is k low in
      let at : ℕ = first.0 in
      let number : get_or numbers at k ≡ n = get_or_from_slice_get numbers at n k first.1 in
      let key : folded_path_of_numbered_entry entries (get_or numbers there.0 k) ≡ fold_case path =
      ap (folded_path_of_numbered_entry entries) there.2 ∙ folded_at entries numbers is k d low ∙ (bytes_eq-Decides _ _).0 passes in
      elim (cases_lt there.0 at) [
        | inl before ↦
            let less : compare_path_bytes (folded_path_of_numbered_entry entries (get_or numbers there.0 k)) (fold_case path) ≡ Less = first.2 there.0 k before in
            absurd (cc (rw key at less, tied_itself nat_list_cmp_total (fold_case path)))
        | inr behind ↦
            let own : folded_path_of_numbered_entry entries (get_or numbers at k) ≡ fold_case path = ap (folded_path_of_numbered_entry entries) number ∙ rw here same in
            let order = in_order entries numbers is at there.0 k behind there.1 (own ∙ sym key) in
            absurd (omega (arith, order, number, there.2, below))
      ])

  pub none-fold_case : None ≡ find (λ n. bytes_eq (folded_path_of_numbered_entry entries n) (fold_case path)) numbers → None ≡ first_entry_at_path_icase path entries
  none-fold_case none =
      sym (find-none (λ x. bytes_eq (fold_case x.path) (fold_case path)) entries (λ k d low.
      let there = place entries numbers is k low in
      let fails = all-false (λ n. bytes_eq (folded_path_of_numbered_entry entries n) (fold_case path)) numbers (sym none) there.0 k there.1 in
      ap (λ (p : List ℕ). bytes_eq p (fold_case path)) (sym (ap (folded_path_of_numbered_entry entries) there.2 ∙ folded_at entries numbers is k d low)) ∙ fails))

  pub other-fold_case : (n : ℕ) (e : IndexEntry) → IsFirstElementNotBelowPath (folded_path_of_numbered_entry entries) (fold_case path) numbers (Some n) → slice_get entries n ≡ Some e
      → (fold_case e.path ≡ fold_case path → ⊥) → None ≡ first_entry_at_path_icase path entries
  other-fold_case n e first here differs =
      none-fold_case (other (folded_path_of_numbered_entry entries) (fold_case path) numbers (never-fold_case entries numbers is) n first (λ same. differs (cc (ap folded_path_of_optional_entry here, same))))

  pub past-fold_case : IsFirstElementNotBelowPath (folded_path_of_numbered_entry entries) (fold_case path) numbers None → None ≡ first_entry_at_path_icase path entries
  past-fold_case first = none-fold_case (past (folded_path_of_numbered_entry entries) (fold_case path) numbers (never-fold_case entries numbers is) first)

  pub number-within : (n : ℕ) → IsFirstElementNotBelowPath (folded_path_of_numbered_entry entries) (fold_case path) numbers (Some n) → n < length entries
  number-within n first =
      let at : ℕ = first.0 in
      let number : get_or numbers at n ≡ n = get_or_from_slice_get numbers at n n first.1 in
      omega (arith, number, within entries numbers is at n (slice_get_within numbers at n first.1))

  module _ (start end : ℕ) (run : IsExactRangeOfMatches (key_begins_with_prefix (folded_path_of_numbered_entry entries) (fold_case (path ++ 47 ∷ []))) numbers start end) where
    in_run : (k : ℕ) (d : IndexEntry) → k < length entries → starts_with nat_eq (fold_case (get_or entries k d).path) (fold_case (path ++ 47 ∷ [])) ≡ true
        → Contains (slice_range numbers start end) k
    in_run k d low passes =
        let there = place entries numbers is k low in
        let key : folded_path_of_numbered_entry entries (get_or numbers there.0 k) ≡ fold_case (get_or entries k d).path =
        ap (folded_path_of_numbered_entry entries) there.2 ∙ folded_at entries numbers is k d low in
        let inside : key_begins_with_prefix (folded_path_of_numbered_entry entries) (fold_case (path ++ 47 ∷ [])) (get_or numbers there.0 k) ≡ true = rw key passes in
        elim (cases_lt there.0 start) [
          | inl before ↦ absurd (cc (run.before there.0 k before, inside))
          | inr from ↦
              elim (cases_lt there.0 end) [
                | inr behind ↦ absurd (cc (run.behind there.0 k behind there.1, inside))
                | inl below ↦
                    let order = run.order in
                    let fits = run.fits in
                    let rest = length-drop start numbers in
                    let size = length-take-le (end - start) (drop start numbers) (omega arith) in
                    let at : start + (there.0 - start) ≡ there.0 = omega arith in (
                      there.0 - start,
                      omega arith,
                      get_or-take (end - start) (drop start numbers) (there.0 - start) k (omega arith) ∙ get_or-drop start numbers (there.0 - start) k
                          ∙ ap (λ (i : ℕ). get_or numbers i k) at ∙ there.2,
                    )
              ]
        ]

    pub least-fold_case : (n : ℕ) (e : IndexEntry) → Contains (slice_range numbers start end) n → All (λ m. n ≤ m) (slice_range numbers start end)
        → slice_get entries n ≡ Some e → Some e ≡ first_entry_beneath_directory_icase path entries
    least-fold_case n e there least here =
        let order = run.order in
        let fits = run.fits in
        let rest = length-drop start numbers in
        let size = length-take-le (end - start) (drop start numbers) (omega arith) in
        let low : there.0 < end - start = omega (arith, there.1) in
        let number : get_or numbers (start + there.0) n ≡ n =
        sym (get_or-take (end - start) (drop start numbers) there.0 n low ∙ get_or-drop start numbers there.0 n) ∙ there.2 in
        let inside : key_begins_with_prefix (folded_path_of_numbered_entry entries) (fold_case (path ++ 47 ∷ [])) n ≡ true =
        ap (key_begins_with_prefix (folded_path_of_numbered_entry entries) (fold_case (path ++ 47 ∷ []))) (sym number) ∙ run.inside (start + there.0) n (omega arith) (omega arith) in
        first_is (λ x. starts_with nat_eq (fold_case x.path) (fold_case (path ++ 47 ∷ []))) entries n e here (rw here at inside)
        (λ k d below passes.
        let found = in_run k d (omega (arith, slice_get_within entries n e here)) passes in
        omega (arith, least found.0 k found.1, found.2, below))

    -- the entry of the least number of the run is the first
    pub number-in_run : (n : ℕ) → Contains (slice_range numbers start end) n → All (λ m. n ≤ m) (slice_range numbers start end)
        → slice_get entries n ≡ first_entry_beneath_directory_icase path entries
    number-in_run n there least = by_entry (slice_get entries n) refl
      where
        low : n < length entries
        low =
            let order = run.order in
            let fits = run.fits in
            let rest = length-drop start numbers in
            let size = length-take-le (end - start) (drop start numbers) (omega arith) in
            let below : there.0 < end - start = omega (arith, there.1) in
            let place : get_or numbers (start + there.0) n ≡ n =
            sym (get_or-take (end - start) (drop start numbers) there.0 n below ∙ get_or-drop start numbers there.0 n) ∙ there.2 in
            omega (arith, place, within entries numbers is (start + there.0) n (omega arith))

        none : slice_get entries n ≡ None → ⊥
        none here = some_at entries n low here

        by_entry : (o : Option IndexEntry) → slice_get entries n ≡ o → slice_get entries n ≡ first_entry_beneath_directory_icase path entries
        by_entry None here = absurd (none here)
        by_entry (Some e) here = here ∙ least-fold_case n e there least here

    pub no-fold_case : slice_range numbers start end ≡ [] → None ≡ first_entry_beneath_directory_icase path entries
    no-fold_case empty =
        sym (find-none (λ x. starts_with nat_eq (fold_case x.path) (fold_case (path ++ 47 ∷ []))) entries (λ k d low.
        fails k d low (starts_with nat_eq (fold_case (get_or entries k d).path) (fold_case (path ++ 47 ∷ []))) refl))
      where
        fails : (k : ℕ) (d : IndexEntry) → k < length entries → (b : Bool)
            → starts_with nat_eq (fold_case (get_or entries k d).path) (fold_case (path ++ 47 ∷ [])) ≡ b
            → starts_with nat_eq (fold_case (get_or entries k d).path) (fold_case (path ++ 47 ∷ [])) ≡ false
        fails k d low true h =
            let found = in_run k d low h in
            absurd (omega (arith, found.1, ap length empty))
        fails k d low false h = h

    -- an entry stands beneath the path exactly where the run has a number
    pub some-fold_case : start < end → is_some (first_entry_beneath_directory_icase path entries) ≡ true
    some-fold_case lt = by_entry (slice_get entries number) refl (first_entry_beneath_directory_icase path entries) refl
      where
        number : ℕ
        number = get_or numbers start 0

        test : key_begins_with_prefix (folded_path_of_numbered_entry entries) (fold_case (path ++ 47 ∷ [])) number ≡ true
        test = run.inside start 0 (omega arith) lt

        low : number < length entries
        low =
            let fits = run.fits in
            within entries numbers is start 0 (omega (arith, lt))

        by_entry : (o : Option IndexEntry) → slice_get entries number ≡ o → (found : Option IndexEntry) → first_entry_beneath_directory_icase path entries ≡ found → is_some found ≡ true
        by_entry None here found e = absurd (some_at entries number low here)
        by_entry (Some x) here (Some y) e = refl
        by_entry (Some x) here None e =
            let fails = all-false (λ y. starts_with nat_eq (fold_case y.path) (fold_case (path ++ 47 ∷ []))) entries e number x low in
            let same : get_or entries number x ≡ x = get_or_from_slice_get entries number x x here in
            absurd (clash (rw here at test) (ap (λ (y : IndexEntry). starts_with nat_eq (fold_case y.path) (fold_case (path ++ 47 ∷ []))) (sym same) ∙ fails))
          where
            clash : starts_with nat_eq (fold_case x.path) (fold_case (path ++ 47 ∷ [])) ≡ true → starts_with nat_eq (fold_case x.path) (fold_case (path ++ 47 ∷ [])) ≡ false → ⊥
            clash a b = cc

    pub none-beneath : (start < end → ⊥) → is_some (first_entry_beneath_directory_icase path entries) ≡ false
    none-beneath not =
        let order = run.order in
        let size : end - start ≡ 0 = omega (arith, order, not) in
        ap is_some (sym (no-fold_case (ap (λ n. take n (drop start numbers)) size)))
