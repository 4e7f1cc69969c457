-- What the tables of a list find.
use mathlib.Core.List.{reverse-cons}
use Rattle.std.proofs.Common.{◌≡◌, ℕ, zero, suc, ◌+◌, ◌-◌, ◌<◌, ◌≤◌, ◌⊎◌, inl, inr, Bool, true, false, cond, not, List, [], ◌∷◌, ◌++◌, length, get_or, reverse, Option, Some, None, refl, sym, ap, ◌∙◌, subst, arith}
use Rattle.std.specs.Prelude.{find, slice_get}
use Rattle.std.specs.Cmp.{IsTotalOrder}
use Rattle.std.specs.List.{Contains, filter, range_with_len}
use Rattle.std.specs.List.Sorted.{IsSorted, IsPartitionedBy, IsPartitionPoint, IsStrictlyIncreasing}
use Rattle.std.specs.Option.{option_or}
use Rattle.std.specs.Ordering.{MatchOrdering, nat_cmp, is_lt, is_le, ordering_then, ordering_reverse}
use Rattle.std.specs.declared.cmp.Ordering.{Ordering}
use Rattle.std.specs.declared.cmp.Ordering.TheVariants.{Less, Equal, Greater}
use Rattle.std.proofs.lemmas.Bool.{cases_lt, false≢true}
use Rattle.std.proofs.lemmas.Cmp.{nat_list_cmp_total, nat_cmp_total, on_total, then_total, ranked, tied_itself}
use Rattle.std.proofs.lemmas.List.{get_or_default}
use Rattle.std.proofs.lemmas.List.Elements.{All-contains, Contains-append_cases, filter_passes, filter-append}
use Rattle.std.proofs.lemmas.List.Folds.{find-append}
use Rattle.std.proofs.lemmas.List.FromFn.{length-range_with_len, get_or-range_with_len}
use Rattle.std.proofs.lemmas.List.Kept.{AllPairs-from_increasing, IsStrictlyIncreasing-filter}
use Rattle.std.proofs.lemmas.List.Sorted.{sorted_far, ranks_by, Contains-permutation, IsPermutation-filter_both, IsPermutation-sym}
use Rattle.std.proofs.lemmas.Map.Lookups.{exact_bytes}
use Rattle.gitbase_core.specs.Index.{compare_path_bytes, IsSortedByPathKey}
use Rattle.gitbase_core.proofs.FoldedOrder.{one_number_more}
use Rattle.gitbase_core.proofs.PrefixOrder.{rises_to}
use Rattle.glob_rules.specs.declared.Case.TheVariants.{Sensitive}
use Rattle.glob_rules.specs.declared.ignore.line.Entry.{Entry}
use Rattle.glob_rules.specs.Ignore.{last_matching_entry}
use Rattle.glob_rules.specs.Rule.{rule_matches_name_or_relative_path}
use Rattle.glob_rules.specs.Tables.{core_of_optional_rule, core_of_numbered_rule, is_optional_rule_found_by_core, is_numbered_rule_found_by_core, optional_rule_matches_path, numbered_rule_matches_path, compare_rule_numbers_by_core, IsTableOfRules, AreRulesFoundByCore, LastCountedPasses, AllMatchesWithCoreAreBelow, AllMatchesWithDottedEndingAreBelow, AllPassingNumbersAreBelow}
use Rattle.glob_rules.proofs.Cores.{TellsCore, tells_core}

-- ---- the order of the numbers

pub number_cmp_total : (rules : List Entry) → IsTotalOrder (compare_rule_numbers_by_core rules)
number_cmp_total rules = then_total (on_total (core_of_numbered_rule rules) nat_list_cmp_total) nat_cmp_total

-- an order by two parts in which a later element is not below an earlier one
not_below-first : (o p : Ordering) → is_lt (ordering_then o p) ≡ false → is_le (ordering_reverse o) ≡ true
not_below-first Less p h = absurd (cc)
not_below-first Equal p h = refl
not_below-first Greater p h = refl

not_below-second : (o p : Ordering) → o ≡ Equal → is_lt (ordering_then o p) ≡ false → is_lt p ≡ false
not_below-second Less p e h = absurd (cc)
not_below-second Equal p e h = h
not_below-second Greater p e h = absurd (cc)

not_lt : (a b : ℕ) → is_lt (nat_cmp a b) ≡ false → b ≤ a
not_lt a b h = by_order (nat_cmp a b) (ranked a b (nat_cmp a b) refl) h
  where
    by_order : (o : Ordering) → MatchOrdering o (a < b) (a ≡ b) (b < a) → is_lt o ≡ false → b ≤ a
    by_order Less m h = absurd (cc)
    by_order Equal m h = omega arith
    by_order Greater m h = omega arith

le_cases : (a b : List ℕ) (o : Ordering) → compare_path_bytes a b ≡ o → is_le o ≡ true → (compare_path_bytes a b ≡ Less) ⊎ (a ≡ b)
le_cases a b Less e h = inl e
le_cases a b Equal e h = inr (exact_bytes a b e)
le_cases a b Greater e h = absurd (cc)

less_other : (a : List ℕ) → compare_path_bytes a a ≡ Less → ⊥
less_other a h = clash (tied_itself nat_list_cmp_total a)
  where
    clash : compare_path_bytes a a ≡ Equal → ⊥
    clash e = cc

module _ (rules : List Entry) (sorted : List ℕ) (up : IsSorted (compare_rule_numbers_by_core rules) sorted) where
  pair : (i j : ℕ) (d : ℕ) → i ≤ j → j < length sorted → is_lt (compare_rule_numbers_by_core rules (get_or sorted j d) (get_or sorted i d)) ≡ false
  pair i j d low high = sorted_far (λ a b. is_lt (compare_rule_numbers_by_core rules a b)) (ranks_by (number_cmp_total rules) (λ (n : ℕ). n)) sorted up i j d low high

  cores-rise : IsSortedByPathKey (core_of_numbered_rule rules) sorted
  cores-rise = record {
    at = λ i j d low high.
        ap is_le (nat_list_cmp_total.antisymm (core_of_numbered_rule rules (get_or sorted i d)) (core_of_numbered_rule rules (get_or sorted j d)))
        ∙ not_below-first _ (nat_cmp (get_or sorted j d) (get_or sorted i d)) (pair i j d low high);
  }

  -- of one core, the numbers do not fall
  numbers-rise : (i j : ℕ) → i ≤ j → j < length sorted → core_of_numbered_rule rules (get_or sorted i 0) ≡ core_of_numbered_rule rules (get_or sorted j 0) → get_or sorted i 0 ≤ get_or sorted j 0
  numbers-rise i j low high same =
      let tied : compare_path_bytes (core_of_numbered_rule rules (get_or sorted j 0)) (core_of_numbered_rule rules (get_or sorted i 0)) ≡ Equal =
      ap (λ (t : List ℕ). compare_path_bytes t (core_of_numbered_rule rules (get_or sorted i 0))) (sym same) ∙ tied_itself nat_list_cmp_total (core_of_numbered_rule rules (get_or sorted i 0)) in
      not_lt (get_or sorted j 0) (get_or sorted i 0) (not_below-second _ (nat_cmp (get_or sorted j 0) (get_or sorted i 0)) tied (pair i j 0 low high))

  module _ (text : List ℕ) where
    abbrev pub is_up_to : ℕ → Bool
    is_up_to n = is_le (compare_path_bytes (core_of_numbered_rule rules n) text)

    pub parted : IsPartitionedBy is_up_to sorted
    parted i j d low high h =
        elim (rises_to (core_of_numbered_rule rules) sorted cores-rise i j d low high) [
          | inl less ↦
              elim (le_cases (core_of_numbered_rule rules (get_or sorted j d)) text _ refl h) [
                | inl on ↦ ap is_le (nat_list_cmp_total.trans _ _ text less on)
                | inr is ↦ ap is_le (ap (compare_path_bytes (core_of_numbered_rule rules (get_or sorted i d))) (sym is) ∙ less)
              ]
          | inr same ↦ ap (λ (t : List ℕ). is_le (compare_path_bytes t text)) same ∙ h
        ]

    module _ (test : ℕ → Bool) where
      -- from a place on none of the core passes
      abbrev pub NoneFrom : ℕ → Type 0
      NoneFrom at = (j : ℕ) → at ≤ j → j < length sorted → core_of_numbered_rule rules (get_or sorted j 0) ≡ text → test (get_or sorted j 0) ≡ true → ⊥

      -- up to a place all cores stand up to the text
      abbrev pub UpTo : ℕ → Type 0
      UpTo at = (j : ℕ) → j < at → is_le (compare_path_bytes (core_of_numbered_rule rules (get_or sorted j 0)) text) ≡ true

      pub none_from_point : (at : ℕ) → IsPartitionPoint (λ x. is_up_to x ≡ true) (λ x. is_up_to x ≡ false) sorted at → NoneFrom at
      none_from_point at point j from below is pass =
          let tied : compare_path_bytes (core_of_numbered_rule rules (get_or sorted j 0)) text ≡ Equal = ap (λ (t : List ℕ). compare_path_bytes t text) is ∙ tied_itself nat_list_cmp_total text in
          false≢true (sym (point.1 j 0 from below) ∙ ap is_le tied)

      pub up_to_point : (at : ℕ) → at ≤ length sorted → IsPartitionPoint (λ x. is_up_to x ≡ true) (λ x. is_up_to x ≡ false) sorted at → UpTo at
      up_to_point at fits point j below = point.0 j 0 (omega arith) below

      -- a number of the table by its place
      by_place : (found : ℕ) → ((j : ℕ) → j < length sorted → core_of_numbered_rule rules (get_or sorted j 0) ≡ text → test (get_or sorted j 0) ≡ true → get_or sorted j 0 < found) → AllMatchesWithCoreAreBelow test (core_of_numbered_rule rules) sorted text found
      by_place found h k (j, below, is) same pass =
          let here : get_or sorted j 0 ≡ k = get_or_default sorted j 0 k below ∙ is in
          subst (λ (n : ℕ). n < found) here (h j below (ap (core_of_numbered_rule rules) here ∙ same) (ap test here ∙ pass))

      pub at_none : (found : ℕ) → NoneFrom 0 → AllMatchesWithCoreAreBelow test (core_of_numbered_rule rules) sorted text found
      at_none found none = by_place found (λ j below same pass. absurd (none j (omega arith) below same pass))

      module _ (at : ℕ) (low : at < length sorted) where
        pub at_other : (found : ℕ) → NoneFrom (at + 1) → UpTo (at + 1) → (core_of_numbered_rule rules (get_or sorted at 0) ≡ text → ⊥) → AllMatchesWithCoreAreBelow test (core_of_numbered_rule rules) sorted text found
        at_other found none upto other = by_place found (λ j below same pass.
            elim (cases_lt at j) [
              | inl after ↦ absurd (none j (omega arith) below same pass)
              | inr before ↦
                  elim (le_cases (core_of_numbered_rule rules (get_or sorted at 0)) text _ refl (upto at (omega arith))) [
                    | inl less ↦
                        elim (rises_to (core_of_numbered_rule rules) sorted cores-rise j at 0 (omega arith) low) [
                          | inl first ↦ absurd (less_other text (ap (λ (t : List ℕ). compare_path_bytes t text) (sym same) ∙ nat_list_cmp_total.trans _ _ text first less))
                          | inr tied ↦ absurd (other (sym tied ∙ same))
                        ]
                    | inr is ↦ absurd (other is)
                  ]
            ])

        -- those of one core before it have no greater numbers
        pub at_core : (found : ℕ) → NoneFrom (at + 1) → core_of_numbered_rule rules (get_or sorted at 0) ≡ text → get_or sorted at 0 < found → AllMatchesWithCoreAreBelow test (core_of_numbered_rule rules) sorted text found
        at_core found none is less = by_place found (λ j below same pass.
            elim (cases_lt at j) [
              | inl after ↦ absurd (none j (omega arith) below same pass)
              | inr before ↦ let le = numbers-rise j at (omega arith) low (same ∙ sym is) in omega arith
            ])

-- ---- the numbers that ascend

module _ (rest : List ℕ) (rises : IsStrictlyIncreasing rest) (test : ℕ → Bool) where
  abbrev pub NonePast : ℕ → Type 0
  NonePast at = (j : ℕ) → at ≤ j → j < length rest → test (get_or rest j 0) ≡ true → ⊥

  place_of : (found : ℕ) → ((j : ℕ) → j < length rest → test (get_or rest j 0) ≡ true → get_or rest j 0 < found) → AllPassingNumbersAreBelow test rest found
  place_of found h k (j, below, is) pass =
      let here : get_or rest j 0 ≡ k = get_or_default rest j 0 k below ∙ is in
      subst (λ (n : ℕ). n < found) here (h j below (ap test here ∙ pass))

  pub past_none : (found : ℕ) → NonePast 0 → AllPassingNumbersAreBelow test rest found
  past_none found none = place_of found (λ j below pass. absurd (none j (omega arith) below pass))

  pub past_below : (found at : ℕ) → at < length rest → NonePast (at + 1) → get_or rest at 0 < found → AllPassingNumbersAreBelow test rest found
  past_below found at low none less = place_of found (λ j below pass.
      elim (cases_lt at j) [
        | inl after ↦ absurd (none j (omega arith) below pass)
        | inr before ↦
            elim (cases_lt j at) [
              | inl first ↦ let lt = AllPairs-from_increasing rest rises j at 0 first low in omega arith
              | inr same ↦ let here : at ≡ j = omega arith in subst (λ (n : ℕ). get_or rest n 0 < found) here less
            ]
      ])

-- ---- the last of all

-- no number from `found` on passes the test
abbrev pub IsLast : (ℕ → Bool) → ℕ → Type 0
IsLast test found = (k : ℕ) → test k ≡ true → k < found

module _ (name : List ℕ) (relative : Option (List ℕ)) (is_dir : Option Bool) where
  abbrev test_of : List Entry → ℕ → Bool
  test_of rules number = numbered_rule_matches_path rules name relative is_dir number

  abbrev passes : Entry → Bool
  passes e = rule_matches_name_or_relative_path e.pattern name relative is_dir Sensitive

  last_none : (rules : List Entry) → IsLast (test_of rules) 0 → find passes (reverse rules) ≡ None
  last_none [] none = refl
  last_none (x ∷ xs) none =
      ap (find passes) (reverse-cons x xs)
      ∙ find-append passes (reverse xs) (x ∷ [])
      ∙ ap (λ (o : Option Entry). option_or o (find passes (x ∷ []))) (last_none xs (λ k h. absurd (let low = none (suc k) h in omega arith)))
      ∙ one (passes x) refl
    where
      one : (t : Bool) → passes x ≡ t → find passes (x ∷ []) ≡ None
      one true e = absurd (let low = none 0 e in omega arith)
      one false e = ap (λ (b : Bool). cond {A = Option Entry} b (Some x) None) e

  kept : (o other : Option Entry) → optional_rule_matches_path o name relative is_dir ≡ true → option_or o other ≡ o
  kept None other h = absurd (cc)
  kept (Some e) other h = refl

  last_some : (rules : List Entry) (n : ℕ) → IsLast (test_of rules) (suc n) → test_of rules n ≡ true → find passes (reverse rules) ≡ slice_get rules n
  last_some [] n last here = absurd (cc)
  last_some (x ∷ xs) zero last here =
      ap (find passes) (reverse-cons x xs)
      ∙ find-append passes (reverse xs) (x ∷ [])
      ∙ ap (λ (o : Option Entry). option_or o (find passes (x ∷ []))) (last_none xs (λ k h. absurd (let low = last (suc k) h in omega arith)))
      ∙ one
    where
      one : find passes (x ∷ []) ≡ Some x
      one = ap (λ (b : Bool). cond {A = Option Entry} b (Some x) None) here
  last_some (x ∷ xs) (suc n) last here =
      ap (find passes) (reverse-cons x xs)
      ∙ find-append passes (reverse xs) (x ∷ [])
      ∙ ap (λ (o : Option Entry). option_or o (find passes (x ∷ []))) (last_some xs n (λ k h. let low = last (suc k) h in omega arith) here)
      ∙ kept (slice_get xs n) (find passes (x ∷ [])) here

  pub last_is_none : (rules : List Entry) (found : ℕ) → IsLast (test_of rules) found → found ≡ 0 → None ≡ last_matching_entry rules name relative is_dir Sensitive
  last_is_none rules found last is = sym (last_none rules (subst (λ (n : ℕ). IsLast (test_of rules) n) is last))

  pub last_is : (rules : List Entry) (found : ℕ) → IsLast (test_of rules) found → LastCountedPasses (test_of rules) found → (found ≡ 0 → ⊥) → slice_get rules (found - 1) ≡ last_matching_entry rules name relative is_dir Sensitive
  last_is rules zero last ends some = absurd (some refl)
  last_is rules (suc n) last ends some =
      let one : suc n - 1 ≡ n = omega arith in
      ap (slice_get rules) one ∙ sym (last_some rules n last (ap (test_of rules) (sym one) ∙ ends (omega arith)))

  -- ---- what the look-ups of the table find together

  pub all_found : (rules : List Entry) (sorted : List ℕ) (found : ℕ) → AreRulesFoundByCore rules sorted → AllMatchesWithCoreAreBelow (test_of rules) (core_of_numbered_rule rules) sorted name found
      → AllMatchesWithDottedEndingAreBelow (test_of rules) (core_of_numbered_rule rules) sorted name (length name) found
      → ((path : List ℕ) → relative ≡ Some path → AllMatchesWithCoreAreBelow (test_of rules) (core_of_numbered_rule rules) sorted path found) → AllPassingNumbersAreBelow (test_of rules) sorted found
  all_found rules sorted found are by_name by_ending by_path k there pass = by_rule (slice_get rules k) refl
    where
      by_core : TellsCore (core_of_numbered_rule rules k) name relative → k < found
      by_core (inl same) = by_name k there same pass
      by_core (inr (inl (i, low, dot, same))) = by_ending k i there low low dot same pass
      by_core (inr (inr same)) = by_path (core_of_numbered_rule rules k) same k there refl pass

      by_rule : (o : Option Entry) → slice_get rules k ≡ o → k < found
      by_rule None e = absurd (clash (ap (λ (o : Option Entry). optional_rule_matches_path o name relative is_dir) e))
        where
          clash : test_of rules k ≡ false → ⊥
          clash no_rule = false≢true (sym no_rule ∙ pass)
      by_rule (Some rule) e =
          by_core (subst (λ (o : Option Entry). TellsCore (core_of_optional_rule o) name relative) (sym e)
          (tells_core rule.pattern name relative is_dir (ap is_optional_rule_found_by_core (sym e) ∙ are k there) (ap (λ (o : Option Entry). optional_rule_matches_path o name relative is_dir) (sym e) ∙ pass)))

  -- a rule that matches is one of the list
  pub within : (xs : List Entry) (n : ℕ) → test_of xs n ≡ true → n < length xs
  within [] n h = absurd (cc)
  within (x ∷ xs) zero h = omega arith
  within (x ∷ xs) (suc n) h = let low = within xs n h in omega (arith, low)

  -- ---- the tables together

  pub last_of_both : (rules : List Entry) (sorted rest : List ℕ) (found : ℕ) → IsTableOfRules rules sorted rest → AllPassingNumbersAreBelow (test_of rules) sorted found → AllPassingNumbersAreBelow (test_of rules) rest found → IsLast (test_of rules) found
  last_of_both rules sorted rest found is in_sorted in_rest k pass =
      elim (Contains-append_cases (filter (is_numbered_rule_found_by_core rules) all) (filter (λ n. not (is_numbered_rule_found_by_core rules n)) all) k
      (Contains-permutation _ _ k (IsPermutation-filter_both (is_numbered_rule_found_by_core rules) (λ n. not (is_numbered_rule_found_by_core rules n)) (λ n. refl) all) among)) [
        | inl first ↦ in_sorted k (Contains-permutation _ _ k is.all first) pass
        | inr second ↦ in_rest k (subst (λ (l : List ℕ). Contains l k) (sym is.others) second) pass
      ]
    where
      all : List ℕ
      all = range_with_len 0 (length rules)

      among : Contains all k
      among =
          let low = within rules k pass in
          let long = length-range_with_len 0 (length rules) in
          let plus : 0 + k ≡ k = omega arith in
          (k, omega (arith, low, long), get_or-range_with_len 0 (length rules) k k low ∙ plus)

-- ---- what is a table

pub are_found : (rules : List Entry) (sorted rest : List ℕ) → IsTableOfRules rules sorted rest → AreRulesFoundByCore rules sorted
are_found rules sorted rest is k there =
    All-contains (λ (n : ℕ). is_numbered_rule_found_by_core rules n ≡ true) (filter (is_numbered_rule_found_by_core rules) (range_with_len 0 (length rules))) k
    (filter_passes (is_numbered_rule_found_by_core rules) (range_with_len 0 (length rules))) (Contains-permutation _ _ k (IsPermutation-sym _ _ is.all) there)

pub others-rise : (rules : List Entry) (sorted rest : List ℕ) → IsTableOfRules rules sorted rest → IsStrictlyIncreasing rest
others-rise rules sorted rest is =
    subst (λ (l : List ℕ). IsStrictlyIncreasing l) (sym is.others) (IsStrictlyIncreasing-filter (λ n. not (is_numbered_rule_found_by_core rules n)) (range_with_len 0 (length rules)) (numbers (length rules)))
  where
    numbers : (n : ℕ) → IsStrictlyIncreasing (range_with_len 0 n)
    numbers n k below =
        let long = length-range_with_len 0 n in
        let low = get_or-range_with_len 0 n k 0 (omega arith) in
        let high = get_or-range_with_len 0 n (k + 1) 0 (omega arith) in
        omega arith

-- one number more
pub kept_more : (p : ℕ → Bool) (n : ℕ) (numbers more : List ℕ) (b : Bool) → numbers ≡ filter p (range_with_len 0 n) → b ≡ p n
    → more ≡ numbers ++ cond b (n ∷ []) [] → more ≡ filter p (range_with_len 0 (n + 1))
kept_more p n numbers more b is same e =
    e
    ∙ ap (λ (l : List ℕ). l ++ cond b (n ∷ []) []) is
    ∙ ap (λ (t : Bool). filter p (range_with_len 0 n) ++ cond t (n ∷ []) []) same
    ∙ sym (filter-append p (range_with_len 0 n) (n ∷ []))
    ∙ ap (filter p) (sym (one_number_more n))

pub other_path : (o : Option (List ℕ)) (path : List ℕ) → o ≡ None → o ≡ Some path → ⊥
other_path o path none some = cc

pub same_path : (a b : List ℕ) → ◌≡◌ {A = Option (List ℕ)} (Some a) (Some b) → a ≡ b
same_path a b e = cc
