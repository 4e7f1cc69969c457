-- What a search among mappings finds.
use Rattle.std.proofs.Common.{◌≡◌, ℕ, zero, suc, ◌<◌, ◌≤◌, List, [], ◌∷◌, length, get_or, Some, None, Ok, Err, Bool, true, false, ◌&&◌, refl, sym, ap, subst, ◌∙◌, inl, inr, arith}
use Rattle.std.specs.List.{list_all}
use Rattle.std.proofs.lemmas.List.Sums.{AllPass-from_list_all}
use Rattle.gitbase_core.proofs.IndexRules.{less_is}
use Rattle.std.specs.List.Sorted.{IsSearchInRange, IsBinarySearchResult, IsNonDecreasingBy}
use Rattle.std.specs.Ordering.{ordering_index, is_eq}
use Rattle.std.specs.Str.{bytes_eq}
use Rattle.std.specs.declared.cmp.Ordering.{Ordering}
use Rattle.std.specs.declared.cmp.Ordering.TheVariants.{Less, Equal, Greater}
use Rattle.std.proofs.lemmas.Cmp.{nat_list_cmp_total, nat_list_eq_equiv}
use Rattle.std.proofs.lemmas.Map.Lookups.{exact_bytes}
use Rattle.std.proofs.lemmas.Map.Text.{is_eq-slice_cmp}
use Rattle.std.proofs.lemmas.List.Sorted.{IsNonDecreasingBy-from_default}
use Rattle.std.proofs.lemmas.Bool.{cases_lt}
use Rattle.gitbase_core.specs.Index.{compare_path_bytes}
use Rattle.worktree_stack.specs.Setup.{RulesFileMapping, blob_id_mapped_to_path}
use Rattle.worktree_stack.specs.Mappings.{is_mapping_path_less, are_mapping_paths_ascending}

-- no path, where there is no mapping
abbrev unmapped : RulesFileMapping
unmapped = ([], [])

abbrev mapped_path : List RulesFileMapping → ℕ → List ℕ
mapped_path ms i = (get_or ms i unmapped).0

and-both : (a b : Bool) → (a && b) ≡ true → (a ≡ true) × (b ≡ true)
and-both true b h = (refl, h)
and-both false b h = absurd (cc)

-- each path stands before each behind it
ascends : (ms : List RulesFileMapping) → are_mapping_paths_ascending ms ≡ true → (i j : ℕ) → i < j → j < length ms → compare_path_bytes (mapped_path ms i) (mapped_path ms j) ≡ Less
ascends [] up i j low high = absurd (omega arith)
ascends (m ∷ ms) up zero zero low high = absurd (omega arith)
ascends (m ∷ ms) up zero (suc j) low high = less_is _ (AllPass-from_list_all (is_mapping_path_less m) ms (and-both (list_all (is_mapping_path_less m) ms) (are_mapping_paths_ascending ms) up).0 j unmapped (omega arith))
ascends (m ∷ ms) up (suc i) zero low high = absurd (omega arith)
ascends (m ∷ ms) up (suc i) (suc j) low high = ascends ms (and-both (list_all (is_mapping_path_less m) ms) (are_mapping_paths_ascending ms) up).1 i j (omega arith) (omega arith)

differs : (a path : List ℕ) (o : Ordering) → compare_path_bytes a path ≡ o → is_eq o ≡ false → bytes_eq a path ≡ false
differs a path o e unequal = sym (is_eq-slice_cmp a path) ∙ ap is_eq e ∙ unequal

mapped-at : (ms : List RulesFileMapping) (path : List ℕ) (i : ℕ) (d : RulesFileMapping) → i < length ms → (get_or ms i d).0 ≡ path → ((j : ℕ) → j < i → compare_path_bytes (mapped_path ms j) path ≡ Less) → blob_id_mapped_to_path ms path ≡ Some (get_or ms i d).1
mapped-at [] path i d low is below = absurd (omega arith)
mapped-at (m ∷ ms) path zero d low is below = let same : bytes_eq m.0 path ≡ true = subst (λ (p : List ℕ). bytes_eq m.0 p ≡ true) is (nat_list_eq_equiv.refl m.0) in rw same refl
mapped-at (m ∷ ms) path (suc i) d low is below =
    let other : bytes_eq m.0 path ≡ false = differs m.0 path Less (below zero (omega arith)) refl in
    rw other (mapped-at ms path i d (omega arith) is (λ j l. below (suc j) (omega arith)))

mapped-none : (ms : List RulesFileMapping) (path : List ℕ) → ((j : ℕ) → j < length ms → bytes_eq (mapped_path ms j) path ≡ false) → blob_id_mapped_to_path ms path ≡ None
mapped-none [] path others = refl
mapped-none (m ∷ ms) path others =
    let other : bytes_eq m.0 path ≡ false = others zero (omega arith) in
    rw other (mapped-none ms path (λ j l. others (suc j) (omega arith)))

below_equal : (o : Ordering) (a b x : List ℕ) → compare_path_bytes b x ≡ o → compare_path_bytes a b ≡ Less → ordering_index (compare_path_bytes a x) ≤ ordering_index o
below_equal Less a b x e lt = omega (arith, ap ordering_index (nat_list_cmp_total.trans a b x lt e))
below_equal Equal a b x e lt =
    let is : b ≡ x = exact_bytes b x e in
    omega (arith, ap ordering_index (subst (λ (y : List ℕ). compare_path_bytes a y ≡ Less) is lt))
below_equal Greater a b x e lt = most (compare_path_bytes a x)
  where
    most : (o : Ordering) → ordering_index o ≤ ordering_index Greater
    most Less = omega arith
    most Equal = omega arith
    most Greater = omega arith

module _ (ms : List RulesFileMapping) (up : are_mapping_paths_ascending ms ≡ true) (path : List ℕ) where
  rise : IsNonDecreasingBy (λ (m : RulesFileMapping). ordering_index (compare_path_bytes m.0 path)) ms
  rise = IsNonDecreasingBy-from_default (λ (m : RulesFileMapping). ordering_index (compare_path_bytes m.0 path)) ms unmapped (λ i j le lt.
      elim (cases_lt i j) [
        | inl before ↦ below_equal (compare_path_bytes (get_or ms j unmapped).0 path) (get_or ms i unmapped).0 (get_or ms j unmapped).0 path refl (ascends ms up i j before lt)
        | inr not ↦
            let same : i ≡ j = omega arith in
            omega (arith, ap (λ k. ordering_index (compare_path_bytes (get_or ms k unmapped).0 path)) same)
      ])

  pub id-found : (i : ℕ) (d : RulesFileMapping) → IsSearchInRange (Ok i) (length ms) → IsBinarySearchResult (λ (m : RulesFileMapping). compare_path_bytes m.0 path) ms (Ok i) → blob_id_mapped_to_path ms path ≡ Some (get_or ms i d).1
  id-found i d in_range equal =
      let is : (get_or ms i d).0 ≡ path = exact_bytes (get_or ms i d).0 path (equal d) in
      let there : (get_or ms i unmapped).0 ≡ path = exact_bytes (get_or ms i unmapped).0 path (equal unmapped) in
      mapped-at ms path i d in_range is (λ j l. subst (λ (p : List ℕ). compare_path_bytes (mapped_path ms j) p ≡ Less) there (ascends ms up j i l in_range))

  pub id-none : (i : ℕ) → IsSearchInRange (Err i) (length ms) → IsBinarySearchResult (λ (m : RulesFileMapping). compare_path_bytes m.0 path) ms (Err i) → blob_id_mapped_to_path ms path ≡ None
  id-none i in_range parted = mapped-none ms path (λ j l. elim (cases_lt j i) [
    | inl below ↦ differs (mapped_path ms j) path Less ((parted rise).0 j unmapped (omega arith) (omega arith)) refl
    | inr above ↦ differs (mapped_path ms j) path Greater ((parted rise).1 j unmapped (omega arith) (omega arith)) refl
  ])
