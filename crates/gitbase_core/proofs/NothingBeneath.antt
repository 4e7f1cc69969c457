-- Where a search for a path says that nothing is beneath it.
use Rattle.std.proofs.Common.{◌≡◌, ℕ, ◌<◌, ◌≤◌, Bool, true, false, List, [], ◌∷◌, ◌++◌, length, drop, get_or, Option, Some, None, refl, sym, ap, ◌∙◌, arith, inl, inr}
use Rattle.std.specs.Ordering.{is_lt, is_eq, ordering_index, ordering_then, ordering_reverse}
use Rattle.std.specs.Prelude.{IfSome, slice_get, filter}
use Rattle.std.specs.declared.cmp.Ordering.{Ordering}
use Rattle.std.specs.declared.cmp.Ordering.TheVariants.{Less, Equal, Greater}
use Rattle.std.proofs.lemmas.Bool.{cases_lt}
use Rattle.std.proofs.lemmas.Cmp.{nat_cmp_total, nat_list_cmp_total, tied_itself}
use Rattle.std.proofs.lemmas.List.{take_all}
use Rattle.std.proofs.lemmas.Map.Lookups.{exact_bytes}
use Rattle.std.proofs.lemmas.Option.{get_or_from_slice_get, slice_get-get_or}
use Rattle.gitbase_core.specs.Index.{compare_path_bytes, compare_path_start_with_prefix, key_begins_with_prefix, IsSortedByPathKey, IsFirstElementNotBelowPath}
use Rattle.gitbase_core.proofs.PrefixOrder.{rank, rank-rises, ranks-rise, starts_with-prefix_cmp, prefix_cmp-append}
use Rattle.gitbase_core.proofs.RunLists.{filter-none}

-- a path stands before those that go on behind it
rank-longer : (path : List ℕ) (b : ℕ) → rank (path ++ b ∷ []) path ≡ 0
rank-longer [] b = refl
rank-longer (p ∷ path) b = rw (tied_itself nat_cmp_total p) (rank-longer path b)

rank-itself : (path : List ℕ) → rank path path ≡ 1
rank-itself path = rw (take_all (length path) path (omega arith), tied_itself nat_list_cmp_total path) refl

first-tied : (a b : Ordering) → is_eq (ordering_then a b) ≡ true → ordering_index a ≡ 1
first-tied Less b tied = absurd (cc)
first-tied Equal b tied = refl
first-tied Greater b tied = absurd (cc)

index-tied : (o : Ordering) → is_eq o ≡ true → ordering_index o ≡ 1
index-tied Less tied = absurd (cc)
index-tied Equal tied = refl
index-tied Greater tied = absurd (cc)

tied-index : (o : Ordering) → ordering_index o ≡ 1 → is_eq o ≡ true
tied-index Less one = absurd (omega arith)
tied-index Equal one = refl
tied-index Greater one = absurd (omega arith)

module _ {X : Type 0} (key : X → List ℕ) (path : List ℕ) (xs : List X) (never : IsSortedByPathKey key xs) where
  -- a path that is not below stands among those that begin with it, or behind them
  not-before : (a : List ℕ) → is_lt (compare_path_bytes a path) ≡ false → 1 ≤ rank path a
  not-before a above = go (compare_path_bytes a path) refl
    where
      go : (o : Ordering) → compare_path_bytes a path ≡ o → 1 ≤ rank path a
      go Less e = absurd (cc (ap is_lt e, above))
      go Equal e = let same : a ≡ path = exact_bytes a path e in omega (arith, ap (rank path) same, rank-itself path)
      go Greater e = omega (arith, rank-itself path, rank-rises path path a (nat_list_cmp_total.antisymm path a ∙ ap ordering_reverse e))

  -- an element beneath the path
  module _ (e : X) (beneath : key_begins_with_prefix key (path ++ 47 ∷ []) e ≡ true) where
    rank-beneath : rank (path ++ 47 ∷ []) (key e) ≡ 1
    rank-beneath = index-tied (compare_path_start_with_prefix (path ++ 47 ∷ []) (key e)) (starts_with-prefix_cmp (path ++ 47 ∷ []) (key e) ∙ beneath)

    rank-front : rank path (key e) ≡ 1
    rank-front =
        first-tied (compare_path_start_with_prefix path (key e)) (compare_path_start_with_prefix (47 ∷ []) (drop (length path) (key e)))
        (ap is_eq (prefix_cmp-append path (47 ∷ []) (key e)) ∙ starts_with-prefix_cmp (path ++ 47 ∷ []) (key e) ∙ beneath)

    not-below : compare_path_bytes (key e) path ≡ Less → ⊥
    not-below less = omega (arith, rank-beneath, rank-longer path 47, rank-rises (path ++ 47 ∷ []) (key e) path less)

  none : (first : Option X) → IsFirstElementNotBelowPath key path xs first → IfSome first (λ e. key_begins_with_prefix key path e ≡ false)
      → (k : ℕ) (d : X) → k < length xs → key_begins_with_prefix key (path ++ 47 ∷ []) (get_or xs k d) ≡ true → ⊥
  none first found other k d low beneath =
      elim (cases_lt k found.0) [
        | inl below ↦ not-below (get_or xs k d) beneath (found.2 k d below)
        | inr above ↦ behind (omega arith) first found.1 other
      ]
    where
      behind : found.0 ≤ k → (first : Option X) → slice_get xs found.0 ≡ first → IfSome first (λ e. key_begins_with_prefix key path e ≡ false) → ⊥
      behind reached None at other = cc (at, slice_get-get_or xs found.0 d (omega (arith, reached, low)))
      behind reached (Some e) at other =
          let here : get_or xs found.0 d ≡ e = get_or_from_slice_get xs found.0 e d at in
          let low_rank : rank path (key e) ≤ 1 =
          omega (arith, ranks-rise key path xs found.0 k d never reached low, rank-front (get_or xs k d) beneath, ap (λ (x : X). rank path (key x)) here) in
          let high_rank : 1 ≤ rank path (key e) =
          not-before (key e) (ap (λ (x : X). is_lt (compare_path_bytes (key x) path)) (sym here) ∙ found.3 found.0 d (omega arith) (omega (arith, reached, low))) in
          cc (sym (starts_with-prefix_cmp path (key e)) ∙ tied-index (compare_path_start_with_prefix path (key e)) (omega arith), other)

  pub none-begins : (first : Option X) → IsFirstElementNotBelowPath key path xs first → IfSome first (λ e. key_begins_with_prefix key path e ≡ false)
      → (k : ℕ) (d : X) → k < length xs → key_begins_with_prefix key (path ++ 47 ∷ []) (get_or xs k d) ≡ false
  none-begins first found other k d low = go (key_begins_with_prefix key (path ++ 47 ∷ []) (get_or xs k d)) refl
    where
      go : (b : Bool) → key_begins_with_prefix key (path ++ 47 ∷ []) (get_or xs k d) ≡ b → b ≡ false
      go false e = refl
      go true e = absurd (none first found other k d low e)

-- where the first element that is not below a path does not begin with it, none is beneath it
pub none_beneath : {X : Type 0} (key : X → List ℕ) (path : List ℕ) (xs : List X) → IsSortedByPathKey key xs → (first : Option X)
    → IsFirstElementNotBelowPath key path xs first → IfSome first (λ e. key_begins_with_prefix key path e ≡ false) → filter (key_begins_with_prefix key (path ++ 47 ∷ [])) xs ≡ []
none_beneath key path xs never first found other =
    filter-none (key_begins_with_prefix key (path ++ 47 ∷ [])) xs (none-begins key path xs never first found other)
