-- Where a path stands beside those that begin with a prefix, and the keys of a list that do not fall.
use Rattle.std.proofs.Common.{◌≡◌, ℕ, true, ◌⊎◌, ◌<◌, ◌≤◌, List, [], ◌∷◌, ◌++◌, length, take, drop, min, get_or, refl, sym, ap, ◌∙◌, arith, inl, inr}
use Rattle.std.specs.Cmp.Lexicographic.{slice_cmp, nat_list_eq_equiv}
use Rattle.std.specs.List.{starts_with}
use Rattle.std.specs.Prelude.{nat_eq}
use Rattle.std.specs.Ordering.{MatchOrdering, nat_cmp, is_eq, is_le, ordering_index, ordering_then}
use Rattle.std.specs.declared.cmp.Ordering.{Ordering}
use Rattle.std.specs.declared.cmp.Ordering.TheVariants.{Less, Equal, Greater}
use Rattle.std.proofs.lemmas.Bool.{cases_lt}
use Rattle.std.proofs.lemmas.Cmp.{ranked}
use Rattle.std.proofs.lemmas.List.{take_all, drop_all}
use Rattle.std.proofs.lemmas.Map.Lookups.{exact_bytes}
use Rattle.std.proofs.lemmas.Map.Text.{is_eq-slice_cmp}
use Rattle.gitbase_core.specs.Index.{compare_path_bytes, compare_path_start_with_prefix, IsSortedByPathKey}

abbrev pub rank : List ℕ → List ℕ → ℕ
rank prefix path = ordering_index (compare_path_start_with_prefix prefix path)

most : (o : Ordering) → ordering_index o ≤ 2
most Less = omega arith
most Equal = omega arith
most Greater = omega arith

-- a smaller path does not stand behind a greater one
pub rank-rises : (prefix a b : List ℕ) → compare_path_bytes a b ≡ Less → rank prefix a ≤ rank prefix b
rank-rises [] a b less = omega arith
rank-rises (p ∷ prefix) [] b less = omega arith
rank-rises (p ∷ prefix) (x ∷ a) [] less = absurd (cc)
rank-rises (p ∷ prefix) (x ∷ a) (y ∷ b) less =
    by_first (nat_cmp x y) (nat_cmp x p) (nat_cmp y p) (ranked x y (nat_cmp x y) refl) (ranked x p (nat_cmp x p) refl) (ranked y p (nat_cmp y p) refl) less
    (rank-rises prefix a b)
  where
    by_first : (xy xp yp : Ordering) → MatchOrdering xy (x < y) (x ≡ y) (y < x) → MatchOrdering xp (x < p) (x ≡ p) (p < x)
        → MatchOrdering yp (y < p) (y ≡ p) (p < y) → ordering_then xy (compare_path_bytes a b) ≡ Less
        → (compare_path_bytes a b ≡ Less → rank prefix a ≤ rank prefix b)
        → ordering_index (ordering_then xp (compare_path_start_with_prefix prefix a)) ≤ ordering_index (ordering_then yp (compare_path_start_with_prefix prefix b))
    by_first Less Less yp hxy hxp hyp less more = omega arith
    by_first Less Equal Less hxy hxp hyp less more = absurd (omega arith)
    by_first Less Equal Equal hxy hxp hyp less more = absurd (omega arith)
    by_first Less Equal Greater hxy hxp hyp less more = most (compare_path_start_with_prefix prefix a)
    by_first Less Greater Less hxy hxp hyp less more = absurd (omega arith)
    by_first Less Greater Equal hxy hxp hyp less more = absurd (omega arith)
    by_first Less Greater Greater hxy hxp hyp less more = omega arith
    by_first Equal Less yp hxy hxp hyp less more = omega arith
    by_first Equal Equal Less hxy hxp hyp less more = absurd (omega arith)
    by_first Equal Equal Equal hxy hxp hyp less more = more less
    by_first Equal Equal Greater hxy hxp hyp less more = most (compare_path_start_with_prefix prefix a)
    by_first Equal Greater Less hxy hxp hyp less more = absurd (omega arith)
    by_first Equal Greater Equal hxy hxp hyp less more = absurd (omega arith)
    by_first Equal Greater Greater hxy hxp hyp less more = omega arith
    by_first Greater xp yp hxy hxp hyp less more = absurd (cc less)

-- along a list whose keys do not fall a key is below a later one, or is the same
pub rises_to : {X : Type 0} (key : X → List ℕ) (xs : List X) → IsSortedByPathKey key xs → (i j : ℕ) (d : X) → i ≤ j → j < length xs
    → (compare_path_bytes (key (get_or xs i d)) (key (get_or xs j d)) ≡ Less) ⊎ (key (get_or xs i d) ≡ key (get_or xs j d))
rises_to key xs never i j d low high =
    by_order (key (get_or xs i d)) (key (get_or xs j d)) (compare_path_bytes (key (get_or xs i d)) (key (get_or xs j d))) refl (never.at i j d low high)
  where
    by_order : (a b : List ℕ) (o : Ordering) → compare_path_bytes a b ≡ o → is_le o ≡ true → (compare_path_bytes a b ≡ Less) ⊎ (a ≡ b)
    by_order a b Less e h = inl e
    by_order a b Equal e h = inr (exact_bytes a b e)
    by_order a b Greater e h = absurd (cc)

-- and does not stand behind it
pub ranks-rise : {X : Type 0} (key : X → List ℕ) (prefix : List ℕ) (xs : List X) (i j : ℕ) (d : X) → IsSortedByPathKey key xs → i ≤ j
    → j < length xs → rank prefix (key (get_or xs i d)) ≤ rank prefix (key (get_or xs j d))
ranks-rise key prefix xs i j d never low high =
    elim (rises_to key xs never i j d low high) [
      | inl less ↦ rank-rises prefix (key (get_or xs i d)) (key (get_or xs j d)) less
      | inr same ↦ omega (arith, ap (rank prefix) same)
    ]

-- a path begins with a prefix where it stands among such paths
pub starts_with-prefix_cmp : (prefix path : List ℕ) → is_eq (compare_path_start_with_prefix prefix path) ≡ starts_with nat_eq path prefix
starts_with-prefix_cmp prefix path =
    is_eq-slice_cmp (take (length prefix) path) prefix ∙ nat_list_eq_equiv.symm (take (length prefix) path) prefix

-- ---- a prefix in two parts

then_assoc : (a b c : Ordering) → ordering_then a (ordering_then b c) ≡ ordering_then (ordering_then a b) c
then_assoc Less b c = refl
then_assoc Equal b c = refl
then_assoc Greater b c = refl

pub prefix_cmp-append : (front back path : List ℕ) → ordering_then (compare_path_start_with_prefix front path) (compare_path_start_with_prefix back (drop (length front) path)) ≡ compare_path_start_with_prefix (front ++ back) path
prefix_cmp-append [] back path = refl
prefix_cmp-append (f ∷ front) back [] = refl
prefix_cmp-append (f ∷ front) back (x ∷ path) =
    sym (then_assoc (nat_cmp x f) (compare_path_start_with_prefix front path) (compare_path_start_with_prefix back (drop (length front) path)))
    ∙ ap (ordering_then (nat_cmp x f)) (prefix_cmp-append front back path)

-- a cut at a place is the same as one at the end where the list is too short
pub take-min : (n : ℕ) (path : List ℕ) → take (min (length path) n) path ≡ take n path
take-min n path =
    elim (cases_lt n (length path)) [
      | inl low ↦ let e : min (length path) n ≡ n = omega arith in rw e refl
      | inr high ↦
          let e : min (length path) n ≡ length path = omega arith in
          let short : length path ≤ n = omega arith in
          rw (e, take_all (length path) path (omega arith), take_all n path short) refl
    ]

pub drop-min : (n : ℕ) (path : List ℕ) → drop (min (length path) n) path ≡ drop n path
drop-min n path =
    elim (cases_lt n (length path)) [
      | inl low ↦ let e : min (length path) n ≡ n = omega arith in rw e refl
      | inr high ↦
          let e : min (length path) n ≡ length path = omega arith in
          let short : length path ≤ n = omega arith in
          rw (e, drop_all (length path) path (omega arith), drop_all n path short) refl
    ]

pub prefix_cmp-parts : (front back path : List ℕ) → ordering_then (slice_cmp nat_cmp (take (min (length path) (length front)) path) front)
    (slice_cmp nat_cmp (take (min (length (drop (min (length path) (length front)) path)) (length back)) (drop (min (length path) (length front)) path)) back)
    ≡ compare_path_start_with_prefix (front ++ back) path
prefix_cmp-parts front back path =
    rw (take-min (length front) path, drop-min (length front) path, take-min (length back) (drop (length front) path))
    (prefix_cmp-append front back path)
