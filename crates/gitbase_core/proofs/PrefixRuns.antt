-- Where keys do not fall, those that begin with a prefix stand in one run.
use Rattle.std.proofs.Common.{◌≡◌, ℕ, ◌+◌, ◌-◌, ◌≤◌, Bool, true, false, List, length, drop, get_or, refl, sym, ◌∙◌, arith}
use Rattle.std.specs.List.Sorted.{IsPartitionPoint, IsPartitionedBy}
use Rattle.std.specs.Ordering.{is_lt, is_eq, ordering_index}
use Rattle.std.specs.declared.cmp.Ordering.{Ordering}
use Rattle.std.specs.declared.cmp.Ordering.TheVariants.{Less, Equal, Greater}
use Rattle.std.proofs.lemmas.List.{get_or-drop, length-drop}
use Rattle.gitbase_core.specs.Index.{compare_path_start_with_prefix, key_begins_with_prefix, IsSortedByPathKey, IsExactRangeOfMatches}
use Rattle.gitbase_core.proofs.PrefixOrder.{rank, ranks-rise, starts_with-prefix_cmp}

lt-index : (o : Ordering) → ordering_index o ≤ 0 → is_lt o ≡ true
lt-index Less h = refl
lt-index Equal h = absurd (omega arith)
lt-index Greater h = absurd (omega arith)

index-lt : (o : Ordering) → is_lt o ≡ true → ordering_index o ≤ 0
index-lt Less h = omega arith
index-lt Equal h = absurd (cc)
index-lt Greater h = absurd (cc)

index-eq : (o : Ordering) → is_eq o ≡ true → ordering_index o ≡ 1
index-eq Less h = absurd (cc)
index-eq Equal h = refl
index-eq Greater h = absurd (cc)

eq-index : (o : Ordering) → is_lt o ≡ false → ordering_index o ≤ 1 → is_eq o ≡ true
eq-index Less h low = absurd (cc)
eq-index Equal h low = refl
eq-index Greater h low = absurd (omega arith)

lt-not_eq : (o : Ordering) → is_lt o ≡ true → is_eq o ≡ false
lt-not_eq Less h = refl
lt-not_eq Equal h = absurd (cc)
lt-not_eq Greater h = absurd (cc)

module _ {X : Type 0} (key : X → List ℕ) (prefix : List ℕ) (xs : List X) (never : IsSortedByPathKey key xs) where
  abbrev pub stands_before : X → Bool
  stands_before x = is_lt (compare_path_start_with_prefix prefix (key x))

  abbrev pub stands_among : X → Bool
  stands_among x = is_eq (compare_path_start_with_prefix prefix (key x))

  -- what stands before the paths of a prefix comes first
  pub parted-before : IsPartitionedBy stands_before xs
  parted-before i j d low high h =
      let rises = ranks-rise key prefix xs i j d never low high in
      let last = index-lt (compare_path_start_with_prefix prefix (key (get_or xs j d))) h in
      lt-index (compare_path_start_with_prefix prefix (key (get_or xs i d))) (omega arith)

  -- of those behind them, the ones among these paths come first
  pub parted-among : (start : ℕ) → IsPartitionPoint (λ e. stands_before e ≡ true) (λ e. stands_before e ≡ false) xs start
      → IsPartitionedBy stands_among (drop start xs)
  parted-among start point i j d low high h =
      let size = length-drop start xs in
      let at_i = get_or-drop start xs i d in
      let at_j = get_or-drop start xs j d in
      let rises = ranks-rise key prefix xs (start + i) (start + j) d never (omega arith) (omega arith) in
      let last : rank prefix (key (get_or xs (start + j) d)) ≡ 1 =
      index-eq (compare_path_start_with_prefix prefix (key (get_or xs (start + j) d))) (rw at_j at h) in
      let not_before = point.1 (start + i) d (omega arith) (omega arith) in
      rw at_i (eq-index (compare_path_start_with_prefix prefix (key (get_or xs (start + i) d))) not_before (omega arith))

  pub run_from_points : (start more : ℕ) → start ≤ length xs → more ≤ length (drop start xs)
      → IsPartitionPoint (λ e. stands_before e ≡ true) (λ e. stands_before e ≡ false) xs start
      → IsPartitionPoint (λ e. stands_among e ≡ true) (λ e. stands_among e ≡ false) (drop start xs) more
      → IsExactRangeOfMatches (key_begins_with_prefix key prefix) xs start (start + more)
  run_from_points start more low fits first second =
      let size = length-drop start xs in
      record {
        order = omega arith;
        fits = omega arith;
        before = λ k d below. sym (starts_with-prefix_cmp prefix (key (get_or xs k d)))
            ∙ lt-not_eq (compare_path_start_with_prefix prefix (key (get_or xs k d))) (first.0 k d (omega arith) below);
        inside = λ k d from below. sym (starts_with-prefix_cmp prefix (key (get_or xs k d))) ∙ at k d from (second.0 (k - start) d (omega arith) (omega arith));
        behind = λ k d from below. sym (starts_with-prefix_cmp prefix (key (get_or xs k d))) ∙ at k d (omega arith) (second.1 (k - start) d (omega arith) (omega arith));
      }
    where
      at : {t : Bool} → (k : ℕ) (d : X) → start ≤ k → stands_among (get_or (drop start xs) (k - start) d) ≡ t
          → stands_among (get_or xs k d) ≡ t
      at k d from h =
          let place : start + (k - start) ≡ k = omega arith in
          rw (get_or-drop start xs (k - start) d, place) at h
