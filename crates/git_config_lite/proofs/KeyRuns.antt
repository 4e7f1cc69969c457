-- Elements that are sorted by a text: those of one text stand in one run, which two binary searches find.
use Rattle.std.proofs.Common.{◌≡◌, ℕ, zero, suc, ◌+◌, ◌<◌, ◌≤◌, Bool, true, false, not, ◌&&◌, List, [], ◌∷◌, length, take, drop, get_or, Option, Some, None, Bor, refl, sym, ap, ◌∙◌, arith}
use Rattle.std.specs.Prelude.{MatchOption, HoldsAt, option_copied}
use Rattle.std.specs.List.{filter, slice_get}
use Rattle.std.specs.List.Sorted.{IsSortedBy, IsPartitionedBy, IsPartitionPoint, ties}
use Rattle.std.specs.Cmp.{IsStrictWeakOrder}
use Rattle.std.proofs.lemmas.List.{get_or-drop, length-drop}
use Rattle.std.proofs.lemmas.List.Sorted.{sorted_far}
use Rattle.std.proofs.lemmas.Option.{slice_get_past, slice_get-get_or}

-- what passes stands in front
filter-front : {X : Type 0} (p : X → Bool) (xs : List X) (m : ℕ) → ((k : ℕ) (d : X) → k < m → k < length xs → p (get_or xs k d) ≡ true)
    → ((k : ℕ) (d : X) → m ≤ k → k < length xs → p (get_or xs k d) ≡ false) → filter p xs ≡ take m xs
filter-front p [] zero in_front behind = refl
filter-front p [] (suc m) in_front behind = refl
filter-front p (x ∷ xs) zero in_front behind =
    rw (behind 0 x (omega arith) (omega arith))
    (filter-front p xs 0 (λ k d low high. absurd (omega arith)) (λ k d low high. behind (suc k) d (omega arith) (omega arith)))
filter-front {X = X} p (x ∷ xs) (suc m) in_front behind =
    rw (in_front 0 x (omega arith) (omega arith))
    (ap (λ (ys : List X). x ∷ ys)
    (filter-front p xs m (λ k d low high. in_front (suc k) d (omega arith) (omega arith)) (λ k d low high. behind (suc k) d (omega arith) (omega arith))))

-- what passes stands in one run
filter-run : {X : Type 0} (p : X → Bool) (xs : List X) (s m : ℕ) → ((k : ℕ) (d : X) → k < s → k < length xs → p (get_or xs k d) ≡ false)
    → ((k : ℕ) (d : X) → k < m → k < length (drop s xs) → p (get_or (drop s xs) k d) ≡ true)
    → ((k : ℕ) (d : X) → m ≤ k → k < length (drop s xs) → p (get_or (drop s xs) k d) ≡ false)
    → filter p xs ≡ take m (drop s xs)
filter-run p xs zero m before inside behind = filter-front p xs m inside behind
filter-run p [] (suc s) m before inside behind = filter-front p [] m (λ k d low high. absurd (omega arith)) (λ k d low high. absurd (omega arith))
filter-run p (x ∷ xs) (suc s) m before inside behind =
    rw (before 0 x (omega arith) (omega arith))
    (filter-run p xs s m (λ k d low high. before (suc k) d (omega arith) (omega arith)) inside behind)

pub not_both : (b : Bool) → b ≡ false → b ≡ true → ⊥
not_both b h e = absurd (cc)

not_is : (b : Bool) → not b ≡ true → b ≡ false
not_is false h = refl
not_is true h = absurd (cc)

-- what ties, of two tests
ties-both : (a b : Bool) → not a ≡ true → b ≡ false → (not a && not b) ≡ true
ties-both false b h e = rw e refl
ties-both true b h e = absurd (cc)

ties-under : (a b : Bool) → b ≡ true → (not a && not b) ≡ false
ties-under false b e = rw e refl
ties-under true b e = refl

ties-beyond : (a b : Bool) → not a ≡ false → (not a && not b) ≡ false
ties-beyond false b h = absurd (cc)
ties-beyond true b h = refl

module _ {X : Type 0} (is_before : X → X → Bool) (order : IsStrictWeakOrder is_before) (xs : List X) (up : IsSortedBy is_before xs) (one : X) where
  -- an element stands before one, or not behind it
  abbrev pub is_less : X → Bool
  is_less p = is_before p one

  abbrev pub is_at_most : X → Bool
  is_at_most p = not (is_before one p)

  pub parted-under : IsPartitionedBy is_less xs
  parted-under i j d low high h = go (is_less (get_or xs i d)) refl
    where
      go : (t : Bool) → is_less (get_or xs i d) ≡ t → t ≡ true
      go true e = refl
      go false e =
          let far = sorted_far is_before order xs up i j d low high in
          let under = order.chain (get_or xs j d) (get_or xs i d) one far e in
          absurd (not_both (is_less (get_or xs j d)) under h)

  pub parted-within : (start : ℕ) → IsPartitionedBy is_at_most (drop start xs)
  parted-within start i j d low high h =
      let size = length-drop start xs in
      let far = sorted_far is_before order xs up (start + i) (start + j) d (omega arith) (omega arith) in
      let at_j = not_is (is_before one (get_or xs (start + j) d)) (rw (get_or-drop start xs j d) at h) in
      let at_i = order.chain one (get_or xs (start + j) d) (get_or xs (start + i) d) at_j far in
      rw (get_or-drop start xs i d, at_i) refl

  pub run_is : (start more : ℕ) → start ≤ length xs → more ≤ length (drop start xs)
      → IsPartitionPoint (λ p. is_less p ≡ true) (λ p. is_less p ≡ false) xs start
      → IsPartitionPoint (λ p. is_at_most p ≡ true) (λ p. is_at_most p ≡ false) (drop start xs) more
      → take more (drop start xs) ≡ filter (ties is_before one) xs
  run_is start more low fits first second =
      let size = length-drop start xs in
      sym (filter-run (ties is_before one) xs start more
      (λ k d below high. ties-under (is_before one (get_or xs k d)) (is_less (get_or xs k d)) (first.0 k d (omega arith) (omega arith)))
      (λ k d below high. ties-both (is_before one (get_or (drop start xs) k d)) (is_less (get_or (drop start xs) k d))
      (second.0 k d (omega arith) (omega arith)) (rw (get_or-drop start xs k d) (first.1 (start + k) d (omega arith) (omega arith))))
      (λ k d from high. ties-beyond (is_before one (get_or (drop start xs) k d)) (is_less (get_or (drop start xs) k d))
      (second.1 k d (omega arith) (omega arith))))

-- what `get` answers, as an element
pub got : {X : Type 0} (xs : List X) (i : ℕ) (r : Option (Bor X))
    → MatchOption r (length xs ≤ i) (λ x. (i < length xs) × HoldsAt (λ y. x.now ≡ y) xs i) → slice_get xs i ≡ option_copied r
got xs i None h = slice_get_past xs i h
got xs i (Some x) h = slice_get-get_or xs i x.now h.0 ∙ ap Some (sym (h.1 x.now))
