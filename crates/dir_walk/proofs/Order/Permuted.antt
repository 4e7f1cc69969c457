-- Lists with the same counts are permutations of one another, where elements can be told apart.
use Rattle.std.proofs.Common.{◌≡◌, ℕ, ◌<◌, List, [], ◌∷◌, ◌++◌, Bool, true, false, cond, count_by, refl, sym, ap, subst, arith}
use Rattle.std.specs.Prelude.{IsPermutation}
use Rattle.std.proofs.lemmas.List.Sorted.{IsPermutation-refl, IsPermutation-sym, IsPermutation-trans, IsPermutation-cons, IsPermutation-middle}
use Rattle.dir_walk.proofs.Order.Counts.{count_by-cons, count_by-append}

module _ {X : Type 0} (same : X → X → Bool) (one : (x y : X) → same x y ≡ true → x ≡ y) (self : (x : X) → same x x ≡ true) where
  -- where an element stands
  record Split (x : X) (ys : List X) : Type 0 where
    front : List X
    back : List X
    ys_is : ys ≡ front ++ x ∷ back

  split : (x : X) (ys : List X) → 0 < count_by (same x) ys → Split x ys
  split x [] some = absurd (omega (arith, some))
  split x (y ∷ ys) some = go (same x y) refl (split x ys)
    where
      go : (b : Bool) → same x y ≡ b → (0 < count_by (same x) ys → Split x ys) → Split x (y ∷ ys)
      go true is later = record { front = []; back = ys; ys_is = ap (λ (z : X). z ∷ ys) (sym (one x y is)) }
      go false is later =
          let rest = later (omega (arith, some, count_by-cons (same x) y ys, ap {B = ℕ} (λ (b : Bool). cond b 1 0) is)) in
          record { front = y ∷ rest.front; back = rest.back; ys_is = ap (λ (zs : List X). y ∷ zs) rest.ys_is }

  pub permuted : (xs ys : List X) → ((p : X → Bool) → count_by p xs ≡ count_by p ys) → IsPermutation xs ys
  permuted [] [] counts = IsPermutation-refl []
  permuted [] (y ∷ ys) counts = absurd (omega (arith, counts (λ _. true), count_by-cons (λ _. true) y ys))
  permuted (x ∷ xs) ys counts =
      let at = split x ys (omega (arith, counts (same x), count_by-cons (same x) x xs, ap {B = ℕ} (λ (b : Bool). cond b 1 0) (self x))) in
      let less : (p : X → Bool) → count_by p xs ≡ count_by p (at.front ++ at.back) =
      λ p. omega (
        arith,
        counts p,
        ap (count_by p) at.ys_is,
        count_by-cons p x xs,
        count_by-append p at.front (x ∷ at.back),
        count_by-cons p x at.back,
        count_by-append p at.front at.back,
      ) in
      let P : List X → Type 0 = λ zs. IsPermutation (x ∷ xs) zs in
      subst P (sym at.ys_is) (IsPermutation-trans _ _ _ (IsPermutation-cons x xs (at.front ++ at.back) (permuted xs (at.front ++ at.back) less)) (IsPermutation-sym _ _ (IsPermutation-middle at.front x at.back)))
