-- A text in which no byte passes a test is its only piece.
use Rattle.std.proofs.Common.{◌≡◌, ◌≤◌, ◌+◌, ℕ, Bool, true, false, cond, not, List, [], ◌∷◌, length, refl, ap, ◌∙◌, arith}
use Rattle.std.specs.List.{slice_split, onto_first, position_or_len}
use Rattle.std.proofs.lemmas.List.Splits.{slice_split-cons_no}

pub lone_piece : {X : Type 0} (p : X → Bool) (xs : List X) (at : ℕ) → length xs ≤ at → at ≡ position_or_len p xs → slice_split p xs ≡ xs ∷ []
lone_piece p [] at fits place = refl
lone_piece {X = X} p (x ∷ xs) at fits place = go (p x) refl (lone_piece p xs)
  where
    go : (b : Bool) → p x ≡ b → ((at : ℕ) → length xs ≤ at → at ≡ position_or_len p xs → slice_split p xs ≡ xs ∷ []) → slice_split p (x ∷ xs) ≡ (x ∷ xs) ∷ []
    go true e rest =
        let none : position_or_len p (x ∷ xs) ≡ 0 = ap (λ b. cond (not b) (1 + position_or_len p xs) 0) e in
        absurd (omega (arith, place, none, fits))
    go false e rest =
        let some : position_or_len p (x ∷ xs) ≡ 1 + position_or_len p xs = ap (λ b. cond (not b) (1 + position_or_len p xs) 0) e in
        slice_split-cons_no p x xs e ∙ ap (onto_first x) (rest (position_or_len p xs) (omega (arith, place, some, fits)) refl)
