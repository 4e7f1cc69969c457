-- The pieces of a directory that were read, and the names that were taken of them.
use Rattle.std.proofs.Common.{◌≡◌, ◌∙◌, Bool, ℕ, List, [], ◌∷◌, ◌++◌, Option, Some, None, sym, ap}
use Rattle.std.specs.List.{concat, flat_map}
use Rattle.std.specs.Io.KnownBytes.{Consumes}
use Rattle.std.proofs.lemmas.List.{append-nil, append_assoc}
use Rattle.std.proofs.lemmas.List.Folds.{concat-append}
use Rattle.std.proofs.lemmas.Grind.{flat_map-append}
use Rattle.worktree_fs.specs.Disk.{composed_names_of_chunk}

pub record AreTaken (composes : Bool) (given left : List ℕ) (names : List (List ℕ)) : Type 0 where
  pub pieces : List (List ℕ)
  pub front : given ≡ concat pieces ++ left
  pub all : names ≡ flat_map (composed_names_of_chunk composes) pieces

-- the same of what a reader tells that it had, and what it tells that is left
abbrev pub HaveTaken : Bool → Option (List ℕ) → Option (List ℕ) → List (List ℕ) → Type 0
HaveTaken composes None left names = Unit {0}
HaveTaken composes (Some given) None names = ⊥
HaveTaken composes (Some given) (Some left) names = AreTaken composes given left names

pub taken_more : (composes : Bool) (known before after : Option (List ℕ)) (piece : List ℕ) (names more : List (List ℕ))
    → HaveTaken composes known before names → Consumes before after piece → more ≡ names ++ composed_names_of_chunk composes piece → HaveTaken composes known after more
taken_more composes None before after piece names more taken read is = tt
taken_more composes (Some given) None after piece names more taken read is = absurd taken
taken_more composes (Some given) (Some left) None piece names more taken read is = absurd read
taken_more composes (Some given) (Some left) (Some rest) piece names more taken read is = record {
  pieces = taken.pieces ++ piece ∷ [];
  front =
      taken.front
      ∙ ap (λ (l : List ℕ). concat taken.pieces ++ l) read
      ∙ sym (append_assoc (concat taken.pieces) piece rest)
      ∙ ap (λ (l : List ℕ). l ++ rest) (sym (concat-append taken.pieces (piece ∷ []) ∙ ap (λ (l : List ℕ). concat taken.pieces ++ l) (append-nil piece)));
  all =
      is
      ∙ ap (λ (l : List (List ℕ)). l ++ composed_names_of_chunk composes piece) taken.all
      ∙ sym (flat_map-append (composed_names_of_chunk composes) taken.pieces (piece ∷ []) ∙ ap (λ (l : List (List ℕ)). flat_map (composed_names_of_chunk composes) taken.pieces ++ l) (append-nil (composed_names_of_chunk composes piece)));
}
