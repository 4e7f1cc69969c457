-- A path of which no byte stands escaped is written as it is.
use Rattle.std.proofs.Common.{◌≡◌, ℕ, List, [], ◌∷◌, ◌++◌, Bool, true, false, refl, ap}
use Rattle.std.specs.Prelude.{◌||◌, if◌then◌else◌}
use Rattle.std.specs.List.{list_any}
use Rattle.worktree_report.specs.Escapes.{needs_escape, hex_escape_of_byte, path_escaped}

pub escaped-plain : (path : List ℕ) → list_any needs_escape path ≡ false → path_escaped path ≡ path
escaped-plain [] none = refl
escaped-plain (b ∷ path) none = go (needs_escape b) refl none (escaped-plain path)
  where
    go : (x : Bool) → needs_escape b ≡ x → (x || list_any needs_escape path) ≡ false → (list_any needs_escape path ≡ false → path_escaped path ≡ path)
        → (if x then hex_escape_of_byte b else b ∷ []) ++ path_escaped path ≡ b ∷ path
    go true is any more = absurd (cc any)
    go false is any more = ap (λ (rest : List ℕ). b ∷ rest) (more any)
