-- A search in the worktree set answers as a pass over it.
use Rattle.std.proofs.Common.{◌≡◌, ℕ, List, [], ◌∷◌, Bool, false, ◌||◌, length, refl, ap, ◌∙◌}
use Rattle.std.specs.BTreeMap.{is_at}
use Rattle.std.specs.List.{list_any}
use Rattle.std.specs.Str.{bytes_eq}
use Rattle.std.specs.Cmp.Lexicographic.{slice_cmp}
use Rattle.std.specs.Ordering.{nat_cmp}
use Rattle.std.proofs.lemmas.Map.Text.{is_eq-slice_cmp}

pub found-by : (path : List ℕ) (keys : List (List ℕ)) → list_any (is_at (slice_cmp nat_cmp path)) keys ≡ list_any (bytes_eq path) keys
found-by path [] = refl
found-by path (key ∷ keys) =
    ap (λ (b : Bool). b || list_any (is_at (slice_cmp nat_cmp path)) keys) (is_eq-slice_cmp path key) ∙ ap (λ (b : Bool). bytes_eq path key || b) (found-by path keys)

-- nothing is found in an empty set
pub none-found : (p : List ℕ → Bool) (keys : List (List ℕ)) → length keys ≡ 0 → false ≡ list_any p keys
none-found p [] e = refl
none-found p (key ∷ keys) e = absurd (cc e)
