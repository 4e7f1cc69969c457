-- A search in a set of names answers as a pass over it.
use Rattle.std.proofs.Common.{◌≡◌, ℕ, List, [], ◌∷◌, Bool, ◌||◌, refl, ap, ◌∙◌}
use Rattle.std.specs.BTreeMap.{is_at}
use Rattle.std.specs.List.{list_any}
use Rattle.std.specs.Str.{bytes_eq}
use Rattle.std.specs.Cmp.Lexicographic.{slice_cmp}
use Rattle.std.specs.Ordering.{nat_cmp}
use Rattle.std.proofs.lemmas.Map.Text.{is_eq-slice_cmp}

pub found-by : (name : List ℕ) (keys : List (List ℕ)) → list_any (is_at (slice_cmp nat_cmp name)) keys ≡ list_any (bytes_eq name) keys
found-by name [] = refl
found-by name (key ∷ keys) =
    ap (λ (b : Bool). b || list_any (is_at (slice_cmp nat_cmp name)) keys) (is_eq-slice_cmp name key) ∙ ap (λ (b : Bool). bytes_eq name key || b) (found-by name keys)
