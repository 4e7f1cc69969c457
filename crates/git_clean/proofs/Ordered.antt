-- Paths put into their order.
use Rattle.std.proofs.Common.{◌≡◌, ℕ, ◌+◌, ◌<◌, List, [], ◌∷◌, ◌++◌, Bool, ◌||◌, length, get_or, drop, refl, ap, sym, ◌∙◌}
use Rattle.std.specs.BTreeMap.{is_at}
use Rattle.std.specs.BTreeSet.{insert_key}
use Rattle.std.specs.List.{flat_map, list_any}
use Rattle.std.specs.Str.{bytes_eq}
use Rattle.std.specs.Cmp.Lexicographic.{slice_cmp}
use Rattle.std.specs.Ordering.{nat_cmp}
use Rattle.std.proofs.lemmas.List.{drop_more}
use Rattle.std.proofs.lemmas.Map.Text.{is_eq-slice_cmp}
use Rattle.worktree_report.specs.SetupMeant.{insert_paths_in_order}

-- a search in the order answers as a pass over it
pub found-by : (path : List ℕ) (keys : List (List ℕ)) → list_any (is_at (slice_cmp nat_cmp path)) keys ≡ list_any (bytes_eq path) keys
found-by path [] = refl
found-by path (key ∷ keys) =
    ap (λ (b : Bool). b || list_any (is_at (slice_cmp nat_cmp path)) keys) (is_eq-slice_cmp path key) ∙ ap (λ (b : Bool). bytes_eq path key || b) (found-by path keys)

-- some paths and then others are put in as all of them
pub ordered_after-append : (set paths others : List (List ℕ)) → insert_paths_in_order (insert_paths_in_order set paths) others ≡ insert_paths_in_order set (paths ++ others)
ordered_after-append set [] others = refl
ordered_after-append set (path ∷ paths) others = ordered_after-append (insert_key (slice_cmp nat_cmp) set path) paths others

-- one more is read from a list, which gives some paths
pub taken : {E : Type 0} (f : E → List (List ℕ)) (set now : List (List ℕ)) (e : E) (all : List E) (i : ℕ) → i < length all → e ≡ get_or all i e → now ≡ insert_paths_in_order set (f e)
    → insert_paths_in_order now (flat_map f (drop (i + 1) all)) ≡ insert_paths_in_order set (flat_map f (drop i all))
taken {E} f set now e all i less is put =
    let read : drop i all ≡ e ∷ drop (i + 1) all = drop_more all i e less ∙ ap (λ (y : E). y ∷ drop (i + 1) all) (sym is) in
    ap (λ (s : List (List ℕ)). insert_paths_in_order s (flat_map f (drop (i + 1) all))) put
    ∙ ordered_after-append set (f e) (flat_map f (drop (i + 1) all))
    ∙ sym (ap (λ (es : List E). insert_paths_in_order set (flat_map f es)) read)
