-- How a text comes apart at the bytes of a kind, and a path at its slashes.
use Rattle.std.proofs.Common.{◌≡◌, ◌==◌, ℕ, true, not, if◌then◌else◌, filter, ap, ◌∙◌, zero, suc, ◌+◌, ◌<◌, List, [], ◌∷◌, length, take, drop, get_or, refl, arith}
use Rattle.std.proofs.lemmas.Bool.Decides.{nat_tests}
use Rattle.std.specs.List.{AllByRecursion, list_all, onto_first, slice_split}
use Rattle.std.proofs.lemmas.Bool.{and_parts}
use Rattle.gitbase_core.specs.Path.{components, pieces_between_slashes}
use Rattle.worktree_fs.specs.Tree.{is_absolute, is_empty}
use Rattle.worktree_fs.specs.Naming.{is_valid_entry_name, IsValidEntryName}
use Rattle.worktree_fs.proofs.Paths.NameParts.{name_parts}

-- a text up to the first byte of a kind, and behind it
pub split_cut : (c : ℕ) (text : List ℕ) (i : ℕ) → i < length text → ((k : ℕ) → k < i → get_or text k 0 ≡ c → ⊥) → get_or text i 0 ≡ c
    → slice_split (λ b. b == c) text ≡ take i text ∷ slice_split (λ b. b == c) (drop (i + 1) text)
split_cut c [] i lt free at = absurd (omega arith)
split_cut c (b ∷ bs) zero lt free at = grind (arith, nat_tests)
split_cut c (b ∷ bs) (suc i) lt free at =
    let ih : slice_split (λ b. b == c) bs ≡ take i bs ∷ slice_split (λ b. b == c) (drop (i + 1) bs) = split_cut c bs i (omega arith) (λ k h. free (suc k) (omega arith)) at in
    let not : b ≡ c → ⊥ = free zero (omega arith) in
    grind (arith, nat_tests)

pub split_whole : (c : ℕ) (text : List ℕ) → ((k : ℕ) → k < length text → get_or text k 0 ≡ c → ⊥) → slice_split (λ b. b == c) text ≡ text ∷ []
split_whole c [] free = refl
split_whole c (b ∷ bs) free =
    let ih : slice_split (λ b. b == c) bs ≡ bs ∷ [] = split_whole c bs (λ k h. free (suc k) (omega arith)) in
    let not : b ≡ c → ⊥ = free zero (omega arith) in
    grind (arith, nat_tests)

-- the same at a slash
pub parts_cut : (text : List ℕ) (i : ℕ) → i < length text → ((k : ℕ) → k < i → get_or text k 0 ≡ 47 → ⊥) → get_or text i 0 ≡ 47 → pieces_between_slashes text ≡ take i text ∷ pieces_between_slashes (drop (i + 1) text)
parts_cut text i lt free at = split_cut 47 text i lt free at

pub parts_whole : (text : List ℕ) → ((k : ℕ) → k < length text → get_or text k 0 ≡ 47 → ⊥) → pieces_between_slashes text ≡ text ∷ []
parts_whole text free = split_whole 47 text free

pub all_names : (names : List (List ℕ)) → list_all is_valid_entry_name names ≡ true → AllByRecursion IsValidEntryName names
all_names [] e = tt
all_names (name ∷ names) e =
    let both = and_parts (is_valid_entry_name name) (list_all is_valid_entry_name names) e in
    (both.0, all_names names both.1)

-- names are components of which none is empty
kept : (names : List (List ℕ)) → AllByRecursion IsValidEntryName names → filter (λ piece. not (is_empty piece)) names ≡ names
kept [] all = refl
kept (name ∷ names) all =
    ap (λ b. if not b then name ∷ filter (λ piece. not (is_empty piece)) names else filter (λ piece. not (is_empty piece)) names) (name_parts name all.0).full
    ∙ ap (λ (l : List (List ℕ)). name ∷ l) (kept names all.1)

-- the components of a normal path are the names behind its first slash
pub pieces-normal : (path : List ℕ) → is_absolute path ≡ true → list_all is_valid_entry_name (pieces_between_slashes (drop 1 path)) ≡ true → components path ≡ pieces_between_slashes (drop 1 path)
pieces-normal [] absolute all = absurd (cc absolute)
pieces-normal (b ∷ path) absolute all =
    ap (λ t. filter (λ piece. not (is_empty piece)) (if t then [] ∷ pieces_between_slashes path else onto_first b (pieces_between_slashes path))) absolute
    ∙ kept (pieces_between_slashes path) (all_names (pieces_between_slashes path) all)
