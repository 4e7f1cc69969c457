-- Fronts of lists of components, and the directories that they stand for.
use Rattle.std.proofs.Common.{◌≡◌, ℕ, suc, ◌-◌, ◌≤◌, Bool, true, false, List, [], ◌∷◌, ◌++◌, length, take, drop, map, cond, Option, Some, None, is_some, refl, sym, ap, ◌∙◌, arith}
use Rattle.std.specs.Str.{bytes_eq}
use Rattle.std.proofs.lemmas.List.{length-take, map-append, take-append-drop, take-take, length-append, nil_from_length}
use Rattle.std.proofs.lemmas.Slice.Eq.{bytes_eq-Decides}
use Rattle.worktree_fs.specs.Paths.{slash_joined_components, all_but_last, longest_common_prefix, all_prefixes_shortest_first}
use Rattle.worktree_fs.specs.PathStack.{deepest_components_or_root, parent_of_deepest_directory, pushed_directory_paths, shared_proper_ancestor_components}
use Rattle.worktree_fs.proofs.Paths.Spelled.{without_last-snoc}

fronts-snoc : (names : List (List ℕ)) (name : List ℕ) → all_prefixes_shortest_first (names ++ name ∷ []) ≡ all_prefixes_shortest_first names ++ (names ++ name ∷ []) ∷ []
fronts-snoc [] name = refl
fronts-snoc (first ∷ names) name =
    let onto : List (List ℕ) → List (List ℕ) = λ front. first ∷ front in
    let more : map onto (all_prefixes_shortest_first (names ++ name ∷ [])) ≡ map onto (all_prefixes_shortest_first names) ++ (first ∷ names ++ name ∷ []) ∷ [] =
    ap (map onto) (fronts-snoc names name) ∙ map-append onto (all_prefixes_shortest_first names) ((names ++ name ∷ []) ∷ []) in
    ap (λ l. [] ∷ l) more

-- the directories with one more below them
pub directories-push : (names : List (List ℕ)) (name : List ℕ)
    → pushed_directory_paths (Some (names ++ name ∷ [])) ≡ pushed_directory_paths (Some names) ++ slash_joined_components (names ++ name ∷ []) ∷ []
directories-push names name =
    ap (map slash_joined_components) (fronts-snoc names name) ∙ map-append slash_joined_components (all_prefixes_shortest_first names) ((names ++ name ∷ []) ∷ [])

-- and without the deepest one
pub directories-pop : (names : List (List ℕ)) (name : List ℕ)
    → pushed_directory_paths (Some names) ≡ all_but_last (pushed_directory_paths (Some (names ++ name ∷ [])))
directories-pop names name =
    sym (ap all_but_last (directories-push names name) ∙ without_last-snoc (pushed_directory_paths (Some names)) (slash_joined_components (names ++ name ∷ [])))

pub one_up-snoc : (names : List (List ℕ)) (name : List ℕ) → parent_of_deepest_directory (Some (names ++ name ∷ [])) ≡ Some names
one_up-snoc [] name = refl
one_up-snoc (first ∷ names) name = ap Some (without_last-snoc (first ∷ names) name)

pub some_names : (d : Option (List (List ℕ))) → is_some d ≡ true → d ≡ Some (deepest_components_or_root d)
some_names None some = absurd (cc some)
some_names (Some names) some = refl

-- what two lists share is the front of the first one
front-first : (xs ys : List (List ℕ)) → take (length (longest_common_prefix xs ys)) xs ≡ longest_common_prefix xs ys
front-first [] ys = refl
front-first (x ∷ xs) [] = refl
front-first (x ∷ xs) (y ∷ ys) = go (front-first xs ys) (bytes_eq x y)
  where
    go : take (length (longest_common_prefix xs ys)) xs ≡ longest_common_prefix xs ys
        → (b : Bool) → take (length (cond b (x ∷ longest_common_prefix xs ys) [])) (x ∷ xs) ≡ cond b (x ∷ longest_common_prefix xs ys) []
    go ih true = ap (λ l. x ∷ l) ih
    go ih false = refl

-- and that of the second one
front-second : (xs ys : List (List ℕ)) → take (length (longest_common_prefix xs ys)) ys ≡ longest_common_prefix xs ys
front-second [] ys = refl
front-second (x ∷ xs) [] = refl
front-second (x ∷ xs) (y ∷ ys) = go (front-second xs ys) (bytes_eq x y) ((bytes_eq-Decides x y).0)
  where
    go : take (length (longest_common_prefix xs ys)) ys ≡ longest_common_prefix xs ys → (b : Bool) → (b ≡ true → x ≡ y)
        → take (length (cond b (x ∷ longest_common_prefix xs ys) [])) (y ∷ ys) ≡ cond b (x ∷ longest_common_prefix xs ys) []
    go ih true same = ap (λ l. y ∷ l) ih ∙ ap (λ z. z ∷ longest_common_prefix xs ys) (sym (same refl))
    go ih false same = refl

-- a list without its last element, where another list follows the first
pub without_last-append : (names : List (List ℕ)) (name : List ℕ) (more : List (List ℕ)) → all_but_last (names ++ name ∷ more) ≡ names ++ all_but_last (name ∷ more)
without_last-append [] name more = refl
without_last-append (first ∷ []) name more = refl
without_last-append (first ∷ second ∷ names) name more = ap (λ (l : List (List ℕ)). first ∷ l) (without_last-append (second ∷ names) name more)

without_last-take : (xs : List (List ℕ)) → all_but_last xs ≡ take (length xs - 1) xs
without_last-take [] = refl
without_last-take (x ∷ []) = refl
without_last-take (x ∷ y ∷ xs) =
    let more : length {A = List ℕ} (x ∷ y ∷ xs) - 1 ≡ suc (length (y ∷ xs) - 1) = omega arith in
    ap (λ l. x ∷ l) (without_last-take (y ∷ xs)) ∙ sym (ap (λ n. take n (x ∷ y ∷ xs)) more)

pub kept-names : (names parts : List (List ℕ)) → take (length (shared_proper_ancestor_components names parts)) names ≡ shared_proper_ancestor_components names parts
kept-names names parts = front-first names (all_but_last parts)

pub kept-fits : (names parts : List (List ℕ)) → length (shared_proper_ancestor_components names parts) ≤ length names
kept-fits names parts =
    omega (arith, ap length (kept-names names parts), length-take (length (shared_proper_ancestor_components names parts)) names)

kept-short : (names parts : List (List ℕ)) → length (shared_proper_ancestor_components names parts) ≤ length parts - 1
kept-short names parts =
    omega (
      arith,
      ap length (front-second names (all_but_last parts)),
      length-take (length (shared_proper_ancestor_components names parts)) (all_but_last parts),
      ap length (without_last-take parts),
      length-take (length parts - 1) parts,
    )

kept-parts : (names parts : List (List ℕ)) → take (length (shared_proper_ancestor_components names parts)) parts ≡ shared_proper_ancestor_components names parts
kept-parts names parts =
    sym (take-take (length (shared_proper_ancestor_components names parts)) (length parts - 1) parts (kept-short names parts))
    ∙ sym (ap (take (length (shared_proper_ancestor_components names parts))) (without_last-take parts))
    ∙ front-second names (all_but_last parts)

-- what stays and what is left of the path are all of it
pub kept-rest : (names parts : List (List ℕ)) → shared_proper_ancestor_components names parts ++ drop (length (shared_proper_ancestor_components names parts)) parts ≡ parts
kept-rest names parts =
    ap (λ l. l ++ drop (length (shared_proper_ancestor_components names parts)) parts) (sym (kept-parts names parts)) ∙ take-append-drop (length (shared_proper_ancestor_components names parts)) parts

-- something is left, unless the path is empty and the root alone stays
pub kept-end : (names parts : List (List ℕ)) → drop (length (shared_proper_ancestor_components names parts)) parts ≡ [] → shared_proper_ancestor_components names parts ≡ []
kept-end names parts none =
    let whole : shared_proper_ancestor_components names parts ++ [] ≡ parts = ap (λ l. shared_proper_ancestor_components names parts ++ l) (sym none) ∙ kept-rest names parts in
    nil_from_length (shared_proper_ancestor_components names parts) (omega (arith, kept-short names parts, ap length whole, length-append (shared_proper_ancestor_components names parts) []))
