-- Relative paths that are normalised.
use Rattle.std.proofs.Common.{◌≡◌, ◌∙◌, ap, sym, ℕ, List, [], ◌∷◌, ◌++◌, Bool, true, false, not, ◌&&◌, ◌||◌, Some, refl, reverse, append_assoc, arith}
use Rattle.std.specs.List.{list_any}
use Rattle.std.specs.Prelude.{if◌then◌else◌, option_map, option_and_then}
use Rattle.std.specs.Str.{bytes_eq}
use Rattle.std.proofs.lemmas.List.{append-nil, reverse-append}
use Rattle.gitbase_core.specs.Path.{components_after_resolving_one, components_after_resolving_all, components, ends_in_slash, is_absolute, path_joined_with_slash, normalized, path_from_reversed_components}
use Rattle.gitbase_core.proofs.Names.{IsName, AreNames, AreNames-components}
use Rattle.worktree_fs.specs.Paths.{is_dot_or_dot_dot, is_relative_without_dots, slash_joined_components}
use Rattle.worktree_fs.proofs.Paths.Spelled.{AreNames-reverse}

-- ---- a path on the way to a normal one is normal

absolute-name : (name : List ℕ) → IsName name → is_absolute name ≡ false
absolute-name [] is = absurd (let some = is.some in omega (arith, some))
absolute-name (b ∷ bytes) is = is.plain 0 (omega arith)

absolute-joined : (path name : List ℕ) → IsName name → is_absolute path ≡ false → is_absolute (path_joined_with_slash path name) ≡ false
absolute-joined [] name is e = absolute-name name is
absolute-joined (b ∷ path) name is e = go (ends_in_slash (b ∷ path))
  where
    go : (slash : Bool) → is_absolute (if slash then (b ∷ path) ++ name else (b ∷ path) ++ 47 ∷ name) ≡ false
    go true = e
    go false = e

absolute-path_of : (below : List (List ℕ)) → AreNames below → is_absolute (path_from_reversed_components below) ≡ false
absolute-path_of [] are = refl
absolute-path_of (name ∷ below) are = absolute-joined (path_from_reversed_components below) name are.0 (absolute-path_of below are.1)

or-false : (a b : Bool) → (a || b) ≡ false → (a ≡ false) × (b ≡ false)
or-false true b e = absurd (cc e)
or-false false b e = (refl, e)

any-front : (p : List ℕ → Bool) (front back : List (List ℕ)) → list_any p (front ++ back) ≡ false → list_any p front ≡ false
any-front p [] back e = refl
any-front p (x ∷ front) back e =
    let parts = or-false (p x) (list_any p (front ++ back)) e in
    rw (parts.0, any-front p front back parts.1) refl

none-absolute : (root : List ℕ) → is_relative_without_dots root ≡ true → list_any is_dot_or_dot_dot (components root) ≡ false
none-absolute root normal = go (list_any is_dot_or_dot_dot (components root)) refl
  where
    go : (b : Bool) → list_any is_dot_or_dot_dot (components root) ≡ b → b ≡ false
    go false e = refl
    go true e = absurd (let f : (not (is_absolute root) && not true) ≡ true = ap (λ c. not (is_absolute root) && not c) (sym e) ∙ normal in closed (not (is_absolute root)) f)
      where
        closed : (a : Bool) → (a && false) ≡ true → ⊥
        closed true f = cc f
        closed false f = cc f

pub normal-front : (root path : List ℕ) (rest : List (List ℕ)) → is_relative_without_dots root ≡ true → components root ≡ components path ++ rest → path ≡ slash_joined_components (components path) → is_relative_without_dots path ≡ true
normal-front root path rest normal split spelled_is =
    let plain : is_absolute path ≡ false = ap is_absolute spelled_is ∙ absolute-path_of (reverse (components path)) (AreNames-reverse (components path) (AreNames-components path)) in
    let dots : list_any is_dot_or_dot_dot (components path) ≡ false = any-front is_dot_or_dot_dot (components path) rest (ap (list_any is_dot_or_dot_dot) (sym split) ∙ none-absolute root normal) in
    rw (plain, dots) refl

-- ---- such a path is what making it normal leaves

after-plain : (name : List ℕ) (kept : List (List ℕ)) → is_dot_or_dot_dot name ≡ false → components_after_resolving_one kept name ≡ Some (name ∷ kept)
after-plain name kept e = go (bytes_eq name (46 ∷ [])) (bytes_eq name (46 ∷ 46 ∷ [])) refl refl
  where
    go : (one two : Bool) → bytes_eq name (46 ∷ []) ≡ one → bytes_eq name (46 ∷ 46 ∷ []) ≡ two → components_after_resolving_one kept name ≡ Some (name ∷ kept)
    go false false f g = rw (f, g) refl
    go true two f g = absurd (let parts = or-false (bytes_eq name (46 ∷ [])) (bytes_eq name (46 ∷ 46 ∷ [])) e in let never = sym f ∙ parts.0 in cc never)
    go false true f g = absurd (let parts = or-false (bytes_eq name (46 ∷ [])) (bytes_eq name (46 ∷ 46 ∷ [])) e in let never = sym g ∙ parts.1 in cc never)

after-all : (names kept : List (List ℕ)) → list_any is_dot_or_dot_dot names ≡ false → components_after_resolving_all kept names ≡ Some (reverse names ++ kept)
after-all [] kept e = refl
after-all (name ∷ names) kept e =
    let parts = or-false (is_dot_or_dot_dot name) (list_any is_dot_or_dot_dot names) e in
    ap (option_and_then (λ (now : List (List ℕ)). components_after_resolving_all now names)) (after-plain name kept parts.0)
    ∙ after-all names (name ∷ kept) parts.1
    ∙ ap Some (sym (append_assoc (reverse names) (name ∷ []) kept) ∙ ap (λ (l : List (List ℕ)). l ++ kept) (sym (reverse-append (name ∷ []) names)))

-- A normal path that is spelled by its components is as `normalize` leaves it.
pub normalized-is : (path : List ℕ) → is_relative_without_dots path ≡ true → path ≡ slash_joined_components (components path) → normalized path ≡ Some path
normalized-is path normal spelled_is =
    let plain : is_absolute path ≡ false = ap is_absolute spelled_is ∙ absolute-path_of (reverse (components path)) (AreNames-reverse (components path) (AreNames-components path)) in
    ap (option_map (λ (kept : List (List ℕ)). if is_absolute path then 47 ∷ path_from_reversed_components kept else path_from_reversed_components kept)) (after-all (components path) [] (none-absolute path normal))
    ∙ rw plain (ap (λ (kept : List (List ℕ)). Some (path_from_reversed_components kept)) (append-nil (reverse (components path))) ∙ ap Some (sym spelled_is))
