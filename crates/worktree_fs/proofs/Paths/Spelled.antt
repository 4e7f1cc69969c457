-- How a path and the list of its components follow each other.
use Rattle.std.proofs.Common.{◌≡◌, ℕ, List, [], ◌∷◌, ◌++◌, reverse, refl, sym, ap, subst, ◌∙◌, arith}
use Rattle.std.specs.Prelude.{unwrap_or}
use Rattle.std.proofs.lemmas.List.{append-nil, get_or_default, reverse-append, reverse-reverse}
use Rattle.gitbase_core.specs.Path.{is_slash, components, path_joined_with_slash, parent, path_from_reversed_components}
use Rattle.gitbase_core.proofs.Names.{IsName, AreNames, AreNames-components}
use Rattle.gitbase_core.proofs.PathNames.{components-name}
use Rattle.gitbase_core.proofs.ClosedPaths.{IsClosed-path_of, joined-closed, parent-path_of}
use Rattle.worktree_fs.specs.Paths.{IsSinglePathComponent, slash_joined_components, all_but_last}
use Rattle.worktree_fs.proofs.Paths.Texts.{pieces-join}

-- a component, by its bytes
pub name_from : (name : List ℕ) → IsSinglePathComponent name → IsName name
name_from name is = (subst AreNames is (AreNames-components name)).0

pub component_from : (name : List ℕ) → IsName name → IsSinglePathComponent name
component_from name is =
    ap components (sym (append-nil name))
    ∙ components-name name [] is.some (λ k d low. ap is_slash (get_or_default name k d 0 low) ∙ is.plain k low) (λ more. absurd (omega arith))

reverse-cons : (name : List ℕ) (names : List (List ℕ)) → reverse (name ∷ names) ≡ reverse names ++ name ∷ []
reverse-cons name names = reverse-append (name ∷ []) names

AreNames-append : (front back : List (List ℕ)) → AreNames front → AreNames back → AreNames (front ++ back)
AreNames-append [] back are more = more
AreNames-append (name ∷ front) back are more = (are.0, AreNames-append front back are.1 more)

pub AreNames-reverse : (names : List (List ℕ)) → AreNames names → AreNames (reverse names)
AreNames-reverse [] are = tt
AreNames-reverse (name ∷ names) are =
    subst AreNames (sym (reverse-cons name names)) (AreNames-append (reverse names) (name ∷ []) (AreNames-reverse names are.1) (are.0, tt))

pub AreNames-without_last : (names : List (List ℕ)) → AreNames names → AreNames (all_but_last names)
AreNames-without_last [] are = tt
AreNames-without_last (name ∷ []) are = tt
AreNames-without_last (name ∷ next ∷ names) are = (are.0, AreNames-without_last (next ∷ names) are.1)

pub without_last-snoc : {A : Type 0} (xs : List A) (x : A) → all_but_last (xs ++ x ∷ []) ≡ xs
without_last-snoc [] x = refl
without_last-snoc (a ∷ []) x = refl
without_last-snoc (a ∷ b ∷ xs) x = ap (λ l. a ∷ l) (without_last-snoc (b ∷ xs) x)

components-path_of : (below : List (List ℕ)) → AreNames below → components (path_from_reversed_components below) ≡ reverse below
components-path_of [] are = refl
components-path_of (name ∷ []) are = component_from name are.0
components-path_of (name ∷ next ∷ below) are =
    let front : List ℕ = path_from_reversed_components (next ∷ below) in
    ap components (joined-closed front name (IsClosed-path_of next below are.1.0 are.1.1))
    ∙ pieces-join front name
    ∙ ap (λ l. l ++ components name) (components-path_of (next ∷ below) are.1)
    ∙ ap (λ l. reverse (next ∷ below) ++ l) (component_from name are.0)
    ∙ sym (reverse-cons name (next ∷ below))

-- a path is read back into its components
pub components-spelled : (names : List (List ℕ)) → AreNames names → components (slash_joined_components names) ≡ names
components-spelled names are = components-path_of (reverse names) (AreNames-reverse names are) ∙ reverse-reverse names

pub spelled-snoc : (names : List (List ℕ)) (name : List ℕ) → slash_joined_components (names ++ name ∷ []) ≡ path_joined_with_slash (slash_joined_components names) name
spelled-snoc names name = ap path_from_reversed_components (reverse-append names (name ∷ []))

-- the path above, from the components with the last one first
above : (below : List (List ℕ)) → AreNames below → unwrap_or (parent (path_from_reversed_components below)) [] ≡ slash_joined_components (all_but_last (reverse below))
above [] are = refl
above (name ∷ below) are =
    ap (λ o. unwrap_or o []) (parent-path_of name below are.0 are.1)
    ∙ sym (ap path_from_reversed_components (ap (λ l. reverse (all_but_last l)) (reverse-cons name below) ∙ ap reverse (without_last-snoc (reverse below) name) ∙ reverse-reverse below))

pub parent-spelled : (names : List (List ℕ)) → AreNames names → unwrap_or (parent (slash_joined_components names)) [] ≡ slash_joined_components (all_but_last names)
parent-spelled names are =
    above (reverse names) (AreNames-reverse names are) ∙ ap (λ l. slash_joined_components (all_but_last l)) (reverse-reverse names)

-- a path that is spelled by its components, with one more of them, and with one less
module _ (path name : List ℕ) (is : path ≡ slash_joined_components (components path)) where
  pub grown-is : IsSinglePathComponent name → path_joined_with_slash path name ≡ slash_joined_components (components path ++ name ∷ [])
  grown-is component = ap (λ p. path_joined_with_slash p name) is ∙ sym (spelled-snoc (components path) name)

  pub grown-components : IsSinglePathComponent name → components (path_joined_with_slash path name) ≡ components path ++ name ∷ []
  grown-components component =
      ap components (grown-is component)
      ∙ components-spelled (components path ++ name ∷ []) (AreNames-append (components path) (name ∷ []) (AreNames-components path) (name_from name component, tt))

module _ (path : List ℕ) (is : path ≡ slash_joined_components (components path)) where
  pub cut-is : unwrap_or (parent path) [] ≡ slash_joined_components (all_but_last (components path))
  cut-is = ap (λ p. unwrap_or (parent p) []) is ∙ parent-spelled (components path) (AreNames-components path)

  pub cut-components : components (unwrap_or (parent path) []) ≡ all_but_last (components path)
  cut-components =
      ap components cut-is ∙ components-spelled (all_but_last (components path)) (AreNames-without_last (components path) (AreNames-components path))
