-- The last component of a path in the directory that is pushed.
use Rattle.std.specs.Borrow.{Bor}
use Rattle.std.proofs.Common.{◌≡◌, ℕ, Bool, true, false, List, [], ◌∷◌, ◌++◌, length, drop, Option, Some, None, refl, sym, ap, subst, ◌∙◌, arith, eqb-true}
use Rattle.std.specs.Prelude.{nat_eq, if◌then◌else◌, is_some, IfSome}
use Rattle.std.specs.List.{starts_with}
use Rattle.std.proofs.lemmas.Cmp.{nat_list_eq_equiv}
use Rattle.std.proofs.lemmas.List.{append-nil}
use Rattle.gitbase_core.specs.Path.{is_slash, is_empty_or_root_path, rest_without_separating_slash, strip_directory_prefix, components}
use Rattle.gitbase_core.proofs.DirectoryPrefix.{front-and-rest}
use Rattle.worktree_fs.specs.Paths.{all_but_last, longest_common_prefix}
use Rattle.worktree_fs.specs.PathStack.{deepest_components_or_root, shared_proper_ancestor_components, number_of_directories_to_pop}
use Rattle.worktree_fs.proofs.Paths.Fronts.{without_last-append}
use Rattle.worktree_fs.proofs.Paths.Texts.{pieces-join}
use Rattle.worktree_stack.specs.Lookups.{IsChildOfDirectory}

-- ---- beneath a directory

same : {X : Type 0} {a b : X} → Some a ≡ Some b → a ≡ b
same e = cc

-- behind a directory that is no top stands a slash
below : (directory more rest : List ℕ) → rest_without_separating_slash false more ≡ Some rest → components (directory ++ more) ≡ components directory ++ components rest
below directory [] rest e = absurd (cc)
below directory (b ∷ more) rest e = go (is_slash b) refl e
  where
    go : (s : Bool) → is_slash b ≡ s → (if s then Some more else None) ≡ Some rest → components (directory ++ b ∷ more) ≡ components directory ++ components rest
    go false is f = absurd (cc f)
    go true is f =
        ap (λ (c : ℕ). components (directory ++ c ∷ more)) (eqb-true b 47 is) ∙ pieces-join directory more ∙ ap (λ (r : List ℕ). components directory ++ components r) (same f)

-- a top has no components
on_top : (directory more rest : List ℕ) → components (directory ++ more) ≡ components more → components directory ≡ [] → rest_without_separating_slash true more ≡ Some rest
    → components (directory ++ more) ≡ components directory ++ components rest
on_top directory [] rest all none e = absurd (cc)
on_top directory (b ∷ more) rest all none e = all ∙ ap components (same e) ∙ ap (λ (l : List (List ℕ)). l ++ components rest) (sym none)

beneath : (directory more rest : List ℕ) → rest_without_separating_slash (is_empty_or_root_path directory) more ≡ Some rest → components (directory ++ more) ≡ components directory ++ components rest
beneath [] more rest e = on_top [] more rest refl refl e
beneath (b ∷ []) more rest e = go (is_slash b) refl e
  where
    go : (s : Bool) → is_slash b ≡ s → rest_without_separating_slash s more ≡ Some rest → components ((b ∷ []) ++ more) ≡ components (b ∷ []) ++ components rest
    go false is f = below (b ∷ []) more rest f
    go true is f =
        on_top (b ∷ []) more rest (ap (λ (c : ℕ). components (c ∷ more)) (eqb-true b 47 is) ∙ pieces-join [] more) (ap (λ (c : ℕ). components (c ∷ [])) (eqb-true b 47 is) ∙ pieces-join [] []) f
beneath (b ∷ c ∷ directory) more rest e = below (b ∷ c ∷ directory) more rest e

pub components-beneath : (directory path rest : List ℕ) → strip_directory_prefix directory path ≡ Some rest → components path ≡ components directory ++ components rest
components-beneath directory path rest e = go (starts_with nat_eq path directory) refl e
  where
    go : (b : Bool) → starts_with nat_eq path directory ≡ b → (if b then rest_without_separating_slash (is_empty_or_root_path directory) (drop (length directory) path) else None) ≡ Some rest
        → components path ≡ components directory ++ components rest
    go false is f = absurd (cc f)
    go true is f = sym (ap components (front-and-rest directory path is)) ∙ beneath directory (drop (length directory) path) rest f

-- ---- nothing is popped on the way to it

front-itself : (names : List (List ℕ)) → longest_common_prefix names names ≡ names
front-itself [] = refl
front-itself (name ∷ names) = rw (nat_list_eq_equiv.refl name) (ap (λ (l : List (List ℕ)). name ∷ l) (front-itself names))

pub surplus-none : (at : Option (List (List ℕ))) (parts name : List (List ℕ)) → IsChildOfDirectory (deepest_components_or_root at) parts name → number_of_directories_to_pop at parts ≡ 0
surplus-none at parts [] is = absurd (omega (arith, is.one))
surplus-none at parts (x ∷ y ∷ more) is = absurd (omega (arith, is.one))
surplus-none at parts (x ∷ []) is =
    let names = deepest_components_or_root at in
    let above : all_but_last parts ≡ names = ap all_but_last is.path_is ∙ without_last-append names x [] ∙ append-nil names in
    let stays : shared_proper_ancestor_components names parts ≡ names = ap (longest_common_prefix names) above ∙ front-itself names in
    omega (arith, ap length stays)

-- where a component is found behind the directory that is pushed
pub surplus-found : (at : Option (List (List ℕ))) (parts names : List (List ℕ)) (found : Option (Bor (List ℕ))) → IfSome found (λ name. IsChildOfDirectory names parts (components name.now)) → is_some found ≡ true → names ≡ deepest_components_or_root at → 0 ≡ number_of_directories_to_pop at parts
surplus-found at parts names None is some same = absurd (cc some)
surplus-found at parts names (Some name) is some same = sym (surplus-none at parts (components name.now) (subst (λ (n : List (List ℕ)). IsChildOfDirectory n parts (components name.now)) same is))

drop-past : (names more : List (List ℕ)) → drop (length names) (names ++ more) ≡ more
drop-past [] more = refl
drop-past (name ∷ names) more = drop-past names more

-- and it is all that is left
pub left-last : (names parts name : List (List ℕ)) → IsChildOfDirectory names parts name → name ≡ drop (length names) parts
left-last names parts name is = sym (ap (drop (length names)) is.path_is ∙ drop-past names name)
