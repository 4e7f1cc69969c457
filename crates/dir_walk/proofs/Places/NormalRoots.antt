-- A path that is made normal.
use Rattle.std.proofs.Common.{◌≡◌, ◌⊎◌, inl, inr, ◌∙◌, ap, sym, subst, ℕ, List, [], ◌∷◌, ◌+◌, ◌++◌, reverse, Bool, true, false, ◌||◌, Option, Some, None, refl}
use Rattle.std.specs.Prelude.{if◌then◌else◌, option_map, option_and_then}
use Rattle.std.specs.List.{list_any}
use Rattle.std.specs.Str.{bytes_eq}
use Rattle.std.proofs.lemmas.List.{reverse-append, reverse-reverse}
use Rattle.gitbase_core.specs.Path.{components_after_resolving_one, components_after_resolving_all, components, is_absolute, path_joined_with_slash, normalized, path_from_reversed_components, reversed_components_without_last}
use Rattle.gitbase_core.proofs.Names.{IsName, AreNames, AreNames-components}
use Rattle.gitbase_core.proofs.ClosedPaths.{IsClosed-path_of}
use Rattle.worktree_fs.specs.Paths.{root_joined_with_relative, is_dot_or_dot_dot, slash_joined_components}
use Rattle.worktree_fs.proofs.Paths.Spelled.{AreNames-reverse, components-spelled}
use Rattle.worktree_fs.specs.Tree.{Names}
use Rattle.dir_classify.specs.declared.entry.Kind.{Kind}
use Rattle.dir_classify.specs.declared.error.Error.{Error}
use Rattle.dir_classify.specs.declared.error.Error.TheVariants as errors
use Rattle.dir_classify.specs.declared.error.MetadataWhy.TheVariants as metadata
use Rattle.dir_classify.specs.declared.entry.Kind.TheVariants.{Untrackable, File, Symlink, Directory, Repository}
use Rattle.dir_classify.specs.Layers.{WalkSetting, kind_of_node_at}
use Rattle.dir_walk.specs.Root.{TraversalRootResult, outside, continue_past_component, explicit_or_common_root_before_normalizing, traversal_root_of_normal_path, traversal_root_unless_outside, traversal_root_through_components, rooted, find_traversal_root}
use Rattle.dir_walk.specs.Rooting.{IsErrorOfRootResult, IsNormalRootPath}

some_is : {X : Type 0} {x y : X} → Some x ≡ Some y → x ≡ y
some_is e = cc

-- names of which none is `.` or `..`
record ArePlain (kept : List (List ℕ)) : Type 0 where
  names : AreNames kept
  dots : list_any is_dot_or_dot_dot kept ≡ false

or-false : (a b : Bool) → (a || b) ≡ false → (a ≡ false) × (b ≡ false)
or-false true b e = absurd (cc e)
or-false false b e = (refl, e)

plain-below : (kept below : List (List ℕ)) → reversed_components_without_last kept ≡ Some below → ArePlain kept → ArePlain below
plain-below [] below e plain = absurd (cc e)
plain-below (name ∷ kept) below e plain =
    subst ArePlain (some_is e) (record { names = plain.names.1; dots = (or-false (is_dot_or_dot_dot name) (list_any is_dot_or_dot_dot kept) plain.dots).1 })

plain-after : (kept after : List (List ℕ)) (name : List ℕ) → IsName name → ArePlain kept → components_after_resolving_one kept name ≡ Some after → ArePlain after
plain-after kept after name is_name plain e = go (bytes_eq name (46 ∷ 46 ∷ [])) (bytes_eq name (46 ∷ [])) refl refl e
  where
    go : (a b : Bool) → bytes_eq name (46 ∷ 46 ∷ []) ≡ a → bytes_eq name (46 ∷ []) ≡ b
        → (if a then reversed_components_without_last kept else if b then Some kept else Some (name ∷ kept)) ≡ Some after → ArePlain after
    go true b is two f = plain-below kept after f plain
    go false true is one f = subst ArePlain (some_is f) plain
    go false false two one f = subst ArePlain (some_is f) (record { names = (is_name, plain.names); dots = rw (one, two) plain.dots })

plain-all : (names kept after : List (List ℕ)) → AreNames names → ArePlain kept → components_after_resolving_all kept names ≡ Some after → ArePlain after
plain-all [] kept after are plain e = subst ArePlain (some_is e) plain
plain-all (name ∷ names) kept after are plain e = go (components_after_resolving_one kept name) refl e (λ next is f. plain-all names next after are.1 (plain-after kept next name are.0 plain is) f)
  where
    go : (o : Option (List (List ℕ))) → components_after_resolving_one kept name ≡ o → option_and_then (λ now. components_after_resolving_all now names) o ≡ Some after
        → ((next : List (List ℕ)) → components_after_resolving_one kept name ≡ Some next → components_after_resolving_all next names ≡ Some after → ArePlain after) → ArePlain after
    go None is f more = absurd (cc f)
    go (Some next) is f more = more next is f

any-append : (p : List ℕ → Bool) (xs ys : List (List ℕ)) → list_any p xs ≡ false → list_any p ys ≡ false → list_any p (xs ++ ys) ≡ false
any-append p [] ys e f = f
any-append p (x ∷ xs) ys e f =
    let parts = or-false (p x) (list_any p xs) e in
    rw (parts.0, any-append p xs ys parts.1 f) refl

any-reverse : (p : List ℕ → Bool) (xs : List (List ℕ)) → list_any p xs ≡ false → list_any p (reverse xs) ≡ false
any-reverse p [] e = refl
any-reverse p (x ∷ xs) e =
    let parts = or-false (p x) (list_any p xs) e in
    ap (list_any p) (reverse-append (x ∷ []) xs) ∙ any-append p (reverse xs) (x ∷ []) (any-reverse p xs parts.1) (rw parts.0 refl)

root-of : (kept : List (List ℕ)) → ArePlain kept → is_absolute (path_from_reversed_components kept) ≡ false → IsNormalRootPath (path_from_reversed_components kept)
root-of [] plain e = record { normal = refl; plain = refl; spelled_is = refl }
root-of (name ∷ kept) plain e =
    let parts : components (path_from_reversed_components (name ∷ kept)) ≡ reverse (name ∷ kept) =
    ap (λ (l : List (List ℕ)). components (path_from_reversed_components l)) (sym (reverse-reverse (name ∷ kept))) ∙ components-spelled (reverse (name ∷ kept)) (AreNames-reverse (name ∷ kept) plain.names) in
    let dots : list_any is_dot_or_dot_dot (components (path_from_reversed_components (name ∷ kept))) ≡ false = ap (list_any is_dot_or_dot_dot) parts ∙ any-reverse is_dot_or_dot_dot (name ∷ kept) plain.dots in
    record {
      normal = rw (e, dots) refl;
      plain = (IsClosed-path_of name kept plain.names.0 plain.names.1).last;
      spelled_is = ap path_from_reversed_components (sym (reverse-reverse (name ∷ kept))) ∙ ap slash_joined_components (sym parts);
    }

-- a path that is made normal, and is not absolute, may be a traversal root
pub normal-root : (path root : List ℕ) → normalized path ≡ Some root → is_absolute root ≡ false → IsNormalRootPath root
normal-root path root e relative = go (components_after_resolving_all [] (components path)) refl e
  where
    at : (kept : List (List ℕ)) (absolute : Bool) → ArePlain kept → (if absolute then 47 ∷ path_from_reversed_components kept else path_from_reversed_components kept) ≡ root → IsNormalRootPath root
    at kept true plain f = absurd (let g : is_absolute (47 ∷ path_from_reversed_components kept) ≡ false = ap is_absolute f ∙ relative in cc g)
    at kept false plain f = subst IsNormalRootPath f (root-of kept plain (ap is_absolute f ∙ relative))

    go : (o : Option (List (List ℕ))) → components_after_resolving_all [] (components path) ≡ o
        → option_map (λ kept. if is_absolute path then 47 ∷ path_from_reversed_components kept else path_from_reversed_components kept) o ≡ Some root → IsNormalRootPath root
    go None is f = absurd (cc f)
    go (Some kept) is f = at kept (is_absolute path) (plain-all (components path) [] kept (AreNames-components path) (record { names = tt; dots = refl }) is) (some_is f)

-- ---- the traversal root, by what was asked for

pub root-outside : (given : WalkSetting) (t : Names) (explicit : Option (List ℕ)) (asked : List ℕ) → asked ≡ explicit_or_common_root_before_normalizing given t explicit → normalized asked ≡ None
    → find_traversal_root given t explicit ≡ outside asked
unfolding find_traversal_root
root-outside given t explicit asked is none =
    ap (λ (a : List ℕ). traversal_root_unless_outside given t a (normalized a)) (sym is) ∙ ap (traversal_root_unless_outside given t asked) none

pub root-absolute : (given : WalkSetting) (t : Names) (explicit : Option (List ℕ)) (asked path : List ℕ) → asked ≡ explicit_or_common_root_before_normalizing given t explicit → normalized asked ≡ Some path
    → is_absolute path ≡ true → find_traversal_root given t explicit ≡ outside asked
unfolding find_traversal_root
root-absolute given t explicit asked path is some absolute =
    ap (λ (a : List ℕ). traversal_root_unless_outside given t a (normalized a)) (sym is) ∙ ap (traversal_root_unless_outside given t asked) some ∙ rw absolute refl

pub root-normalized : (given : WalkSetting) (t : Names) (explicit : Option (List ℕ)) (asked path : List ℕ) → asked ≡ explicit_or_common_root_before_normalizing given t explicit → normalized asked ≡ Some path
    → is_absolute path ≡ false → traversal_root_of_normal_path given t path ≡ find_traversal_root given t explicit
unfolding find_traversal_root
root-normalized given t explicit asked path is some relative =
    sym (ap (λ (a : List ℕ). traversal_root_unless_outside given t a (normalized a)) (sym is) ∙ ap (traversal_root_unless_outside given t asked) some ∙ rw relative refl)

-- a traversal root is one that was made normal
pub root-shape : (given : WalkSetting) (t : Names) (explicit : Option (List ℕ)) (root : List ℕ) → find_traversal_root given t explicit ≡ rooted root → IsNormalRootPath root
unfolding find_traversal_root
root-shape given t explicit root e = by (normalized (explicit_or_common_root_before_normalizing given t explicit)) refl e
  where
    past : (full : List ℕ) (at : ℕ) (kind : Option Kind) (further : TraversalRootResult) → continue_past_component full at kind further ≡ rooted root → further ≡ rooted root
    past full at None further f = absurd (cc f)
    past full at (Some Symlink) further f = absurd (cc f)
    past full at (Some Untrackable) further f = f
    past full at (Some File) further f = f
    past full at (Some Directory) further f = f
    past full at (Some Repository) further f = f

    through : (path directory : List ℕ) (at : ℕ) (names : List (List ℕ)) → traversal_root_through_components given t (rooted path) directory at names ≡ rooted root → path ≡ root
    through path directory at [] f = cc f
    through path directory at (name ∷ names) f =
        through path (path_joined_with_slash directory name) (at + 1) names
        (past (root_joined_with_relative given.root (path_joined_with_slash directory name)) at (kind_of_node_at t (root_joined_with_relative given.root (path_joined_with_slash directory name)) false) (traversal_root_through_components given t (rooted path) (path_joined_with_slash directory name) (at + 1) names) f)

    inside : (path : List ℕ) (b : Bool) → normalized (explicit_or_common_root_before_normalizing given t explicit) ≡ Some path → is_absolute path ≡ b
        → (if b then outside (explicit_or_common_root_before_normalizing given t explicit) else traversal_root_of_normal_path given t path) ≡ rooted root → IsNormalRootPath root
    inside path true is absolute f = absurd (cc f)
    inside path false is relative f = subst IsNormalRootPath (through path [] 0 (components path) f) (normal-root (explicit_or_common_root_before_normalizing given t explicit) path is relative)

    by : (o : Option (List ℕ)) → normalized (explicit_or_common_root_before_normalizing given t explicit) ≡ o → traversal_root_unless_outside given t (explicit_or_common_root_before_normalizing given t explicit) o ≡ rooted root → IsNormalRootPath root
    by None is f = absurd (cc f)
    by (Some path) is f = inside path (is_absolute path) is refl f

-- ---- where a fault of the question for the common directory reads as none

only_top : (end : TraversalRootResult) (e : Error) → IsErrorOfRootResult (rooted []) e → IsErrorOfRootResult end e
only_top end errors.Interrupted h = absurd h
only_top end (errors.WorktreeRootIsFile at) h = absurd h
only_top end (errors.NormalizeRoot root) h = absurd (cc h)
only_top end (errors.SymlinkInRoot whole worktree_root index) h = absurd (cc h)
only_top end (errors.ExcludesAccess x) h = absurd h
only_top end (errors.ReadDir at why) h = absurd h
only_top end (errors.DirEntry at) h = absurd h
only_top end (errors.SymlinkMetadata full metadata.Absent) h = absurd (cc h)
only_top end (errors.SymlinkMetadata full metadata.Fault) h = tt
only_top end (errors.TooDeep at) h = absurd h
only_top end errors.OutOfMemory h = tt

module _ (given : WalkSetting) (t : Names) (explicit : Option (List ℕ)) (asked : List ℕ) (is : (asked ≡ explicit_or_common_root_before_normalizing given t explicit) ⊎ (asked ≡ [])) where
  pub ends-outside : normalized asked ≡ None → find_traversal_root given t explicit ≡ outside asked
  ends-outside none = by is
    where
      by : (asked ≡ explicit_or_common_root_before_normalizing given t explicit) ⊎ (asked ≡ []) → find_traversal_root given t explicit ≡ outside asked
      by (inl same) = root-outside given t explicit asked same none
      by (inr top) = absurd (let f : normalized [] ≡ None = ap normalized (sym top) ∙ none in cc f)

  pub ends-absolute : (path : List ℕ) → normalized asked ≡ Some path → is_absolute path ≡ true → find_traversal_root given t explicit ≡ outside asked
  ends-absolute path some absolute = by is
    where
      by : (asked ≡ explicit_or_common_root_before_normalizing given t explicit) ⊎ (asked ≡ []) → find_traversal_root given t explicit ≡ outside asked
      by (inl same) = root-absolute given t explicit asked path same some absolute
      by (inr top) =
          let f : normalized [] ≡ Some path = ap normalized (sym top) ∙ some in
          absurd (let g : is_absolute [] ≡ true = ap is_absolute (some_is f) ∙ absolute in cc g)

  pub ends-through : (path : List ℕ) (e : Error) → normalized asked ≡ Some path → is_absolute path ≡ false → IsErrorOfRootResult (traversal_root_of_normal_path given t path) e → IsErrorOfRootResult (find_traversal_root given t explicit) e
  ends-through path e some relative h = by is
    where
      by : (asked ≡ explicit_or_common_root_before_normalizing given t explicit) ⊎ (asked ≡ []) → IsErrorOfRootResult (find_traversal_root given t explicit) e
      by (inl same) = subst (λ (end : TraversalRootResult). IsErrorOfRootResult end e) (root-normalized given t explicit asked path same some relative) h
      by (inr top) =
          let f : normalized [] ≡ Some path = ap normalized (sym top) ∙ some in
          only_top (find_traversal_root given t explicit) e (subst (λ (p : List ℕ). IsErrorOfRootResult (traversal_root_of_normal_path given t p) e) (sym (some_is f)) h)

  -- and what is walked is the traversal root, or the worktree root after a fault
  pub root-or-top : (path : List ℕ) → normalized asked ≡ Some path → is_absolute path ≡ false → traversal_root_of_normal_path given t path ≡ rooted path → (find_traversal_root given t explicit ≡ rooted path) ⊎ (path ≡ [])
  root-or-top path some relative through = by is
    where
      by : (asked ≡ explicit_or_common_root_before_normalizing given t explicit) ⊎ (asked ≡ []) → (find_traversal_root given t explicit ≡ rooted path) ⊎ (path ≡ [])
      by (inl same) = inl (sym (root-normalized given t explicit asked path same some relative) ∙ through)
      by (inr top) = let f : normalized [] ≡ Some path = ap normalized (sym top) ∙ some in inr (sym (some_is f))
