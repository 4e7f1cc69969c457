-- A tree with more directories.
use Rattle.std.specs.Prelude.{◌≡◌, ◌⊎◌, ◌||◌, ℕ, option_map, if◌then◌else◌, Bool, true, false, List, [], ◌∷◌, ◌++◌, reverse, Option, Some, None}
use Rattle.std.proofs.Common.{inl, inr, refl, sym, ap, ◌∙◌, subst}
use Rattle.gitbase_core.specs.Path.{components, path_joined_with_slash}
use Rattle.gitbase_core.proofs.Names as gitbase
use Rattle.worktree_fs.specs.ByNames.{descendant_by_names}
use Rattle.worktree_fs.specs.MadeAndRemoved.{DirectoryMadeAtPath, NodeRemovedAtPath}
use Rattle.worktree_fs.specs.Naming.{IsValidEntryName}
use Rattle.worktree_fs.specs.Outlines.{node_without_children}
use Rattle.worktree_fs.specs.Paths.{IsSinglePathComponent, root_joined_with_relative, is_dot_or_dot_dot, slash_joined_components}
use Rattle.worktree_fs.specs.Last.{LastNameWithNode, last_name_of_resolution}
use Rattle.worktree_fs.specs.Tree.{Names, Node, PathResolution, reached, missing, nowhere, endless, directory, none, look, lookup_result_of_resolution, resolution_of_path, found, is_utf8_without_nul, is_dot, is_dot_dot, resolve_components_within_links}
use Rattle.worktree_fs.proofs.Trees.Changed.{makes-directory, made-stays}
use Rattle.worktree_fs.proofs.Routes.Follow.{look-follow}
use Rattle.worktree_fs.proofs.Routes.FullPaths.{closed, full_path-joined}
use Rattle.worktree_fs.proofs.Routes.Join.{last-joined}
use Rattle.worktree_fs.proofs.Paths.Spelled.{AreNames-reverse, name_from, spelled-snoc}
use Rattle.worktree_fs.proofs.Paths.TextPieces.{AreParts, IsPart, name-from_part, parts-components}
use Rattle.worktree_stack.specs.Checkout.{LeadsToDirectory}
use Rattle.worktree_stack.specs.ChecksOut.{AreDirectoriesBelowRoot}
use Rattle.worktree_stack.specs.GoesOn.{IsDeepestDirectoryEmpty, KeepsDirectoriesAndNewNodesAreDirectories}
use Rattle.worktree_stack.proofs.CheckOut.Plain.{components-behind}

abbrev pub node_of_last : Option LastNameWithNode → Option Node
node_of_last None = None
node_of_last (Some last) = last.node

abbrev name_of_last : Option LastNameWithNode → List ℕ
name_of_last None = []
name_of_last (Some last) = last.name

same-none : (o : Option Node) → None ≡ option_map node_without_children o → o ≡ None
same-none None e = refl
same-none (Some node) e = absurd (cc e)

pub later-refl : (t : Names) → KeepsDirectoriesAndNewNodesAreDirectories t t
later-refl t = record { stays = λ path names inner e. (inner, e); holds = λ names inner e. (inner, e); grows = λ names none. inl none }

pub later-then : (a b c : Names) → KeepsDirectoriesAndNewNodesAreDirectories a b → KeepsDirectoriesAndNewNodesAreDirectories b c → KeepsDirectoriesAndNewNodesAreDirectories a c
later-then a b c first second =
    record {
      stays = λ path names inner e. let x = first.stays path names inner e in second.stays path names x.0 x.1;
      holds = λ names inner e. let x = first.holds names inner e in second.holds names x.0 x.1;
      grows = λ names none. elim (first.grows names none) [
        | inl still ↦ second.grows names still
        | inr (more, there) ↦ inr (second.holds names more there)
      ];
    }

pub later-made : {path : List ℕ} {before now : Names} → DirectoryMadeAtPath path before now → KeepsDirectoriesAndNewNodesAreDirectories before now
later-made {path} {before} {now} made =
    record {
      stays = λ q names inner e. makes-directory made q false names inner e;
      holds = λ names inner e. made-stays made names inner e;
      grows = λ names nothing. elim (made.apart names) [
        | inl is ↦ inr (none, ap (λ (l : List (List ℕ)). descendant_by_names (reverse l) (Some (directory now))) is ∙ made.there)
        | inr e ↦ inl (same-none (descendant_by_names (reverse names) (Some (directory now))) (sym (ap (option_map node_without_children) nothing) ∙ e))
      ];
    }

pub there-later : (root : List ℕ) (t t1 : Names) (directories : List (List (List ℕ))) → KeepsDirectoriesAndNewNodesAreDirectories t t1 → AreDirectoriesBelowRoot root t directories → AreDirectoriesBelowRoot root t1 directories
there-later root t t1 [] later are = tt
there-later root t t1 ([] ∷ directories) later are = (tt, there-later root t t1 directories later are.1)
there-later root t t1 ((name ∷ names) ∷ directories) later are =
    let x = later.stays (root_joined_with_relative root (slash_joined_components (name ∷ names))) are.0.0 are.0.1 are.0.2 in
    ((are.0.0, x.0, x.1), there-later root t t1 directories later are.1)

-- ---- paths below a root

pub snoc-front : (names : List (List ℕ)) (name : List ℕ) → gitbase.AreNames (names ++ name ∷ []) → gitbase.AreNames names × gitbase.IsName name
snoc-front [] name are = (tt, are.0)
snoc-front (n ∷ names) name are = let x = snoc-front names name are.1 in ((are.0, x.0), x.1)

pub full-below : (root : List ℕ) (names : List (List ℕ)) (name : List ℕ) → gitbase.AreNames names → gitbase.IsName name
    → root_joined_with_relative root (slash_joined_components (names ++ name ∷ [])) ≡ path_joined_with_slash (root_joined_with_relative root (slash_joined_components names)) name
full-below root names name are is =
    ap (root_joined_with_relative root) (spelled-snoc names name) ∙ sym (full_path-joined root (slash_joined_components names) name (closed (reverse names) (AreNames-reverse names are)) is)

pub components-joined : (path name : List ℕ) → IsSinglePathComponent name → components (path_joined_with_slash path name) ≡ components path ++ name ∷ []
components-joined path name is = components-behind path name ∙ ap (λ (l : List (List ℕ)). components path ++ l) is

-- a name in a directory that is there may stand there, where its path is a text and it is neither `.` nor `..`
name-of-text : (above name : List ℕ) → is_utf8_without_nul (path_joined_with_slash above name) ≡ true → IsSinglePathComponent name → is_dot_or_dot_dot name ≡ false → IsValidEntryName name
name-of-text above name text component dots =
    let parts = parts-components (path_joined_with_slash above name) text in
    let split : components (path_joined_with_slash above name) ≡ components above ++ name ∷ [] = components-joined above name component in
    let part = last-part (components above) name (subst AreParts split parts) in
    let apart = neither (is_dot name) (is_dot_dot name) dots in
    name-from_part name part apart.0 apart.1
  where
    last-part : (front : List (List ℕ)) (name : List ℕ) → AreParts (front ++ name ∷ []) → IsPart name
    last-part [] name are = are.0
    last-part (n ∷ front) name are = last-part front name are.1

    neither : (a b : Bool) → (a || b) ≡ false → (a ≡ false) × (b ≡ false)
    neither false false e = (refl, refl)
    neither false true e = absurd (cc e)
    neither true b e = absurd (cc e)

pub nothing-last : (at : PathResolution) (name : List ℕ) → last_name_of_resolution at ≡ Some (record { name = name; node = None }) → (below : List (List ℕ)) × (at ≡ missing (name ∷ below) [])
nothing-last (reached [] node) name e = absurd (cc e)
nothing-last (reached (n ∷ below) node) name e = absurd (cc (ap node_of_last e))
nothing-last (missing [] rest) name e = absurd (cc e)
nothing-last (missing (n ∷ below) []) name e = (below, ap (λ (l : List ℕ). missing (l ∷ below) []) (ap name_of_last e))
nothing-last (missing (n ∷ below) (piece ∷ rest)) name e = absurd (cc e)
nothing-last nowhere name e = absurd (cc e)
nothing-last endless name e = absurd (cc e)

text-or-nowhere : (t : Names) (path : List ℕ) (follow : Bool) → (resolution_of_path t path follow ≡ nowhere) ⊎ (is_utf8_without_nul path ≡ true)
unfolding resolution_of_path
text-or-nowhere t path follow = go (is_utf8_without_nul path) refl
  where
    go : (b : Bool) → is_utf8_without_nul path ≡ b → ((if b then resolve_components_within_links 32 follow (record { here = t; above = [] }) (components path) else nowhere) ≡ nowhere) ⊎ (is_utf8_without_nul path ≡ true)
    go true e = inr e
    go false e = inl refl

-- in a directory without names nothing has a name
pub in-fresh : (root : List ℕ) (t : Names) (names : List (List ℕ)) (name : List ℕ) → IsDeepestDirectoryEmpty root t (Some names) → gitbase.AreNames names → IsSinglePathComponent name → is_dot_or_dot_dot name ≡ false
    → (resolution_of_path t (root_joined_with_relative root (slash_joined_components (names ++ name ∷ []))) false ≡ nowhere) ⊎ ((below : List (List ℕ)) × (resolution_of_path t (root_joined_with_relative root (slash_joined_components (names ++ name ∷ []))) false ≡ missing (name ∷ below) []))
in-fresh root t [] name fresh are component dots = absurd fresh
in-fresh root t (n ∷ names) name fresh are component dots =
    let above : List ℕ = root_joined_with_relative root (slash_joined_components (n ∷ names)) in
    let is : root_joined_with_relative root (slash_joined_components ((n ∷ names) ++ name ∷ [])) ≡ path_joined_with_slash above name = full-below root (n ∷ names) name are (name_from name component) in
    subst (λ p. (resolution_of_path t p false ≡ nowhere) ⊎ ((below : List (List ℕ)) × (resolution_of_path t p false ≡ missing (name ∷ below) []))) (sym is)
    (elim (text-or-nowhere t (path_joined_with_slash above name) false) [
      | inl lost ↦ inl lost
      | inr text ↦
          (let named : IsValidEntryName name = name-of-text above name text component dots in
          let there : look t above true ≡ found (directory none) = look-follow none t above (ap lookup_result_of_resolution fresh.1) in
          inr (nothing-last (resolution_of_path t (path_joined_with_slash above name) false) name (last-joined none name named t above there)))
    ])

abbrev pub Lost : Names → List ℕ → Type 0
Lost t path = (resolution_of_path t path false ≡ nowhere) ⊎ ((n : List (List ℕ)) × (rest : List (List ℕ)) × (resolution_of_path t path false ≡ missing n rest))

pub lost-leads : (t : Names) (path : List ℕ) → Lost t path → LeadsToDirectory t path → ⊥
lost-leads t path (inl e) leads = clash e leads.2
  where
    clash : resolution_of_path t path false ≡ nowhere → resolution_of_path t path false ≡ reached leads.0 (directory leads.1) → ⊥
    clash a b = cc
lost-leads t path (inr (n, rest, e)) leads = clash e leads.2
  where
    clash : resolution_of_path t path false ≡ missing n rest → resolution_of_path t path false ≡ reached leads.0 (directory leads.1) → ⊥
    clash a b = cc

pub lost-removed : (t mid : Names) (path : List ℕ) → Lost t path → NodeRemovedAtPath path t mid → ⊥
lost-removed t mid path (inl e) removed = clash e removed.was
  where
    clash : resolution_of_path t path false ≡ nowhere → resolution_of_path t path false ≡ reached removed.names removed.node → ⊥
    clash a b = cc
lost-removed t mid path (inr (n, rest, e)) removed = clash e removed.was
  where
    clash : resolution_of_path t path false ≡ missing n rest → resolution_of_path t path false ≡ reached removed.names removed.node → ⊥
    clash a b = cc
