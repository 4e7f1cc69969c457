-- The directories above a path stay there where a directory is made in the place of a node that was removed.
use Rattle.std.specs.Prelude.{◌≡◌, ◌⊎◌, ℕ, zero, suc, Bool, true, false, List, [], ◌∷◌, ◌++◌, map, Option, Some, None, if◌then◌else◌}
use Rattle.std.proofs.Common.{inl, inr, refl, sym, ap, ◌∙◌, subst, append_assoc}
use Rattle.gitbase_core.specs.Path.{components}
use Rattle.gitbase_core.proofs.Names as gitbase
use Rattle.worktree_fs.specs.MadeAndRemoved.{DirectoryMadeAtPath, NodeRemovedAtPath}
use Rattle.worktree_fs.specs.Outlines.{resolution_without_children}
use Rattle.worktree_fs.specs.Paths.{all_prefixes_shortest_first, root_joined_with_relative, slash_joined_components}
use Rattle.worktree_fs.specs.Tree.{Names, Node, DirectoryWithParents, LinkResolver, PathResolution, reached, missing, nowhere, endless, file, link, directory, other, none, is_utf8_without_nul, is_dot, is_dot_dot, child_directory_with_parents, parent_directory_or_root, directory_where_target_begins, child_by_name, resolve_from_node, resolver_continuations, resolve_components_by_link_resolver, link_resolver_with_limit, resolve_components_within_links, resolution_of_path}
use Rattle.worktree_stack.specs.Checkout.{LeadsToDirectory}
use Rattle.worktree_stack.specs.ChecksOut.{AreDirectoriesBelowRoot, IsDirectoryBelowRoot}
use Rattle.worktree_stack.proofs.CheckOut.Plain.{components-full}

-- ---- a path that misses a name, and one that goes on behind it

-- where the first is missing, the second is, and misses more behind it
abbrev GoesOn : List (List ℕ) → PathResolution → PathResolution → Type 0
GoesOn more (missing names rest) at = at ≡ missing names (rest ++ more)
GoesOn more (reached names node) at = Unit {0}
GoesOn more nowhere at = Unit {0}
GoesOn more endless at = Unit {0}

abbrev top : Names → DirectoryWithParents
top t = record { here = t; above = [] }

module _ (more : List (List ℕ)) where
  abbrev Jumps : LinkResolver → Type 0
  Jumps jump = (place : DirectoryWithParents) (target : List ℕ) (cs : List (List ℕ)) → GoesOn more (jump place target cs) (jump place target (cs ++ more))

  of-three : (a b : Bool) (x y z x' y' z' : PathResolution) → GoesOn more x x' → GoesOn more y y' → GoesOn more z z' → GoesOn more (if a then x else if b then y else z) (if a then x' else if b then y' else z')
  of-three true b x y z x' y' z' p q r = p
  of-three false true x y z x' y' z' p q r = q
  of-three false false x y z x' y' z' p q r = r

  through : (jump : LinkResolver) → Jumps jump → (cs : List (List ℕ)) → ((place : DirectoryWithParents) → GoesOn more (resolve_components_by_link_resolver jump false place cs) (resolve_components_by_link_resolver jump false place (cs ++ more))) → (place : DirectoryWithParents) (n : List ℕ) (o : Option Node)
      → GoesOn more (resolve_from_node (resolver_continuations (λ p. resolve_components_by_link_resolver jump false p cs) jump false) place cs n o) (resolve_from_node (resolver_continuations (λ p. resolve_components_by_link_resolver jump false p (cs ++ more)) jump false) place (cs ++ more) n o)
  through jump jumps cs goes place n None = refl
  through jump jumps cs goes place n (Some (directory names)) = goes (child_directory_with_parents place n names)
  through jump jumps [] goes place n (Some (link target)) = tt
  through jump jumps (c ∷ cs) goes place n (Some (link target)) = jumps place target (c ∷ cs)
  through jump jumps [] goes place n (Some (file bytes)) = tt
  through jump jumps (c ∷ cs) goes place n (Some (file bytes)) = tt
  through jump jumps [] goes place n (Some other) = tt
  through jump jumps (c ∷ cs) goes place n (Some other) = tt

  steps : (jump : LinkResolver) → Jumps jump → (cs : List (List ℕ)) (place : DirectoryWithParents) → GoesOn more (resolve_components_by_link_resolver jump false place cs) (resolve_components_by_link_resolver jump false place (cs ++ more))
  steps jump jumps [] place = tt
  steps jump jumps (c ∷ cs) place =
      of-three (is_dot c) (is_dot_dot c) (resolve_components_by_link_resolver jump false place cs) (resolve_components_by_link_resolver jump false (parent_directory_or_root place) cs) _ (resolve_components_by_link_resolver jump false place (cs ++ more)) (resolve_components_by_link_resolver jump false (parent_directory_or_root place) (cs ++ more)) _
      (steps jump jumps cs place) (steps jump jumps cs (parent_directory_or_root place)) (through jump jumps cs (steps jump jumps cs) place c (child_by_name place.here c))

  all_jumps : (links : ℕ) → Jumps (link_resolver_with_limit links false)
  unfolding link_resolver_with_limit
  all_jumps zero place target cs = tt
  all_jumps (suc links) place target cs = go (is_utf8_without_nul target) (all_jumps links)
    where
      go : (b : Bool) → Jumps (link_resolver_with_limit links false)
          → GoesOn more (if b then resolve_components_by_link_resolver (link_resolver_with_limit links false) false (directory_where_target_begins place target) (components target ++ cs) else nowhere) (if b then resolve_components_by_link_resolver (link_resolver_with_limit links false) false (directory_where_target_begins place target) (components target ++ (cs ++ more)) else nowhere)
      go true jumps =
          subst (λ (l : List (List ℕ)). GoesOn more (resolve_components_by_link_resolver (link_resolver_with_limit links false) false (directory_where_target_begins place target) (components target ++ cs)) (resolve_components_by_link_resolver (link_resolver_with_limit links false) false (directory_where_target_begins place target) l)) (append_assoc (components target) cs more)
          (steps (link_resolver_with_limit links false) jumps (components target ++ cs) (directory_where_target_begins place target))
      go false jumps = tt

  goes-on : (t : Names) (path whole : List ℕ) → components whole ≡ components path ++ more → (names rest : List (List ℕ)) → resolution_of_path t path false ≡ missing names rest
      → (resolution_of_path t whole false ≡ missing names (rest ++ more)) ⊎ (resolution_of_path t whole false ≡ nowhere)
  unfolding resolution_of_path
  goes-on t path whole is names rest e = go (is_utf8_without_nul path) (is_utf8_without_nul whole) e
    where
      clash : nowhere ≡ missing names rest → ⊥
      clash e = cc e

      go : (a b : Bool) → (if a then resolve_components_within_links 32 false (top t) (components path) else nowhere) ≡ missing names rest
          → ((if b then resolve_components_within_links 32 false (top t) (components whole) else nowhere) ≡ missing names (rest ++ more)) ⊎ ((if b then resolve_components_within_links 32 false (top t) (components whole) else nowhere) ≡ nowhere)
      go a false e = inr refl
      go false true e = absurd (clash e)
      go true true e =
          inl (subst (λ (at : PathResolution). GoesOn more at (resolve_components_within_links 32 false (top t) (components whole))) e
          (subst (λ (l : List (List ℕ)). GoesOn more (resolve_components_within_links 32 false (top t) (components path)) (resolve_components_within_links 32 false (top t) l)) (sym is) (steps (link_resolver_with_limit 32 false) (all_jumps 32) (components path) (top t))))

-- ---- directories above a path

outline-leads : (at : PathResolution) (names : List (List ℕ)) → resolution_without_children at ≡ reached names (directory none) → (inner : Names) × (at ≡ reached names (directory inner))
outline-leads (reached n (file bytes)) names e = absurd (cc e)
outline-leads (reached n (link target)) names e = absurd (cc e)
outline-leads (reached n (directory inner)) names e = (inner, ap (λ (l : List (List ℕ)). reached l (directory inner)) (names-same e))
  where
    names-same : reached n (directory none) ≡ reached names (directory none) → n ≡ names
    names-same e = cc e
outline-leads (reached n other) names e = absurd (cc e)
outline-leads (missing n rest) names e = absurd (cc e)
outline-leads nowhere names e = absurd (cc e)
outline-leads endless names e = absurd (cc e)

nothing-behind : (rest more : List (List ℕ)) → [] ≡ rest ++ more → more ≡ []
nothing-behind [] more e = sym e
nothing-behind (n ∷ rest) more e = absurd (cc e)

-- a directory above a path is there where a node at that path was removed and a directory made there
above-stays : (t mid t1 : Names) (path whole : List ℕ) (more : List (List ℕ)) → NodeRemovedAtPath whole t mid → DirectoryMadeAtPath whole mid t1 → components whole ≡ components path ++ more → (more ≡ [] → ⊥)
    → LeadsToDirectory t path → LeadsToDirectory mid path
above-stays t mid t1 path whole more removed makes is some leads = elim (removed.alike path false) [
  | inl comes ↦ absurd (elim (goes-on more mid path whole is removed.names comes.rest comes.is_missing) [
    | inl e ↦ some (nothing-behind comes.rest more (rest-same comes.rest e))
    | inr e ↦ lost e
  ])
  | inr e ↦ (let x = outline-leads (resolution_of_path mid path false) leads.0 (e ∙ ap resolution_without_children leads.2) in (leads.0, x.0, x.1))
]
  where
    rest-same : (rest : List (List ℕ)) → resolution_of_path mid whole false ≡ missing removed.names (rest ++ more) → [] ≡ rest ++ more
    rest-same rest e = of (sym makes.was ∙ e)
      where
        of : missing makes.names [] ≡ missing removed.names (rest ++ more) → [] ≡ rest ++ more
        of e = cc e

    lost : resolution_of_path mid whole false ≡ nowhere → ⊥
    lost e = of (sym makes.was ∙ e)
      where
        of : missing makes.names [] ≡ nowhere → ⊥
        of e = cc e

-- all of these are fronts of some names
abbrev AreFronts : List (List ℕ) → List (List (List ℕ)) → Type 0
AreFronts names [] = Unit {0}
AreFronts names (d ∷ ds) = ((rest : List (List ℕ)) × (names ≡ d ++ rest)) × AreFronts names ds

fronts-below : (n : List ℕ) (names : List (List ℕ)) (ds : List (List (List ℕ))) → AreFronts names ds → AreFronts (n ∷ names) (map (λ (front : List (List ℕ)). n ∷ front) ds)
fronts-below n names [] are = tt
fronts-below n names (d ∷ ds) are = ((are.0.0, ap (λ (l : List (List ℕ)). n ∷ l) are.0.1), fronts-below n names ds are.1)

are-fronts : (names : List (List ℕ)) → AreFronts names (all_prefixes_shortest_first names)
are-fronts [] = (([], refl), tt)
are-fronts (n ∷ names) = ((n ∷ names, refl), fronts-below n names (all_prefixes_shortest_first names) (are-fronts names))

each-there : (root : List ℕ) (t mid : Names) (names : List (List ℕ)) (ds : List (List (List ℕ))) → AreFronts names ds → ((d rest : List (List ℕ)) → names ≡ d ++ rest → IsDirectoryBelowRoot root t d → IsDirectoryBelowRoot root mid d)
    → AreDirectoriesBelowRoot root t ds → AreDirectoriesBelowRoot root mid ds
each-there root t mid names [] are still there = tt
each-there root t mid names (d ∷ ds) are still there = (still d are.0.0 are.0.1 there.0, each-there root t mid names ds are.1 still there.1)

front-are : (a b : List (List ℕ)) → gitbase.AreNames (a ++ b) → gitbase.AreNames a
front-are [] b are = tt
front-are (n ∷ a) b are = (are.0, front-are a b are.1)

-- the directories above a directory that was made in the place of another node are still there
pub there-remade : (root : List ℕ) (t mid t1 : Names) (names : List (List ℕ)) (name : List ℕ) → gitbase.AreNames (names ++ name ∷ [])
    → NodeRemovedAtPath (root_joined_with_relative root (slash_joined_components (names ++ name ∷ []))) t mid → DirectoryMadeAtPath (root_joined_with_relative root (slash_joined_components (names ++ name ∷ []))) mid t1 → AreDirectoriesBelowRoot root t (all_prefixes_shortest_first names) → AreDirectoriesBelowRoot root mid (all_prefixes_shortest_first names)
there-remade root t mid t1 names name are removed makes there = each-there root t mid names (all_prefixes_shortest_first names) (are-fronts names) still there
  where
    whole : List ℕ
    whole = root_joined_with_relative root (slash_joined_components (names ++ name ∷ []))

    not-none : (rest : List (List ℕ)) → rest ++ name ∷ [] ≡ [] → ⊥
    not-none [] e = cc e
    not-none (r ∷ rest) e = cc e

    still : (d rest : List (List ℕ)) → names ≡ d ++ rest → IsDirectoryBelowRoot root t d → IsDirectoryBelowRoot root mid d
    still [] rest is leads = tt
    still (n ∷ d) rest is leads =
        let front : List (List ℕ) = n ∷ d in
        let split : names ++ name ∷ [] ≡ front ++ (rest ++ name ∷ []) = ap (λ (l : List (List ℕ)). l ++ name ∷ []) is ∙ append_assoc front rest (name ∷ []) in
        let are-front : gitbase.AreNames front = front-are front (rest ++ name ∷ []) (subst gitbase.AreNames split are) in
        above-stays t mid t1 (root_joined_with_relative root (slash_joined_components front)) whole (rest ++ name ∷ []) removed makes
        (components-full root (names ++ name ∷ []) are ∙ ap (λ (l : List (List ℕ)). components root ++ l) split ∙ sym (append_assoc (components root) front (rest ++ name ∷ []))
        ∙ ap (λ (l : List (List ℕ)). l ++ (rest ++ name ∷ [])) (sym (components-full root front are-front)))
        (not-none rest) leads
