-- The last name of a path where that alone is missing: it is the last component of the path.
use Rattle.std.specs.Prelude.{◌≡◌, ℕ, zero, suc, Bool, true, false, not, ◌||◌, List, [], ◌∷◌, ◌++◌, Option, Some, None, if◌then◌else◌}
use Rattle.std.proofs.Common.{refl, sym, ap, ◌∙◌, subst, append_assoc}
use Rattle.gitbase_core.specs.Path.{components}
use Rattle.worktree_fs.specs.Changes.{reversed_names_last_one_composed}
use Rattle.worktree_fs.specs.Composed.{nfc_if_composing}
use Rattle.worktree_fs.specs.Paths.{is_dot_or_dot_dot}
use Rattle.worktree_fs.specs.Tree.{Names, Node, DirectoryWithParents, LinkResolver, PathResolution, reached, missing, nowhere, endless, file, link, directory, other, is_utf8_without_nul, is_dot, is_dot_dot, is_nil, reversed_names_from_root, child_directory_with_parents, parent_directory_or_root, directory_where_target_begins, child_by_name, resolve_from_node, resolver_continuations, resolve_components_by_link_resolver, link_resolver_with_limit, resolve_components_within_links, resolution_of_path}
use Rattle.worktree_stack.specs.Checkout.{IsLastNameComposed}

-- where a path misses its last name alone, it is this one
abbrev EndsIn : List ℕ → PathResolution → Type 0
EndsIn name (reached names node) = Unit {0}
EndsIn name (missing [] []) = ⊥
EndsIn name (missing (n ∷ below) []) = n ≡ name
EndsIn name (missing names (piece ∷ rest)) = Unit {0}
EndsIn name nowhere = Unit {0}
EndsIn name endless = Unit {0}

abbrev top : Names → DirectoryWithParents
top t = record { here = t; above = [] }

module _ (name : List ℕ) where
  abbrev Jumps : LinkResolver → Type 0
  Jumps jump = (place : DirectoryWithParents) (target : List ℕ) (cs : List (List ℕ)) → EndsIn name (jump place target (cs ++ name ∷ []))

  either : (b : Bool) (x y : PathResolution) → EndsIn name x → EndsIn name y → EndsIn name (if b then x else y)
  either true x y first second = first
  either false x y first second = second

  of-three : (a b : Bool) (x y z : PathResolution) → EndsIn name x → EndsIn name y → EndsIn name z → EndsIn name (if a then x else if b then y else z)
  of-three true b x y z p q r = p
  of-three false true x y z p q r = q
  of-three false false x y z p q r = r

  more-left : (n : List ℕ) (below cs : List (List ℕ)) → EndsIn name (missing (n ∷ below) (cs ++ name ∷ []))
  more-left n below [] = tt
  more-left n below (c ∷ cs) = tt

  through : (jump : LinkResolver) → Jumps jump → (cs : List (List ℕ)) → ((place : DirectoryWithParents) → EndsIn name (resolve_components_by_link_resolver jump false place (cs ++ name ∷ []))) → (place : DirectoryWithParents) (n : List ℕ) (o : Option Node)
      → EndsIn name (resolve_from_node (resolver_continuations (λ p. resolve_components_by_link_resolver jump false p (cs ++ name ∷ [])) jump false) place (cs ++ name ∷ []) n o)
  through jump jumps cs goes place n None = more-left n (reversed_names_from_root place) cs
  through jump jumps cs goes place n (Some (directory names)) = goes (child_directory_with_parents place n names)
  through jump jumps cs goes place n (Some (link target)) = either (false || not (is_nil (cs ++ name ∷ []))) _ _ (jumps place target cs) tt
  through jump jumps cs goes place n (Some (file bytes)) = either (is_nil (cs ++ name ∷ [])) (reached (n ∷ reversed_names_from_root place) (file bytes)) nowhere tt tt
  through jump jumps cs goes place n (Some other) = either (is_nil (cs ++ name ∷ [])) (reached (n ∷ reversed_names_from_root place) other) nowhere tt tt

  lastly : (jump : LinkResolver) (place : DirectoryWithParents) (o : Option Node) → EndsIn name (resolve_from_node (resolver_continuations (λ p. resolve_components_by_link_resolver jump false p []) jump false) place [] name o)
  lastly jump place None = refl
  lastly jump place (Some (directory names)) = tt
  lastly jump place (Some (link target)) = tt
  lastly jump place (Some (file bytes)) = tt
  lastly jump place (Some other) = tt

  of-last : (a b : Bool) → (a || b) ≡ false → (x y z : PathResolution) → EndsIn name z → EndsIn name (if a then x else if b then y else z)
  of-last false false e x y z p = p
  of-last false true e x y z p = absurd (cc e)
  of-last true b e x y z p = absurd (cc e)

  steps : is_dot_or_dot_dot name ≡ false → (jump : LinkResolver) → Jumps jump → (cs : List (List ℕ)) (place : DirectoryWithParents) → EndsIn name (resolve_components_by_link_resolver jump false place (cs ++ name ∷ []))
  steps dots jump jumps [] place =
      of-last (is_dot name) (is_dot_dot name) dots (resolve_components_by_link_resolver jump false place []) (resolve_components_by_link_resolver jump false (parent_directory_or_root place) []) _ (lastly jump place (child_by_name place.here name))
  steps dots jump jumps (c ∷ cs) place =
      of-three (is_dot c) (is_dot_dot c) (resolve_components_by_link_resolver jump false place (cs ++ name ∷ [])) (resolve_components_by_link_resolver jump false (parent_directory_or_root place) (cs ++ name ∷ [])) _
      (steps dots jump jumps cs place) (steps dots jump jumps cs (parent_directory_or_root place)) (through jump jumps cs (steps dots jump jumps cs) place c (child_by_name place.here c))

  all_jumps : is_dot_or_dot_dot name ≡ false → (links : ℕ) → Jumps (link_resolver_with_limit links false)
  unfolding link_resolver_with_limit
  all_jumps dots zero place target cs = tt
  all_jumps dots (suc links) place target cs = go (is_utf8_without_nul target) (all_jumps dots links)
    where
      go : (b : Bool) → Jumps (link_resolver_with_limit links false) → EndsIn name (if b then resolve_components_by_link_resolver (link_resolver_with_limit links false) false (directory_where_target_begins place target) (components target ++ (cs ++ name ∷ [])) else nowhere)
      go true jumps =
          subst (λ (l : List (List ℕ)). EndsIn name (resolve_components_by_link_resolver (link_resolver_with_limit links false) false (directory_where_target_begins place target) l)) (append_assoc (components target) cs (name ∷ []))
          (steps dots (link_resolver_with_limit links false) jumps (components target ++ cs) (directory_where_target_begins place target))
      go false jumps = tt

  last-missing : is_dot_or_dot_dot name ≡ false → (t : Names) (path : List ℕ) (front : List (List ℕ)) → components path ≡ front ++ name ∷ [] → EndsIn name (resolution_of_path t path false)
  unfolding resolution_of_path
  last-missing dots t path front is = go (is_utf8_without_nul path)
    where
      go : (b : Bool) → EndsIn name (if b then resolve_components_within_links 32 false (top t) (components path) else nowhere)
      go true = subst (λ (l : List (List ℕ)). EndsIn name (resolve_components_within_links 32 false (top t) l)) (sym is) (steps dots (link_resolver_with_limit 32 false) (all_jumps dots 32) front (top t))
      go false = tt

-- a path whose last name is composed keeps it
pub keeps-last : (composes : Bool) (path : List ℕ) (front : List (List ℕ)) (name : List ℕ) → is_dot_or_dot_dot name ≡ false → components path ≡ front ++ name ∷ [] → nfc_if_composing composes name ≡ name → IsLastNameComposed composes path
keeps-last composes path front name dots is kept t names missed = go names (subst (EndsIn name) missed (last-missing name dots t path front is))
  where
    go : (names : List (List ℕ)) → EndsIn name (missing names []) → reversed_names_last_one_composed composes names ≡ names
    go [] never = absurd never
    go (n ∷ below) e = ap (λ (x : List ℕ). x ∷ below) (ap (nfc_if_composing composes) e ∙ kept ∙ sym e)
