-- What holds of a directory, and with it of all nodes in it, holds of what a path leads to.
use Rattle.std.proofs.Common.{◌≡◌, ℕ, zero, suc, Bool, true, false, not, ◌||◌, List, [], ◌∷◌, ◌++◌, map, Option, Some, None, refl, subst, if◌then◌else◌}
use Rattle.std.specs.List.{AllByRecursion}
use Rattle.gitbase_core.specs.Path.{components}
use Rattle.worktree_fs.specs.Tree.{Names, Node, ParentWithChildName, DirectoryWithParents, LinkResolver, PathResolution, reached, missing, nowhere, endless, lookup_result_of_resolution, look, found, file, link, directory, other, child_by_name, is_directory, is_utf8_without_nul, is_dot, is_dot_dot, is_absolute, is_nil, reversed_names_from_root, child_directory_with_parents, parent_directory_or_root, root_above_directory, directory_where_target_begins, resolve_from_node, resolver_continuations, resolve_components_by_link_resolver, link_resolver_with_limit, resolve_components_within_links, resolution_of_path}

module _ (P : Node → Type 0) (Q : List ℕ → Type 0) (leaf : (node : Node) → is_directory node ≡ false → P node) (inside : (names : Names) (name : List ℕ) (node : Node) → P (directory names) → child_by_name names name ≡ Some node → P node × Q name) where
  abbrev AllAbove : List ParentWithChildName → Type 0
  AllAbove [] = Unit {0}
  AllAbove (level ∷ above) = P (directory level.holds) × Q level.name × AllAbove above

  -- of a place: the directories of it, and the names between them
  abbrev IsPlace : DirectoryWithParents → Type 0
  IsPlace place = P (directory place.here) × AllAbove place.above

  in_trail : (above : List ParentWithChildName) → AllAbove above → AllByRecursion Q (map (λ (level : ParentWithChildName). level.name) above)
  in_trail [] all = tt
  in_trail (level ∷ above) all = (all.1, in_trail above all.2)

  in_parent : (here : Names) (above : List ParentWithChildName) → P (directory here) → AllAbove above → IsPlace (parent_directory_or_root (record { here = here; above = above }))
  in_parent here [] is all = (is, tt)
  in_parent here (level ∷ above) is all = (all.0, all.2)

  in_root : (here : Names) (above : List ParentWithChildName) → P (directory here) → AllAbove above → IsPlace (root_above_directory (record { here = here; above = above }))
  in_root here [] is all = (is, tt)
  in_root here (level ∷ above) is all = in_root level.holds above all.0 all.2

  in_start : (place : DirectoryWithParents) (target : List ℕ) → IsPlace place → IsPlace (directory_where_target_begins place target)
  in_start place target is = go (is_absolute target)
    where
      go : (b : Bool) → IsPlace (if b then root_above_directory place else place)
      go true = in_root place.here place.above is.0 is.1
      go false = is

  -- of where a path leads: the node, or the names before the one that is missing
  abbrev pub Leads : PathResolution → Type 0
  Leads (reached names node) = P node
  Leads (missing [] rest) = Unit {0}
  Leads (missing (name ∷ below) rest) = AllByRecursion Q below
  Leads nowhere = Unit {0}
  Leads endless = Unit {0}

  either : (b : Bool) (x y : PathResolution) → Leads x → Leads y → Leads (if b then x else y)
  either true x y first second = first
  either false x y first second = second

  abbrev Jumps : LinkResolver → Type 0
  Jumps jump = (place : DirectoryWithParents) (target : List ℕ) (rest : List (List ℕ)) → IsPlace place → Leads (jump place target rest)

  abbrev Goes : Bool → LinkResolver → List (List ℕ) → Type 0
  Goes follow jump rest = (place : DirectoryWithParents) → IsPlace place → Leads (resolve_components_by_link_resolver jump follow place rest)

  through : (follow : Bool) (jump : LinkResolver) → Jumps jump → (rest : List (List ℕ)) → Goes follow jump rest → (place : DirectoryWithParents) → IsPlace place → (name : List ℕ) (o : Option Node)
      → ((n : Node) → o ≡ Some n → P n × Q name) → Leads (resolve_from_node (resolver_continuations (λ p. resolve_components_by_link_resolver jump follow p rest) jump follow) place rest name o)
  through follow jump jumps rest goes place is name None of = in_trail place.above is.1
  through follow jump jumps rest goes place is name (Some (directory names)) of = let both = of (directory names) refl in goes (child_directory_with_parents place name names) (both.0, (is.0, both.1, is.1))
  through follow jump jumps rest goes place is name (Some (link target)) of = either (follow || not (is_nil rest)) _ _ (jumps place target rest is) (leaf (link target) refl)
  through follow jump jumps rest goes place is name (Some (file bytes)) of = either (is_nil rest) (reached (name ∷ reversed_names_from_root place) (file bytes)) nowhere (leaf (file bytes) refl) tt
  through follow jump jumps rest goes place is name (Some other) of = either (is_nil rest) (reached (name ∷ reversed_names_from_root place) other) nowhere (leaf other refl) tt

  steps : (follow : Bool) (jump : LinkResolver) → Jumps jump → (rest : List (List ℕ)) → Goes follow jump rest
  steps follow jump jumps [] place is = is.0
  steps follow jump jumps (component ∷ rest) place is = go (steps follow jump jumps rest) (is_dot component) (is_dot_dot component)
    where
      go : Goes follow jump rest → (dot up : Bool)
          → Leads (if dot then resolve_components_by_link_resolver jump follow place rest else if up then resolve_components_by_link_resolver jump follow (parent_directory_or_root place) rest else resolve_from_node (resolver_continuations (λ p. resolve_components_by_link_resolver jump follow p rest) jump follow) place rest component (child_by_name place.here component))
      go goes true up = goes place is
      go goes false true = goes (parent_directory_or_root place) (in_parent place.here place.above is.0 is.1)
      go goes false false = through follow jump jumps rest goes place is component (child_by_name place.here component) (λ n there. inside place.here component n is.0 there)

  all_jumps : (links : ℕ) (follow : Bool) → Jumps (link_resolver_with_limit links follow)
  unfolding link_resolver_with_limit
  all_jumps zero follow place target rest is = tt
  all_jumps (suc links) follow place target rest is = go (all_jumps links follow) (is_utf8_without_nul target)
    where
      go : Jumps (link_resolver_with_limit links follow) → (b : Bool) → Leads (if b then resolve_components_by_link_resolver (link_resolver_with_limit links follow) follow (directory_where_target_begins place target) (components target ++ rest) else nowhere)
      go jumps true = steps follow (link_resolver_with_limit links follow) jumps (components target ++ rest) (directory_where_target_begins place target) (in_start place target is)
      go jumps false = tt

  pub leads-spot : (root : Names) (path : List ℕ) (follow : Bool) → P (directory root) → Leads (resolution_of_path root path follow)
  unfolding resolution_of_path
  leads-spot root path follow is = go (is_utf8_without_nul path)
    where
      go : (b : Bool) → Leads (if b then resolve_components_within_links 32 follow (record { here = root; above = [] }) (components path) else nowhere)
      go true = steps follow (link_resolver_with_limit 32 follow) (all_jumps 32 follow) (components path) (record { here = root; above = [] }) (is, tt)
      go false = tt

  at_end : (at : PathResolution) (node : Node) → Leads at → lookup_result_of_resolution at ≡ found node → P node
  at_end (reached names end) node is e = subst P (cc e) is
  at_end (missing names rest) node is e = absurd (cc e)
  at_end nowhere node is e = absurd (cc e)
  at_end endless node is e = absurd (cc e)

  pub leads-look : (root : Names) (path : List ℕ) (follow : Bool) (node : Node) → P (directory root) → look root path follow ≡ found node → P node
  leads-look root path follow node is e = at_end (resolution_of_path root path follow) node (leads-spot root path follow is) e
