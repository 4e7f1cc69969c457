-- Where a resolution came to, by names alone: a node that is reached is at the end of its names, a missing name is
-- missing in a directory that is there, and a node that was removed is gone.
use Rattle.std.proofs.Common.{◌≡◌, ℕ, zero, suc, Bool, true, false, List, [], ◌∷◌, ◌++◌, Option, Some, None, refl, not, ◌||◌, if◌then◌else◌, subst, map, reverse, ap, sym, ◌∙◌}
use Rattle.std.specs.Str.{bytes_eq}
use Rattle.std.specs.List.{AllByRecursion, IsDistinct}
use mathlib.Core.List.{reverse-cons}
use Rattle.gitbase_core.specs.Path.{components, is_absolute}
use Rattle.worktree_fs.specs.Tree.{Names, Node, ParentWithChildName, DirectoryWithParents, LinkResolver, PathResolution, reached, missing, nowhere, reversed_names_from_root, resolution_of_path, file, link, directory, other, none, named, entry_names_in_order, child_by_name, is_utf8_without_nul, is_dot, is_dot_dot, resolve_components_by_link_resolver, link_resolver_with_limit, resolve_components_within_links, directory_where_target_begins, parent_directory_or_root, root_above_directory, child_directory_with_parents, is_nil, is_directory, resolve_from_node, resolver_continuations}
use Rattle.worktree_fs.specs.Naming.{IsValidTree, AreValidTrees}
use Rattle.worktree_fs.specs.Grow.{entries_of_node_if_directory, add_error_at_names}
use Rattle.worktree_fs.specs.Changes.{node_without_descendant, entries_without_descendant, entries_after_remove_node}
use Rattle.worktree_fs.specs.ByNames.{descendant_by_names, ResolutionAgreesWithNames}
use Rattle.std.proofs.lemmas.Slice.Eq.{bytes_eq-Decides}
use Rattle.worktree_fs.proofs.Lists.Distinct.{flips}

-- each directory of a place is in the one above it, and the last one above is the root
abbrev pub IsChain : Names → Names → List ParentWithChildName → Type 0
IsChain root here [] = here ≡ root
IsChain root here (level ∷ above) = (child_by_name level.holds level.name ≡ Some (directory here)) × IsChain root level.holds above

abbrev pub IsPlaced : Names → DirectoryWithParents → Type 0
IsPlaced root place = IsChain root place.here place.above

abbrev pub names_above : List ParentWithChildName → List (List ℕ)
names_above above = map (λ (level : ParentWithChildName). level.name) above

node_at-push : (names : List (List ℕ)) (name : List ℕ) (o : Option Node) → descendant_by_names (names ++ name ∷ []) o ≡ child_by_name (entries_of_node_if_directory (descendant_by_names names o)) name
node_at-push [] name o = refl
node_at-push (n ∷ names) name o = node_at-push names name (child_by_name (entries_of_node_if_directory o) n)

pub node_at-last : (names : List (List ℕ)) (name : List ℕ) (root here : Names) → descendant_by_names (reverse names) (Some (directory root)) ≡ Some (directory here) → descendant_by_names (reverse (name ∷ names)) (Some (directory root)) ≡ child_by_name here name
node_at-last names name root here e =
    ap (λ (l : List (List ℕ)). descendant_by_names l (Some (directory root))) (reverse-cons name names)
    ∙ node_at-push (reverse names) name (Some (directory root))
    ∙ ap (λ (o : Option Node). child_by_name (entries_of_node_if_directory o) name) e

pub chain-node : (root here : Names) (above : List ParentWithChildName) → IsChain root here above → descendant_by_names (reverse (names_above above)) (Some (directory root)) ≡ Some (directory here)
chain-node root here [] chain = ap (λ (n : Names). Some (directory n)) (sym chain)
chain-node root here (level ∷ above) chain = node_at-last (names_above above) level.name root level.holds (chain-node root level.holds above chain.1) ∙ chain.0

pub chain-child : (root here : Names) (above : List ParentWithChildName) (name : List ℕ) (o : Option Node) → IsChain root here above → child_by_name here name ≡ o → descendant_by_names (reverse (name ∷ names_above above)) (Some (directory root)) ≡ o
chain-child root here above name o chain e = node_at-last (names_above above) name root here (chain-node root here above chain) ∙ e

pub in_parent : (root here : Names) (above : List ParentWithChildName) → IsChain root here above → IsPlaced root (parent_directory_or_root (record { here = here; above = above }))
in_parent root here [] chain = chain
in_parent root here (level ∷ above) chain = chain.1

in_root : (root here : Names) (above : List ParentWithChildName) → IsChain root here above → IsPlaced root (root_above_directory (record { here = here; above = above }))
in_root root here [] chain = chain
in_root root here (level ∷ above) chain = in_root root level.holds above chain.1

in_start : (root : Names) (place : DirectoryWithParents) (target : List ℕ) → IsPlaced root place → IsPlaced root (directory_where_target_begins place target)
in_start root place target is = go (is_absolute target)
  where
    go : (b : Bool) → IsPlaced root (if b then root_above_directory place else place)
    go true = in_root root place.here place.above is
    go false = is

abbrev Keeps : Names → LinkResolver → Type 0
Keeps root jump = (place : DirectoryWithParents) (target : List ℕ) (rest : List (List ℕ)) → IsPlaced root place → ResolutionAgreesWithNames root (jump place target rest)

abbrev Goes : Names → Bool → LinkResolver → List (List ℕ) → Type 0
Goes root follow jump rest = (place : DirectoryWithParents) → IsPlaced root place → ResolutionAgreesWithNames root (resolve_components_by_link_resolver jump follow place rest)

through : (root : Names) (follow : Bool) (jump : LinkResolver) → Keeps root jump → (rest : List (List ℕ)) → Goes root follow jump rest → (place : DirectoryWithParents) → IsPlaced root place → (name : List ℕ) (o : Option Node) → child_by_name place.here name ≡ o
    → ResolutionAgreesWithNames root (resolve_from_node (resolver_continuations (λ p. resolve_components_by_link_resolver jump follow p rest) jump follow) place rest name o)
through root follow jump keeps rest goes place is name None e = (place.here, chain-node root place.here place.above is, e)
through root follow jump keeps rest goes place is name (Some (directory names)) e = goes (child_directory_with_parents place name names) (e, is)
through root follow jump keeps rest goes place is name (Some (link target)) e = go (follow || not (is_nil rest))
  where
    go : (b : Bool) → ResolutionAgreesWithNames root (if b then jump place target rest else reached (name ∷ reversed_names_from_root place) (link target))
    go true = keeps place target rest is
    go false = chain-child root place.here place.above name (Some (link target)) is e
through root follow jump keeps rest goes place is name (Some (file bytes)) e = go (is_nil rest)
  where
    go : (b : Bool) → ResolutionAgreesWithNames root (if b then reached (name ∷ reversed_names_from_root place) (file bytes) else nowhere)
    go true = chain-child root place.here place.above name (Some (file bytes)) is e
    go false = tt
through root follow jump keeps rest goes place is name (Some other) e = go (is_nil rest)
  where
    go : (b : Bool) → ResolutionAgreesWithNames root (if b then reached (name ∷ reversed_names_from_root place) other else nowhere)
    go true = chain-child root place.here place.above name (Some other) is e
    go false = tt

steps : (root : Names) (follow : Bool) (jump : LinkResolver) → Keeps root jump → (rest : List (List ℕ)) → Goes root follow jump rest
steps root follow jump keeps [] place is = chain-node root place.here place.above is
steps root follow jump keeps (component ∷ rest) place is = go (steps root follow jump keeps rest) (is_dot component) (is_dot_dot component)
  where
    go : Goes root follow jump rest → (dot up : Bool)
        → ResolutionAgreesWithNames root (if dot then resolve_components_by_link_resolver jump follow place rest else if up then resolve_components_by_link_resolver jump follow (parent_directory_or_root place) rest else resolve_from_node (resolver_continuations (λ p. resolve_components_by_link_resolver jump follow p rest) jump follow) place rest component (child_by_name place.here component))
    go goes true up = goes place is
    go goes false true = goes (parent_directory_or_root place) (in_parent root place.here place.above is)
    go goes false false = through root follow jump keeps rest goes place is component (child_by_name place.here component) refl

all_jumps : (root : Names) (links : ℕ) (follow : Bool) → Keeps root (link_resolver_with_limit links follow)
unfolding link_resolver_with_limit
all_jumps root zero follow place target rest is = tt
all_jumps root (suc links) follow place target rest is = go (all_jumps root links follow) (is_utf8_without_nul target)
  where
    go : Keeps root (link_resolver_with_limit links follow) → (b : Bool) → ResolutionAgreesWithNames root (if b then resolve_components_by_link_resolver (link_resolver_with_limit links follow) follow (directory_where_target_begins place target) (components target ++ rest) else nowhere)
    go keeps true = steps root follow (link_resolver_with_limit links follow) keeps (components target ++ rest) (directory_where_target_begins place target) (in_start root place target is)
    go keeps false = tt

-- a resolution leads by names, without links
pub spot-by_names : (root : Names) (path : List ℕ) (follow : Bool) → ResolutionAgreesWithNames root (resolution_of_path root path follow)
unfolding resolution_of_path
spot-by_names root path follow = go (is_utf8_without_nul path)
  where
    go : (b : Bool) → ResolutionAgreesWithNames root (if b then resolve_components_within_links 32 follow (record { here = root; above = [] }) (components path) else nowhere)
    go true = steps root follow (link_resolver_with_limit 32 follow) (all_jumps root 32 follow) (components path) (record { here = root; above = [] }) refl
    go false = tt

-- no names lead from nothing
pub from_none : (names : List (List ℕ)) → descendant_by_names names None ≡ None
from_none [] = refl
from_none (n ∷ names) = from_none names

nothing : (names : List (List ℕ)) (here : Names) → descendant_by_names names None ≡ Some (directory here) → ⊥
nothing names here e = clash (sym (from_none names) ∙ e)
  where
    clash : None ≡ Some (directory here) → ⊥
    clash q = cc

-- where the last name of a path is missing, nothing stands in the way of a node there: its parent is a directory
obstacle-push : (names : List (List ℕ)) (name : List ℕ) (o : Option Node) (here : Names) → descendant_by_names names o ≡ Some (directory here) → child_by_name here name ≡ None → add_error_at_names (names ++ name ∷ []) o ≡ None
obstacle-push [] name (Some (directory names)) here e free = ap (add_error_at_names []) (ap (λ (n : Option Node). child_by_name (entries_of_node_if_directory n) name) e ∙ free)
obstacle-push [] name (Some (file bytes)) here e free = absurd (cc e)
obstacle-push [] name (Some (link target)) here e free = absurd (cc e)
obstacle-push [] name (Some other) here e free = absurd (cc e)
obstacle-push [] name None here e free = refl
obstacle-push (n ∷ names) name None here e free = refl
obstacle-push (n ∷ names) name (Some (directory inner)) here e free = obstacle-push names name (child_by_name inner n) here e free
obstacle-push (n ∷ names) name (Some (file bytes)) here e free = absurd (nothing names here e)
obstacle-push (n ∷ names) name (Some (link target)) here e free = absurd (nothing names here e)
obstacle-push (n ∷ names) name (Some other) here e free = absurd (nothing names here e)

pub missing-free : (root : Names) (path : List ℕ) (follow : Bool) (name : List ℕ) (below rest : List (List ℕ)) → resolution_of_path root path follow ≡ missing (name ∷ below) rest → add_error_at_names (reverse (name ∷ below)) (Some (directory root)) ≡ None
missing-free root path follow name below rest e =
    let found = subst (ResolutionAgreesWithNames root) e (spot-by_names root path follow) in
    ap (λ (l : List (List ℕ)). add_error_at_names l (Some (directory root))) (reverse-cons name below)
    ∙ obstacle-push (reverse below) name (Some (directory root)) found.0 found.1 found.2

-- what was removed is gone
pub bytes_same : (a b : List ℕ) → bytes_eq a b ≡ true → a ≡ b
bytes_same a b e = (bytes_eq-Decides a b).0 e

child-absent : (name : List ℕ) (names : Names) → AllByRecursion (λ y. bytes_eq name y ≡ false) (entry_names_in_order names) → child_by_name names name ≡ None
child-absent name none all = refl
child-absent name (named n node rest) all = go (bytes_eq n name) (flips n name ∙ all.0) (child-absent name rest all.1)
  where
    go : (b : Bool) → b ≡ false → child_by_name rest name ≡ None → (if b then Some node else child_by_name rest name) ≡ None
    go true e ih = absurd (cc e)
    go false e ih = ih

gone_last : (name n : List ℕ) (node : Node) (more : Names) (b : Bool) → bytes_eq n name ≡ b → AllByRecursion (λ y. bytes_eq n y ≡ false) (entry_names_in_order more) → child_by_name (entries_without_descendant name [] more) name ≡ None
    → child_by_name (if b then more else named n node (entries_without_descendant name [] more)) name ≡ None
gone_last name n node more true e once ih = child-absent name more (subst (λ (x : List ℕ). AllByRecursion (λ y. bytes_eq x y ≡ false) (entry_names_in_order more)) (bytes_same n name e) once)
gone_last name n node more false e once ih = ap (λ b. if b then Some node else child_by_name (entries_without_descendant name [] more) name) e ∙ ih

gone_more : (name n next : List ℕ) (rest : List (List ℕ)) (node : Node) (more : Names) (b : Bool) → bytes_eq n name ≡ b
    → descendant_by_names (next ∷ rest) (child_by_name (entries_without_descendant name (next ∷ rest) more) name) ≡ None → descendant_by_names (next ∷ rest) (Some (node_without_descendant (next ∷ rest) node)) ≡ None
    → descendant_by_names (next ∷ rest) (child_by_name (if b then named n (node_without_descendant (next ∷ rest) node) more else named n node (entries_without_descendant name (next ∷ rest) more)) name) ≡ None
gone_more name n next rest node more true e ih below = ap (λ b. descendant_by_names (next ∷ rest) (if b then Some (node_without_descendant (next ∷ rest) node) else child_by_name more name)) e ∙ below
gone_more name n next rest node more false e ih below = ap (λ b. descendant_by_names (next ∷ rest) (if b then Some node else child_by_name (entries_without_descendant name (next ∷ rest) more) name)) e ∙ ih

mutual
  unfolding IsDistinct

  pub gone : (name : List ℕ) (rest : List (List ℕ)) (names : Names) → IsDistinct bytes_eq (entry_names_in_order names) → AreValidTrees names → descendant_by_names rest (child_by_name (entries_without_descendant name rest names) name) ≡ None
  gone name rest none distinct trees = from_none rest
  gone name [] (named n node more) distinct trees = gone_last name n node more (bytes_eq n name) refl distinct.0 (gone name [] more distinct.1 trees.1)
  gone name (next ∷ rest) (named n node more) distinct trees =
      gone_more name n next rest node more (bytes_eq n name) refl (gone name (next ∷ rest) more distinct.1 trees.1) (gone_below next rest node trees.0)

  gone_below : (name : List ℕ) (rest : List (List ℕ)) (node : Node) → IsValidTree node → descendant_by_names (name ∷ rest) (Some (node_without_descendant (name ∷ rest) node)) ≡ None
  gone_below name rest (file bytes) tree = from_none rest
  gone_below name rest (link target) tree = from_none rest
  gone_below name rest (directory names) tree = gone name rest names tree.0.distinct tree.1
  gone_below name rest other tree = from_none rest

no_end : (names : List (List ℕ)) (name : List ℕ) → [] ≡ names ++ name ∷ [] → ⊥
no_end [] name e = cc
no_end (n ∷ names) name e = cc

-- a node that is answered as removed was at the end of its names, and no longer is
pub removed-gone : (root : Names) (path : List ℕ) (follow : Bool) (name : List ℕ) (below : List (List ℕ)) (node : Node) → IsValidTree (directory root) → resolution_of_path root path follow ≡ reached (name ∷ below) node → is_directory node ≡ false
    → (descendant_by_names (reverse (name ∷ below)) (Some (directory root)) ≡ Some node) × (descendant_by_names (reverse (name ∷ below)) (Some (directory (entries_after_remove_node root (resolution_of_path root path follow)))) ≡ None)
removed-gone root path follow name below node tree e leaf = (
  subst (ResolutionAgreesWithNames root) e (spot-by_names root path follow),
  ap (λ (at : PathResolution). descendant_by_names (reverse (name ∷ below)) (Some (directory (entries_after_remove_node root at)))) e
      ∙ ap (λ b. descendant_by_names (reverse (name ∷ below)) (Some (directory (if b then root else entries_of_node_if_directory (Some (node_without_descendant (reverse (name ∷ below)) (directory root))))))) leaf
      ∙ emptied (reverse (name ∷ below)) (reverse-cons name below),
)
  where
    emptied : (path : List (List ℕ)) → path ≡ reverse below ++ name ∷ [] → descendant_by_names path (Some (directory (entries_of_node_if_directory (Some (node_without_descendant path (directory root)))))) ≡ None
    emptied [] e = absurd (no_end (reverse below) name e)
    emptied (first ∷ rest) e = gone_below first rest (directory root) tree
