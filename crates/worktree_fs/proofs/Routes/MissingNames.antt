-- The name that a path misses may stand in a directory: it is a component of the path, or of a link's target on its way, and
-- neither `.` nor `..`; the names before it are those of the tree.
use Rattle.std.proofs.Common.{◌≡◌, ℕ, zero, suc, Bool, true, false, not, ◌||◌, List, [], ◌∷◌, ◌++◌, Option, Some, None, reverse, if◌then◌else◌, refl, sym, ap, subst, ◌∙◌}
use Rattle.std.specs.List.{AllByRecursion}
use mathlib.Core.List.{reverse-cons}
use Rattle.gitbase_core.specs.Path.{components}
use Rattle.worktree_fs.specs.Tree.{Node, Names, DirectoryWithParents, LinkResolver, PathResolution, reached, missing, nowhere, endless, file, link, directory, other, child_by_name, is_utf8_without_nul, is_dot, is_dot_dot, is_nil, reversed_names_from_root, child_directory_with_parents, parent_directory_or_root, directory_where_target_begins, resolve_from_node, resolver_continuations, resolve_components_by_link_resolver, link_resolver_with_limit, resolve_components_within_links, resolution_of_path}
use Rattle.worktree_fs.specs.Naming.{IsValidEntryName, IsValidTree}
use Rattle.worktree_fs.specs.Paths.{IsSinglePathComponent}
use Rattle.worktree_fs.specs.Changes.{slash_before_each_reversed_name}
use Rattle.worktree_fs.specs.ByNames.{descendant_by_names}
use Rattle.worktree_fs.proofs.Paths.NameParts.{pieces-name}
use Rattle.worktree_fs.proofs.Trees.Regrown.{nothing_there}
use Rattle.worktree_fs.proofs.Trees.Subtree.{IsTree-child, named_is}
use Rattle.worktree_fs.proofs.Paths.TextPieces.{AreParts, parts-components, name-from_part}
use Rattle.worktree_fs.proofs.Paths.Texts.{pieces-join}

abbrev pub AreComponents : List (List ℕ) → Type 0
AreComponents [] = Unit {0}
AreComponents (name ∷ names) = IsSinglePathComponent name × AreComponents names

AreParts-append : (front back : List (List ℕ)) → AreParts front → AreParts back → AreParts (front ++ back)
AreParts-append [] back are more = more
AreParts-append (name ∷ front) back are more = (are.0, AreParts-append front back are.1 more)

-- the last name of those that are missing may stand in a directory
abbrev pub MissesName : PathResolution → Type 0
MissesName (reached names node) = Unit {0}
MissesName (missing [] rest) = Unit {0}
MissesName (missing (name ∷ below) rest) = IsValidEntryName name
MissesName nowhere = Unit {0}
MissesName endless = Unit {0}

either : (b : Bool) (x y : PathResolution) → MissesName x → MissesName y → MissesName (if b then x else y)
either true x y first second = first
either false x y first second = second

abbrev Jumps : LinkResolver → Type 0
Jumps jump = (place : DirectoryWithParents) (target : List ℕ) (rest : List (List ℕ)) → AreParts rest → MissesName (jump place target rest)

through : (follow : Bool) (jump : LinkResolver) → Jumps jump → (rest : List (List ℕ)) → AreParts rest → ((place : DirectoryWithParents) → MissesName (resolve_components_by_link_resolver jump follow place rest)) → (place : DirectoryWithParents) (name : List ℕ) → IsValidEntryName name → (o : Option Node)
    → MissesName (resolve_from_node (resolver_continuations (λ s. resolve_components_by_link_resolver jump follow s rest) jump follow) place rest name o)
through follow jump jumps rest are goes place name is None = is
through follow jump jumps rest are goes place name is (Some (directory names)) = goes (child_directory_with_parents place name names)
through follow jump jumps rest are goes place name is (Some (link target)) = either (follow || not (is_nil rest)) _ _ (jumps place target rest are) tt
through follow jump jumps rest are goes place name is (Some (file bytes)) = either (is_nil rest) (reached (name ∷ reversed_names_from_root place) (file bytes)) nowhere tt tt
through follow jump jumps rest are goes place name is (Some other) = either (is_nil rest) (reached (name ∷ reversed_names_from_root place) other) nowhere tt tt

steps : (follow : Bool) (jump : LinkResolver) → Jumps jump → (rest : List (List ℕ)) → AreParts rest → (place : DirectoryWithParents) → MissesName (resolve_components_by_link_resolver jump follow place rest)
steps follow jump jumps [] are place = tt
steps follow jump jumps (component ∷ rest) are place = go (is_dot component) (is_dot_dot component) refl refl (steps follow jump jumps rest are.1)
  where
    go : (dot up : Bool) → is_dot component ≡ dot → is_dot_dot component ≡ up → ((place : DirectoryWithParents) → MissesName (resolve_components_by_link_resolver jump follow place rest))
        → MissesName (if dot then resolve_components_by_link_resolver jump follow place rest else if up then resolve_components_by_link_resolver jump follow (parent_directory_or_root place) rest else resolve_from_node (resolver_continuations (λ s. resolve_components_by_link_resolver jump follow s rest) jump follow) place rest component (child_by_name place.here component))
    go true up d u goes = goes place
    go false true d u goes = goes (parent_directory_or_root place)
    go false false d u goes = through follow jump jumps rest are.1 goes place component (name-from_part component are.0 d u) (child_by_name place.here component)

all_jumps : (links : ℕ) (follow : Bool) → Jumps (link_resolver_with_limit links follow)
unfolding link_resolver_with_limit
all_jumps zero follow place target rest are = tt
all_jumps (suc links) follow place target rest are = go (is_utf8_without_nul target) refl (all_jumps links follow)
  where
    go : (b : Bool) → is_utf8_without_nul target ≡ b → Jumps (link_resolver_with_limit links follow) → MissesName (if b then resolve_components_by_link_resolver (link_resolver_with_limit links follow) follow (directory_where_target_begins place target) (components target ++ rest) else nowhere)
    go true text jumps = steps follow (link_resolver_with_limit links follow) jumps (components target ++ rest) (AreParts-append (components target) rest (parts-components target text) are) (directory_where_target_begins place target)
    go false text jumps = tt

pub missed-name : (root : Names) (path : List ℕ) (follow : Bool) → MissesName (resolution_of_path root path follow)
unfolding resolution_of_path
missed-name root path follow = go (is_utf8_without_nul path) refl
  where
    go : (b : Bool) → is_utf8_without_nul path ≡ b → MissesName (if b then resolve_components_within_links 32 follow (record { here = root; above = [] }) (components path) else nowhere)
    go true text = steps follow (link_resolver_with_limit 32 follow) (all_jumps 32 follow) (components path) (parts-components path text) (record { here = root; above = [] })
    go false text = tt

-- names that lead from a node of a tree to another
pub real : (names : List (List ℕ)) (from end : Node) → IsValidTree from → descendant_by_names names (Some from) ≡ Some end → AllByRecursion IsValidEntryName names
real [] from end tree e = tt
real (n ∷ names) (directory inner) end tree e = go (child_by_name inner n) refl e (real names)
  where
    go : (o : Option Node) → child_by_name inner n ≡ o → descendant_by_names names o ≡ Some end → ((from end : Node) → IsValidTree from → descendant_by_names names (Some from) ≡ Some end → AllByRecursion IsValidEntryName names) → AllByRecursion IsValidEntryName (n ∷ names)
    go None is e ih = absurd (nothing_there names end e)
    go (Some next) is e ih = (named_is inner n next tree.0.each is, ih next end (IsTree-child inner n next tree.1 is) e)
real (n ∷ names) (file bytes) end tree e = absurd (nothing_there names end e)
real (n ∷ names) (link target) end tree e = absurd (nothing_there names end e)
real (n ∷ names) other end tree e = absurd (nothing_there names end e)

all_first : (names : List (List ℕ)) (name : List ℕ) → AllByRecursion IsValidEntryName (names ++ name ∷ []) → AllByRecursion IsValidEntryName names × IsValidEntryName name
all_first [] name all = (tt, all.0)
all_first (n ∷ names) name all = let both = all_first names name all.1 in ((all.0, both.0), both.1)

all_reversed : (names : List (List ℕ)) → AllByRecursion IsValidEntryName (reverse names) → AllByRecursion IsValidEntryName names
all_reversed [] all = tt
all_reversed (name ∷ names) all =
    let both = all_first (reverse names) name (subst (AllByRecursion IsValidEntryName) (reverse-cons name names) all) in
    (both.1, all_reversed names both.0)

-- names that lead to a node of a tree, the last one first
pub real-names : (root : Names) (names : List (List ℕ)) (end : Node) → IsValidTree (directory root) → descendant_by_names (reverse names) (Some (directory root)) ≡ Some end → AllByRecursion IsValidEntryName names
real-names root names end tree e = all_reversed names (real (reverse names) (directory root) end tree e)

pub from_all : (names : List (List ℕ)) → AllByRecursion IsValidEntryName names → AreComponents names
from_all [] all = tt
from_all (name ∷ names) all = (pieces-name name all.0, from_all names all.1)

-- the path that names spell comes apart into them
pub components-slashed : (names : List (List ℕ)) → AreComponents names → components (slash_before_each_reversed_name names) ≡ reverse names
components-slashed [] are = refl
components-slashed (name ∷ below) are =
    pieces-join (slash_before_each_reversed_name below) name
    ∙ ap (λ (l : List (List ℕ)). l ++ components name) (components-slashed below are.1)
    ∙ ap (λ (l : List (List ℕ)). reverse below ++ l) are.0
    ∙ sym (reverse-cons name below)
