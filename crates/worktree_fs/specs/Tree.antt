-- A tree of nodes, and what a path leads to in it.
use Rattle.std.specs.Prelude.{ℕ, zero, suc, Bool, true, false, not, ◌&&◌, ◌||◌, ◌==◌, if◌then◌else◌, List, [], ◌∷◌, ◌++◌, map, Option, Some, None}
use Rattle.std.specs.Str.{bytes_eq, is_utf8}
use Rattle.std.specs.List.{list_any}
use Rattle.gitbase_core.specs.Path.{components}
pub use Rattle.gitbase_core.specs.Path.{is_empty, is_absolute}

mutual
  -- a file with its bytes, a link with its target, a directory with its named nodes, or a node of another kind
  pub data Node : Type 0 where
    file : List ℕ → Node
    link : List ℕ → Node
    directory : Names → Node
    other : Node

  -- what is in a directory: nodes, each under its name
  pub data Names : Type 0 where
    none : Names
    named : List ℕ → Node → Names → Names

-- whether a node is a directory
abbrev pub is_directory : Node → Bool
is_directory (file bytes) = false
is_directory (link target) = false
is_directory (directory names) = true
is_directory other = false

-- the names in a directory, in the order in which the tree has them
abbrev pub entry_names_in_order : Names → List (List ℕ)
entry_names_in_order none = []
entry_names_in_order (named name node rest) = name ∷ entry_names_in_order rest

-- the node of a name
abbrev pub child_by_name : Names → List ℕ → Option Node
child_by_name none name = None
child_by_name (named n node rest) name = if bytes_eq n name then Some node else child_by_name rest name

-- whether the bytes can be a path or a link's target: UTF-8 without a NUL
unfoldable pub is_utf8_without_nul : List ℕ → Bool
is_utf8_without_nul bytes = is_utf8 bytes && not (list_any (λ b. b == 0) bytes)

-- `.`, the directory itself
abbrev pub is_dot : List ℕ → Bool
is_dot component = bytes_eq component (46 ∷ [])

-- `..`, the directory above
abbrev pub is_dot_dot : List ℕ → Bool
is_dot_dot component = bytes_eq component (46 ∷ 46 ∷ [])

-- a directory above, and the name in it by which one goes down
pub record ParentWithChildName : Type 0 where
  pub holds : Names
  pub name : List ℕ

-- where a resolution stands: the directory reached, and the directories above it up to the root, the nearest first
pub record DirectoryWithParents : Type 0 where
  pub here : Names
  pub above : List ParentWithChildName

-- the names that lead from the root to the place, the last one first
abbrev pub reversed_names_from_root : DirectoryWithParents → List (List ℕ)
reversed_names_from_root place = map (λ (level : ParentWithChildName). level.name) place.above

-- the directory above; the root is above itself
abbrev pub parent_directory_or_root : DirectoryWithParents → DirectoryWithParents
parent_directory_or_root place = up place.here place.above
  where
    up : Names → List ParentWithChildName → DirectoryWithParents
    up here [] = record { here = here; above = [] }
    up here (level ∷ above) = record { here = level.holds; above = above }

-- a directory of the place, by its name
abbrev pub child_directory_with_parents : DirectoryWithParents → List ℕ → Names → DirectoryWithParents
child_directory_with_parents place name names = record { here = names; above = record { holds = place.here; name = name } ∷ place.above }

abbrev root_above_levels : Names → List ParentWithChildName → DirectoryWithParents
root_above_levels here [] = record { here = here; above = [] }
root_above_levels here (level ∷ above) = root_above_levels level.holds above

abbrev pub root_above_directory : DirectoryWithParents → DirectoryWithParents
root_above_directory place = root_above_levels place.here place.above

-- where a link's target begins: at the root, or in the directory that holds the link
abbrev pub directory_where_target_begins : DirectoryWithParents → List ℕ → DirectoryWithParents
directory_where_target_begins place target = if is_absolute target then root_above_directory place else place

-- whether nothing is in the list
abbrev pub is_nil : {A : Type 0} → List A → Bool
is_nil [] = true
is_nil (x ∷ xs) = false

-- where a path leads: to a node, with the names that lead there from the root without links, the last one first; to a
-- name that its directory does not have, with the names that would lead there and the components behind it; nowhere; or on
-- without an end within the links that may be followed
pub data PathResolution : Type 0 where
  reached : List (List ℕ) → Node → PathResolution
  missing : List (List ℕ) → List (List ℕ) → PathResolution
  nowhere : PathResolution
  endless : PathResolution

-- what lies behind a link of a place, with its target, and components to go on from there
abbrev pub LinkResolver : Type 0
LinkResolver = DirectoryWithParents → List ℕ → List (List ℕ) → PathResolution

-- How a resolution goes on: in a directory, behind a link, and whether a last link is followed.
pub record ResolverContinuations : Type 0 where
  pub go : DirectoryWithParents → PathResolution
  pub jump : LinkResolver
  pub follow : Bool

abbrev pub resolver_continuations : (DirectoryWithParents → PathResolution) → LinkResolver → Bool → ResolverContinuations
resolver_continuations go jump follow = record { go = go; jump = jump; follow = follow }

-- from the node of a component on: into a directory, behind a link unless it is the last and not to be followed,
-- and no further than a file or another node
abbrev pub resolve_from_node : ResolverContinuations → DirectoryWithParents → List (List ℕ) → List ℕ → Option Node → PathResolution
resolve_from_node on place rest name None = missing (name ∷ reversed_names_from_root place) rest
resolve_from_node on place rest name (Some (directory names)) = on.go (child_directory_with_parents place name names)
resolve_from_node on place rest name (Some (link target)) = if on.follow || not (is_nil rest) then on.jump place target rest else reached (name ∷ reversed_names_from_root place) (link target)
resolve_from_node on place rest name (Some (file bytes)) = if is_nil rest then reached (name ∷ reversed_names_from_root place) (file bytes) else nowhere
resolve_from_node on place rest name (Some other) = if is_nil rest then reached (name ∷ reversed_names_from_root place) other else nowhere

-- along the components from a place, by `jump` behind each link on the way
abbrev pub resolve_components_by_link_resolver : LinkResolver → Bool → DirectoryWithParents → List (List ℕ) → PathResolution
resolve_components_by_link_resolver jump follow place [] = reached (reversed_names_from_root place) (directory place.here)
resolve_components_by_link_resolver jump follow place (component ∷ rest) =
    if is_dot component then resolve_components_by_link_resolver jump follow place rest
    else if is_dot_dot component then resolve_components_by_link_resolver jump follow (parent_directory_or_root place) rest
    else resolve_from_node (resolver_continuations (λ p. resolve_components_by_link_resolver jump follow p rest) jump follow) place rest component (child_by_name place.here component)

-- behind a link, where so many links may still be followed; a target that is no text leads nowhere
unfoldable pub link_resolver_with_limit : ℕ → Bool → LinkResolver
link_resolver_with_limit zero follow place target rest = endless
link_resolver_with_limit (suc links) follow place target rest =
    if is_utf8_without_nul target then resolve_components_by_link_resolver (link_resolver_with_limit links follow) follow (directory_where_target_begins place target) (components target ++ rest) else nowhere

abbrev pub resolve_components_within_links : ℕ → Bool → DirectoryWithParents → List (List ℕ) → PathResolution
resolve_components_within_links links follow place rest = resolve_components_by_link_resolver (link_resolver_with_limit links follow) follow place rest

-- Where a path leads from the root. Links on the way are followed, a last one where `follow` says so, and at most
-- 32 of them. A path that is no text leads nowhere.
unfoldable pub resolution_of_path : Names → List ℕ → Bool → PathResolution
resolution_of_path root path follow = if is_utf8_without_nul path then resolve_components_within_links 32 follow (record { here = root; above = [] }) (components path) else nowhere

-- what a path leads to: a node, nothing, or no end within the links that may be followed
pub data LookupResult : Type 0 where
  found : Node → LookupResult
  absent : LookupResult
  too_many_links : LookupResult

abbrev pub lookup_result_of_resolution : PathResolution → LookupResult
lookup_result_of_resolution (reached names node) = found node
lookup_result_of_resolution (missing names rest) = absent
lookup_result_of_resolution nowhere = absent
lookup_result_of_resolution endless = too_many_links

abbrev pub look : Names → List ℕ → Bool → LookupResult
look root path follow = lookup_result_of_resolution (resolution_of_path root path follow)
