-- Ways down a tree: in each directory the position of the name by which the way goes on.
use Rattle.std.specs.Prelude.{◌≡◌, ℕ, Bool, zero, suc, false, ◌<◌, List, [], ◌∷◌, length, max, Some}
use Rattle.worktree_fs.specs.Tree.{Node, Names, ParentWithChildName, DirectoryWithParents, PathResolution, reached, nowhere, endless, missing, is_nil, is_directory, file, link, directory, other, none, named, entry_names_in_order, reversed_names_from_root, resolve_components_within_links}
use Rattle.worktree_fs.specs.Grow.{entries_of_node_if_directory}
use Rattle.worktree_fs.specs.Stored.{named_nodes_of_entries, AreSortedValidEntries}
use Rattle.worktree_fs.specs.declared.memory.stored.Entry.{Entry}
use Rattle.worktree_fs.specs.declared.memory.trace.End.{End}
use Rattle.worktree_fs.specs.declared.memory.trace.End.TheVariants as ends
use Rattle.worktree_fs.specs.declared.memory.trace.Turn.{Turn}
use Rattle.worktree_fs.specs.declared.memory.trace.Turn.TheVariants as turns

-- the name at a position of a directory
abbrev pub name_at_position : Names → ℕ → List ℕ
name_at_position none i = []
name_at_position (named name node rest) zero = name
name_at_position (named name node rest) (suc i) = name_at_position rest i

-- the node at a position of a directory
abbrev pub node_at_position : Names → ℕ → Node
node_at_position none i = other
node_at_position (named name node rest) zero = node
node_at_position (named name node rest) (suc i) = node_at_position rest i

-- what is in the directory at a position
abbrev pub child_entries_at_position : Names → ℕ → Names
child_entries_at_position names i = entries_of_node_if_directory (Some (node_at_position names i))

-- there is a directory at each position of the way
abbrev pub IsWayOfDirectories : List ℕ → Names → Type 0
IsWayOfDirectories [] here = Unit {0}
IsWayOfDirectories (i ∷ way) here = (node_at_position here i ≡ directory (child_entries_at_position here i)) × IsWayOfDirectories way (child_entries_at_position here i)

-- what is in the directory to which a way leads
abbrev pub entries_reached_by_way : List ℕ → Names → Names
entries_reached_by_way [] here = here
entries_reached_by_way (i ∷ way) here = entries_reached_by_way way (child_entries_at_position here i)

-- the directories through which a way leads, the last one first, before those that are there
abbrev pub parents_along_way : List ℕ → Names → List ParentWithChildName → List ParentWithChildName
parents_along_way [] here above = above
parents_along_way (i ∷ way) here above = parents_along_way way (child_entries_at_position here i) (record { holds = here; name = name_at_position here i } ∷ above)

-- the place to which a way leads from the root
abbrev pub directory_reached_by_way : Names → List ℕ → DirectoryWithParents
directory_reached_by_way root way = record { here = entries_reached_by_way way root; above = parents_along_way way root [] }

-- the names of a way and of a position behind it, the first of them in the root
abbrev pub names_along_way_and_position : List ℕ → ℕ → Names → List (List ℕ)
names_along_way_and_position [] i here = name_at_position here i ∷ []
names_along_way_and_position (j ∷ way) i here = name_at_position here j ∷ names_along_way_and_position way i (child_entries_at_position here j)

-- through how many directories a way may lead at most
abbrev mutual
  pub directory_depth_of_node : Node → ℕ
  directory_depth_of_node (file bytes) = 0
  directory_depth_of_node (link target) = 0
  directory_depth_of_node (directory names) = suc (directory_depth_of_entries names)
  directory_depth_of_node other = 0

  pub directory_depth_of_entries : Names → ℕ
  directory_depth_of_entries none = 0
  directory_depth_of_entries (named name node rest) = max (directory_depth_of_node node) (directory_depth_of_entries rest)

-- a directory stands at the end of a way
pub record IsDirectoryAtEndOfWay (root dir : List Entry) (way : List ℕ) : Type 0 where
  pub is_way : IsWayOfDirectories way (named_nodes_of_entries root)
  pub here : entries_reached_by_way way (named_nodes_of_entries root) ≡ named_nodes_of_entries dir
  pub sorted : AreSortedValidEntries dir

-- there is a node at a position of a directory, and it is no directory
pub record IsNonDirectoryAtPosition (here : Names) (i : ℕ) : Type 0 where
  pub in_range : i < length (entry_names_in_order here)
  pub no_directory : is_directory (node_at_position here i) ≡ false

-- where a turn leads, which came to a place and left so much to go along
abbrev pub turned : Bool → DirectoryWithParents → ℕ → List (List ℕ) → Turn → PathResolution
turned follow place links left (turns.Into dir) = resolve_components_within_links links follow place left
turned follow place links left (turns.Missing name) = missing (name.now ∷ reversed_names_from_root place) left
turned follow place links left (turns.Node i) = reached (name_at_position place.here i ∷ reversed_names_from_root place) (node_at_position place.here i)
turned follow place links left turns.Nowhere = nowhere
turned follow place links left turns.Endless = endless

-- a turn leads into the directory at the end of the way, or ends in it
abbrev pub TurnFitsWay : List Entry → List ℕ → Turn → Type 0
TurnFitsWay root way (turns.Into dir) = IsDirectoryAtEndOfWay root dir.now way
TurnFitsWay root way (turns.Missing name) = IsWayOfDirectories way (named_nodes_of_entries root)
TurnFitsWay root way (turns.Node i) = IsWayOfDirectories way (named_nodes_of_entries root) × IsNonDirectoryAtPosition (entries_reached_by_way way (named_nodes_of_entries root)) i
TurnFitsWay root way turns.Nowhere = IsWayOfDirectories way (named_nodes_of_entries root)
TurnFitsWay root way turns.Endless = IsWayOfDirectories way (named_nodes_of_entries root)

-- a name that the directory of a place does not have, and whether it is the last component of the path
pub record ResolvesToMissingName (at : PathResolution) (place : DirectoryWithParents) (name : List ℕ) (last : Bool) : Type 0 where
  pub left : List (List ℕ)
  pub is_missing : at ≡ missing (name ∷ reversed_names_from_root place) left
  pub is_end : last ≡ is_nil left

-- a resolution that came to a place ended there
abbrev pub ResolvesToEnd : PathResolution → DirectoryWithParents → End → Type 0
ResolvesToEnd at place ends.Directory = at ≡ reached (reversed_names_from_root place) (directory place.here)
ResolvesToEnd at place (ends.Node i) = (at ≡ reached (name_at_position place.here i ∷ reversed_names_from_root place) (node_at_position place.here i)) × IsNonDirectoryAtPosition place.here i
ResolvesToEnd at place (ends.Missing name last) = ResolvesToMissingName at place name.now last
ResolvesToEnd at place ends.Nowhere = at ≡ nowhere
ResolvesToEnd at place ends.Endless = at ≡ endless
