-- Where a walk starts, and what the whole of it gives.
use Rattle.std.specs.Prelude.{ℕ, ◌+◌, Bool, true, false, not, ◌&&◌, if◌then◌else◌, List, [], ◌∷◌, Option, Some, None, option_map}
use Rattle.gitbase_core.specs.Path.{is_empty, is_absolute, components, path_joined_with_slash, normalized}
use Rattle.worktree_fs.specs.Paths.{root_joined_with_relative}
use Rattle.worktree_fs.specs.Tree.{Names, LookupResult, look}
use Rattle.worktree_stack.specs.Setup.{StackSetup}
use Rattle.worktree_stack.specs.Reading.{TreeAndObjects}
use Rattle.dir_classify.specs.declared.entry.Entry.{Entry}
use Rattle.dir_classify.specs.declared.entry.Kind.{Kind}
use Rattle.dir_classify.specs.declared.entry.Kind.TheVariants.{Untrackable, File, Symlink, Directory, Repository}
use Rattle.dir_classify.specs.Chosen.{WalkOptions}
use Rattle.dir_classify.specs.Enters.{can_recurse}
use Rattle.dir_classify.specs.Entries.{entry_with_outcome}
use Rattle.dir_classify.specs.Evidence.{PathEvidence}
use Rattle.dir_classify.specs.Kinds.{is_some_directory_kind, is_plain_directory_kind, is_symlink_kind}
use Rattle.dir_classify.specs.Layers.{WalkSetting, evidence_from_setting_and_sources, kind_of_node_at, kind_on_disk_if_asked}
use Rattle.dir_classify.specs.Rooted.{end_of_way_to_root}
use Rattle.dir_classify.specs.Way.{EndOfWayToRoot, end_of_way_from_worktree_root}
use Rattle.dir_walk.specs.Walked.{WalkResult, walk_result_emitting_leaf, walk_result_of_entered_path}

-- ---- the traversal root

-- the common directory of what the path specs match, where it is a directory, its last link followed; else the worktree root
abbrev pub common_directory_or_worktree_root : WalkSetting → Names → Option (List ℕ) → List ℕ
common_directory_or_worktree_root given t None = []
common_directory_or_worktree_root given t (Some directory) = if is_plain_directory_kind (kind_of_node_at t (root_joined_with_relative given.root directory) true) then directory else []

-- the traversal root before it is normalised: the one that is handed in, if one is
abbrev pub explicit_or_common_root_before_normalizing : WalkSetting → Names → Option (List ℕ) → List ℕ
explicit_or_common_root_before_normalizing given t (Some root) = root
explicit_or_common_root_before_normalizing given t None = common_directory_or_worktree_root given t given.common

-- A traversal root: one that is absolute or leads out of the worktree; one of which a component is not there, with its
-- whole path; one of which a component is a link, with the component's number, from 0; or one that is walked, with its
-- path.
pub data TraversalRootResult : Type 0 where
  outside : List ℕ → TraversalRootResult
  missing : List ℕ → TraversalRootResult
  through_link : ℕ → TraversalRootResult
  rooted : List ℕ → TraversalRootResult

-- past a component with its whole path, its number and its kind on disk
abbrev pub continue_past_component : List ℕ → ℕ → Option Kind → TraversalRootResult → TraversalRootResult
continue_past_component full at None further = missing full
continue_past_component full at (Some Symlink) further = through_link at
continue_past_component full at (Some Untrackable) further = further
continue_past_component full at (Some File) further = further
continue_past_component full at (Some Directory) further = further
continue_past_component full at (Some Repository) further = further

-- through components from a directory on, the first of them with a number, towards a root
abbrev pub traversal_root_through_components : WalkSetting → Names → TraversalRootResult → List ℕ → ℕ → List (List ℕ) → TraversalRootResult
traversal_root_through_components given t end directory at [] = end
traversal_root_through_components given t end directory at (name ∷ names) =
    let path = path_joined_with_slash directory name in
    continue_past_component (root_joined_with_relative given.root path) at (kind_of_node_at t (root_joined_with_relative given.root path) false) (traversal_root_through_components given t end path (at + 1) names)

-- a normalised path as a root
abbrev pub traversal_root_of_normal_path : WalkSetting → Names → List ℕ → TraversalRootResult
traversal_root_of_normal_path given t path = traversal_root_through_components given t (rooted path) [] 0 (components path)

abbrev pub traversal_root_unless_outside : WalkSetting → Names → List ℕ → Option (List ℕ) → TraversalRootResult
traversal_root_unless_outside given t asked None = outside asked
traversal_root_unless_outside given t asked (Some path) = if is_absolute path then outside asked else traversal_root_of_normal_path given t path

-- The traversal root over a tree, for the one that is handed in, if one is.
unfoldable pub find_traversal_root : WalkSetting → Names → Option (List ℕ) → TraversalRootResult
find_traversal_root given t explicit = let asked = explicit_or_common_root_before_normalizing given t explicit in traversal_root_unless_outside given t asked (normalized asked)

-- ---- from there

-- for the worktree root alone a link to a directory counts as one
abbrev pub disk_kind_of_traversal_root : PathEvidence → EndOfWayToRoot → Option Kind
disk_kind_of_traversal_root ev r = if is_empty r.path && is_symlink_kind r.class.disk_kind && is_plain_directory_kind (ev.followed []) then Some Directory else r.class.disk_kind

-- whether the walk enters the traversal root: where the way led there
abbrev pub enters_traversal_root : WalkOptions → PathEvidence → EndOfWayToRoot → Bool
enters_traversal_root o ev r = r.whole && can_recurse r.class.status (disk_kind_of_traversal_root ev r) r.class.pathspec_match o.for_deletion r.in_repository

-- a worktree root that is not entered, and is no directory
abbrev pub is_worktree_root_non_directory : EndOfWayToRoot → Bool
is_worktree_root_non_directory r = is_empty r.path && not (is_some_directory_kind r.class.disk_kind)

-- nothing is entered: one entry
abbrev pub walk_result_with_single_entry : Entry → WalkResult
walk_result_with_single_entry e = walk_result_emitting_leaf e

-- what a walk gives from where the way to its traversal root ended, by what the path leads to; none where the worktree root is no
-- directory to walk
abbrev pub walk_result_from_end_of_way : WalkOptions → PathEvidence → EndOfWayToRoot → LookupResult → Option WalkResult
walk_result_from_end_of_way o ev r at =
    if enters_traversal_root o ev r then Some (walk_result_of_entered_path o ev r.path r.class at)
    else if is_worktree_root_non_directory r then None
    else Some (walk_result_with_single_entry (entry_with_outcome r.path r.class))

-- A whole walk: its traversal root, whether the rules of some path on the way there are asked and cannot be read, and
-- what it gives.
pub record Walk : Type 0 where
  pub root : List ℕ
  pub is_way_unread : Bool
  pub gives : WalkResult

-- what the path of a traversal root leads to, a last link followed for the worktree root alone
abbrev pub look_at_traversal_root : WalkSetting → Names → List ℕ → LookupResult
look_at_traversal_root given t path = look t (root_joined_with_relative given.root path) (is_empty path)

-- what a walk gives from a traversal root, along the way through its components
abbrev pub walk_result_from_traversal_root : WalkSetting → Option StackSetup → TreeAndObjects → List ℕ → Option WalkResult
walk_result_from_traversal_root given made s root = let way = end_of_way_to_root given made s root in walk_result_from_end_of_way given.options (evidence_from_setting_and_sources given made s) way (look_at_traversal_root given s.tree way.path)

abbrev pub walk_from_end_of_way : WalkSetting → PathEvidence → Names → List ℕ → EndOfWayToRoot → Option Walk
walk_from_end_of_way given ev t root r =
    option_map (λ (w : WalkResult). record { root = root; is_way_unread = r.is_unread; gives = w })
    (walk_result_from_end_of_way given.options ev r (look_at_traversal_root given t r.path))

-- from a traversal root, along the way through its components
abbrev pub walk_from_root_result : WalkSetting → PathEvidence → Names → TraversalRootResult → Option Walk
walk_from_root_result given ev t (outside root) = None
walk_from_root_result given ev t (missing path) = None
walk_from_root_result given ev t (through_link at) = None
walk_from_root_result given ev t (rooted path) = walk_from_end_of_way given ev t path (end_of_way_from_worktree_root given.options ev (λ p. kind_on_disk_if_asked given t p true) (components path))

-- The walk over a tree and a store, by what the rules were made with, for the traversal root that is handed in, if one
-- is; none where there is no such root, or where the worktree root is no directory to walk.
unfoldable pub walk_over_sources : WalkSetting → Option StackSetup → TreeAndObjects → Option (List ℕ) → Option Walk
walk_over_sources given made s explicit = walk_from_root_result given (evidence_from_setting_and_sources given made s) s.tree (find_traversal_root given s.tree explicit)
