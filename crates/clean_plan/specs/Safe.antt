-- What makes a plan safe to act on.
use Rattle.std.specs.Prelude.{◌≡◌, ℕ, List, Bool, true, false, not, ◌&&◌, ◌||◌}
use Rattle.std.specs.List.{list_any}
use Rattle.gitbase_core.specs.Path.{is_prefix_by_whole_components, is_empty_or_root_path, is_beneath_directory}
use Rattle.gitbase_core.specs.declared.entry.IndexEntry.{IndexEntry}
use Rattle.dir_classify.specs.declared.entry.Entry.{Entry}
use Rattle.dir_classify.specs.Kinds.{is_repository_kind}
use Rattle.dir_walk.specs.Emissions.{is_tracked_status}
use Rattle.dir_walk.specs.Fold.{is_ignored_precious_entry, is_pruned}
use Rattle.clean_plan.specs.declared.what.OtherNodes.TheVariants.{Go}
use Rattle.clean_plan.specs.Above.{any_ancestor_passes}
use Rattle.clean_plan.specs.Asked.{CleanPlanInputs}
use Rattle.clean_plan.specs.Closed.{stays_in_spec_excluded_directory}
use Rattle.clean_plan.specs.Kept.{has_dot_git_component, is_current_dir_at_or_beneath, has_index_entry_at_or_below_path}
use Rattle.clean_plan.specs.Paths.{AscendsStrictly, is_text_in_list}
use Rattle.clean_plan.specs.Staying.{has_kept_untrackable_at_path}
use Rattle.clean_plan.specs.Whole.{may_remove_whole_directory}

-- an entry that no plan may take: it is pruned, precious, tracked or a repository
abbrev pub is_pruned_precious_tracked_or_repository : Entry → Bool
is_pruned_precious_tracked_or_repository e = is_pruned e || (is_ignored_precious_entry e || (is_tracked_status e.status || is_repository_kind e.disk_kind))

-- at a path or beneath it stands an entry that no plan may take
abbrev pub holds_entry_never_removed : List Entry → List ℕ → Bool
holds_entry_never_removed entries path = list_any (λ (e : Entry). is_prefix_by_whole_components path e.rela_path && is_pruned_precious_tracked_or_repository e) entries

-- at a path or beneath it stands an entry that stays with a directory that the path specs take out
abbrev pub holds_entry_in_spec_excluded_directory : CleanPlanInputs → List Entry → List ℕ → Bool
holds_entry_in_spec_excluded_directory asked entries path = list_any (λ (e : Entry). is_prefix_by_whole_components path e.rela_path && stays_in_spec_excluded_directory asked.taken_out asked.specs e) entries

-- ---- over any worktree

-- a path that may be planned: not that of the root, with no component `.git`, and with no index entry at it or beneath it
pub record IsPathOutsideGitAndIndex (fold : Bool) (index : List IndexEntry) (path : List ℕ) : Type 0 where
  pub below : is_empty_or_root_path path ≡ false
  pub no_git : has_dot_git_component path ≡ false
  pub unindexed : has_index_entry_at_or_below_path fold index path ≡ false

-- the paths ascend strictly, and each may be planned
pub record AscendOutsideGitAndIndex (fold : Bool) (index : List IndexEntry) (paths : List (List ℕ)) : Type 0 where
  pub ascends : AscendsStrictly paths
  pub each : (path : List ℕ) → is_text_in_list path paths ≡ true → IsPathOutsideGitAndIndex fold index path

-- ---- by a report

-- a planned path is safe: at it or beneath it stands no index entry, nor the current directory, nor an entry that no plan may take, nor one
-- that stays with a directory that the path specs take out
pub record IsSafeToRemove (asked : CleanPlanInputs) (entries : List Entry) (path : List ℕ) : Type 0 where
  pub spared : IsPathOutsideGitAndIndex asked.fold asked.index path
  pub elsewhere : is_current_dir_at_or_beneath asked.current path ≡ false
  pub unguarded : holds_entry_never_removed entries path ≡ false
  pub unclosed : holds_entry_in_spec_excluded_directory asked entries path ≡ false

-- a path lies at or beneath exactly one of some paths
pub record IsCoveredByExactlyOnePath (paths : List (List ℕ)) (path : List ℕ) : Type 0 where
  pub over : List ℕ
  pub is_planned : is_text_in_list over paths ≡ true
  pub covers : is_prefix_by_whole_components over path ≡ true
  pub only : (other : List ℕ) → is_text_in_list other paths ≡ true → is_prefix_by_whole_components other path ≡ true → other ≡ over

-- a node is left at a path: it stays, and no directory above it goes as a whole
abbrev pub is_untrackable_left_in_place : CleanPlanInputs → List Entry → List ℕ → Bool
is_untrackable_left_in_place asked entries path = has_kept_untrackable_at_path asked.others entries path && not (any_ancestor_passes (may_remove_whole_directory asked entries) path)

-- Each planned path is safe. Each entry that may go lies at or beneath exactly one, but for a node that is left, which lies at or
-- beneath none; where other nodes go too, each does.
pub record RemovesSafelyAndCompletely (asked : CleanPlanInputs) (entries : List Entry) (paths removable : List (List ℕ)) : Type 0 where
  pub each : (path : List ℕ) → is_text_in_list path paths ≡ true → IsSafeToRemove asked entries path
  pub covers_all : asked.others ≡ Go → (path : List ℕ) → is_text_in_list path removable ≡ true → IsCoveredByExactlyOnePath paths path
  pub covers : (path : List ℕ) → is_text_in_list path removable ≡ true → is_untrackable_left_in_place asked entries path ≡ false → IsCoveredByExactlyOnePath paths path
  pub leaves : (path : List ℕ) → is_untrackable_left_in_place asked entries path ≡ true → (other : List ℕ) → is_text_in_list other paths ≡ true
      → is_prefix_by_whole_components other path ≡ false

-- no planned path lies beneath another
abbrev pub NoPathLiesBeneathAnother : List (List ℕ) → Type 0
NoPathLiesBeneathAnother paths = (above path : List ℕ) → is_text_in_list above paths ≡ true → is_text_in_list path paths ≡ true → is_beneath_directory above path ≡ false
