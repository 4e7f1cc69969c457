-- The state of an index path against a tree.
use Rattle.std.specs.Prelude.{◌≡◌, ◌⊎◌, ◌+◌, ℕ, List, [], ◌∷◌, Bool, ◌==◌, ◌||◌, bytes_eq, Option, Some, None, false, if◌then◌else◌}
use Rattle.std.specs.Bool.{MatchBool}
use Rattle.gitbase_core.specs.Entry.{mode_bits, assume_valid_flag, gitlink_mode, sparse_directory_mode, skip_worktree_flag, symlink_mode, is_unmerged_entry}
use Rattle.gitbase_core.specs.Kinds.{entry_has_flag}
use Rattle.gitbase_core.specs.Path.{components}
use Rattle.gitbase_core.specs.declared.entry.IndexEntry.{IndexEntry}
use Rattle.gitbase_core.specs.declared.entry.Mode.{Mode}
use Rattle.worktree_fs.specs.Tree.{Names, LookupResult, absent, directory, file, found, link, look, other, too_many_links}
use Rattle.index_status.specs.declared.path_state.PathState.{PathState}
use Rattle.index_status.specs.declared.path_state.PathState.TheVariants as states
use Rattle.git_index.specs.Blobs.{blob_id}
use Rattle.worktree_report.specs.Looks.{IsLookedAtOnWay}
use Rattle.index_status.specs.Ways.{path_through_directories}

-- the index says not to look: the path is skipped, taken as unchanged, or a directory that stands for all beneath it
abbrev pub is_skipped_assumed_or_sparse : IndexEntry → Bool
is_skipped_assumed_or_sparse e = entry_has_flag skip_worktree_flag e || (entry_has_flag assume_valid_flag e || mode_bits e.mode == sparse_directory_mode)

-- the mode of a symbolic link
abbrev pub is_symlink_mode : Mode → Bool
is_symlink_mode mode = mode_bits mode == symlink_mode

-- what holds a submodule is a directory
abbrev pub state_of_submodule_by_look : LookupResult → PathState
state_of_submodule_by_look absent = states.Deleted
state_of_submodule_by_look too_many_links = states.Deleted
state_of_submodule_by_look (found (directory names)) = states.Unchecked
state_of_submodule_by_look (found (file bytes)) = states.TypeChanged
state_of_submodule_by_look (found (link target)) = states.TypeChanged
state_of_submodule_by_look (found other) = states.TypeChanged

-- a link, wherever it leads
abbrev pub state_of_symlink_by_look : LookupResult → PathState
state_of_symlink_by_look absent = states.Deleted
state_of_symlink_by_look too_many_links = states.Deleted
state_of_symlink_by_look (found (link target)) = states.Unchecked
state_of_symlink_by_look (found (directory names)) = states.TypeChanged
state_of_symlink_by_look (found (file bytes)) = states.TypeChanged
state_of_symlink_by_look (found other) = states.TypeChanged

-- by the id of the bytes
abbrev pub state_of_file_by_bytes : List ℕ → List ℕ → PathState
state_of_file_by_bytes id bytes = if bytes_eq (blob_id bytes) id then states.Same else states.Modified

-- the state of a file's entry by what stands at its path
abbrev pub state_of_file_by_look : List ℕ → LookupResult → PathState
state_of_file_by_look id absent = states.Deleted
state_of_file_by_look id (found (file bytes)) = state_of_file_by_bytes id bytes
state_of_file_by_look id (found (directory names)) = states.TypeChanged
state_of_file_by_look id (found (link target)) = states.TypeChanged
state_of_file_by_look id (found other) = states.TypeChanged
state_of_file_by_look id too_many_links = states.TypeChanged

-- by the mode of an entry, and by what stands at its path, a last link not followed
abbrev pub state_by_mode_and_look : IndexEntry → LookupResult → PathState
state_by_mode_and_look e at =
    if mode_bits e.mode == gitlink_mode then state_of_submodule_by_look at
    else if is_symlink_mode e.mode then state_of_symlink_by_look at
    else state_of_file_by_look e.id at

-- at the end of the way to its path, if directories lead there
abbrev pub state_at_optional_path : Names → IndexEntry → Option (List ℕ) → PathState
state_at_optional_path t e None = states.Deleted
state_at_optional_path t e (Some full) = state_by_mode_and_look e (look t full false)

-- The state of the path of an entry, the first of its path, over a tree: the first of these that fits.
abbrev pub state_of_index_entry : Names → List ℕ → IndexEntry → PathState
state_of_index_entry t root e =
    if is_unmerged_entry e then states.Conflicted
    else if is_skipped_assumed_or_sparse e then states.Skipped
    else state_at_optional_path t e (path_through_directories t root (components e.path))

-- ---- how many files are read

-- for the state at the end of the way to an entry's path: one at most, where a file belongs there
abbrev pub most_reads_at_full_path : IndexEntry → ℕ
most_reads_at_full_path e =
    if mode_bits e.mode == gitlink_mode then 0
    else if is_symlink_mode e.mode then 0
    else 1

-- for the state of an entry, at most
abbrev pub most_reads_for_entry : IndexEntry → ℕ
most_reads_for_entry e =
    if is_unmerged_entry e then 0
    else if is_skipped_assumed_or_sparse e then 0
    else most_reads_at_full_path e

-- for the states of all entries, at most: each file that is compared once
abbrev pub most_reads_for_entries : List IndexEntry → ℕ
most_reads_for_entries [] = 0
most_reads_for_entries (e ∷ entries) = most_reads_for_entry e + most_reads_for_entries entries

-- for a state that is known, at least: that a file is the same or not is by its bytes
abbrev pub least_reads_for_state : PathState → ℕ
least_reads_for_state states.Same = 1
least_reads_for_state states.Modified = 1
least_reads_for_state states.Deleted = 0
least_reads_for_state states.TypeChanged = 0
least_reads_for_state states.Conflicted = 0
least_reads_for_state states.Skipped = 0
least_reads_for_state states.Unchecked = 0

-- ---- over any worktree

-- the state of what is not read
abbrev pub MayBeStateWithoutReading : PathState → Type 0
MayBeStateWithoutReading s = (s ≡ states.Deleted) ⊎ ((s ≡ states.Unchecked) ⊎ (s ≡ states.TypeChanged))

-- the state of what is read, if it is a file
abbrev pub MayBeStateOfReadFile : PathState → Type 0
MayBeStateOfReadFile s = (s ≡ states.Deleted) ⊎ ((s ≡ states.TypeChanged) ⊎ ((s ≡ states.Same) ⊎ (s ≡ states.Modified)))

-- a state that may be told of an entry whose path has something: by its mode, unread or read
abbrev pub MayBeStateOfPresentEntry : IndexEntry → PathState → Type 0
MayBeStateOfPresentEntry e s = MatchBool (mode_bits e.mode == gitlink_mode) (MayBeStateWithoutReading s) (MatchBool (is_symlink_mode e.mode) (MayBeStateWithoutReading s) (MayBeStateOfReadFile s))

-- nothing is there, or what is there was seen
abbrev pub IsDeletedOrStateOfPresent : IndexEntry → PathState → Type 0
IsDeletedOrStateOfPresent e s = (s ≡ states.Deleted) ⊎ MayBeStateOfPresentEntry e s

-- a state that an entry may have over some tree
abbrev pub IsPossibleStateOfEntry : IndexEntry → PathState → Type 0
IsPossibleStateOfEntry e s = MatchBool (is_unmerged_entry e) (s ≡ states.Conflicted) (MatchBool (is_skipped_assumed_or_sparse e) (s ≡ states.Skipped) (IsDeletedOrStateOfPresent e s))

-- a state that an entry may have, and the one that it has over a told tree
pub record IsStateOfEntry (told : Option Names) (root : List ℕ) (e : IndexEntry) (s : PathState) : Type 0 where
  pub possible : IsPossibleStateOfEntry e s
  pub exact : (t : Names) → told ≡ Some t → s ≡ state_of_index_entry t root e

-- a path that is looked at for the state of an entry: of one that is merged and not left out, on the way to its path or there
abbrev pub IsLookedAtForEntry : Option Names → List ℕ → IndexEntry → List ℕ → Type 0
IsLookedAtForEntry told root e path = (is_unmerged_entry e ≡ false) × (is_skipped_assumed_or_sparse e ≡ false) × IsLookedAtOnWay told root (components e.path) path
