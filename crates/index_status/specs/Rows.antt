-- The states of all paths of an index.
use Rattle.std.specs.Prelude.{◌≡◌, ◌↔◌, ◌≤◌, ◌+◌, ℕ, List, [], ◌∷◌, ◌++◌, Bool, true, ◌&&◌, bytes_eq, map, Option, Some, None, if◌then◌else◌}
use Rattle.std.specs.Bool.{MatchBool}
use Rattle.std.specs.Cmp.Lexicographic.{slice_cmp}
use Rattle.std.specs.List.{AllByRecursion, Contains, list_any}
use Rattle.std.specs.List.Sorted.{IsStrictlySortedBy}
use Rattle.std.specs.Ordering.{nat_cmp}
use Rattle.gitbase_core.specs.declared.entry.IndexEntry.{IndexEntry}
use Rattle.gitbase_core.specs.Entry.{is_unmerged_entry}
use Rattle.gitbase_core.specs.Path.{is_some_equal_path}
use Rattle.worktree_fs.specs.Causes.{saturating_sum}
use Rattle.worktree_fs.specs.Tree.{Names}
use Rattle.index_status.specs.declared.error.StatesError.{StatesError}
use Rattle.index_status.specs.declared.error.StatesError.TheVariants as errors
use Rattle.index_status.specs.declared.path_state.PathState.{PathState}
use Rattle.index_status.specs.declared.path_state.PathState.TheVariants as states
use Rattle.index_status.specs.States.{IsLookedAtForEntry, IsPossibleStateOfEntry, IsStateOfEntry, least_reads_for_state, state_of_index_entry}

-- a path and its state
abbrev pub PathAndState : Type 0
PathAndState = List ℕ × PathState

-- the path of a row
abbrev pub path_of_row : PathAndState → List ℕ
path_of_row row = row.0

-- the row of an entry: its path, and its state over the tree
abbrev pub row_of_entry_over_tree : Names → List ℕ → IndexEntry → PathAndState
row_of_entry_over_tree t root e = (e.path, state_of_index_entry t root e)

-- the first entry of each path, behind an entry of some path; those of one path stand beside one another
abbrev pub first_entries_of_paths_after : Option (List ℕ) → List IndexEntry → List IndexEntry
first_entries_of_paths_after before [] = []
first_entries_of_paths_after before (e ∷ entries) =
    if is_some_equal_path before e.path then first_entries_of_paths_after before entries else e ∷ first_entries_of_paths_after (Some e.path) entries

-- the first entry of each path
abbrev pub first_entries_of_paths : List IndexEntry → List IndexEntry
first_entries_of_paths entries = first_entries_of_paths_after None entries

-- Each path of an index once, in its order, with its state over a tree.
abbrev pub rows_of_index_over_tree : Names → List ℕ → List IndexEntry → List PathAndState
rows_of_index_over_tree t root entries = map (row_of_entry_over_tree t root) (first_entries_of_paths entries)

-- the path of the last row, if there is one
abbrev pub path_of_last_row : List PathAndState → Option (List ℕ)
path_of_last_row [] = None
path_of_last_row (row ∷ []) = Some row.0
path_of_last_row (row ∷ next ∷ made) = path_of_last_row (next ∷ made)

-- the last row is of this path
abbrev pub last_row_has_path : List PathAndState → List ℕ → Bool
last_row_has_path made path = is_some_equal_path (path_of_last_row made) path

-- one row more
abbrev pub IsRowsWithOneMore : List PathAndState → List ℕ → PathState → List PathAndState → Type 0
IsRowsWithOneMore made path s more = more ≡ made ++ (path, s) ∷ []

-- with the row of an entry, unless the last row is of its path
abbrev pub IsRowsWithEntryUnlessRepeated : Option Names → List ℕ → IndexEntry → List PathAndState → List PathAndState → Type 0
IsRowsWithEntryUnlessRepeated told root e made more =
    MatchBool (last_row_has_path made e.path) (more ≡ made) ((s : PathState) × IsStateOfEntry told root e s × IsRowsWithOneMore made e.path s more)

-- some entries and their rows, one by one
abbrev pub AreEntriesPairedWithRows : (IndexEntry → PathState → Type 0) → List IndexEntry → List PathAndState → Type 0
AreEntriesPairedWithRows Has [] made = made ≡ []
AreEntriesPairedWithRows Has (e ∷ entries) [] = ⊥
AreEntriesPairedWithRows Has (e ∷ entries) (row ∷ made) = (row.0 ≡ e.path) × Has e row.1 × AreEntriesPairedWithRows Has entries made

-- each path of the index once, in its order, with a state that it may have
abbrev pub ArePossibleRowsOfIndex : List IndexEntry → List PathAndState → Type 0
ArePossibleRowsOfIndex entries made = AreEntriesPairedWithRows IsPossibleStateOfEntry (first_entries_of_paths entries) made

-- the index has an entry of a path at another stage than 0
abbrev pub has_conflicted_entry : List IndexEntry → List ℕ → Bool
has_conflicted_entry entries path = list_any (λ (e : IndexEntry). bytes_eq e.path path && is_unmerged_entry e) entries

-- A path is conflicted exactly where the index has an entry of it at another stage than 0.
abbrev pub AreConflictedExactlyWhereUnmerged : List IndexEntry → List PathAndState → Type 0
AreConflictedExactlyWhereUnmerged entries made = AllByRecursion (λ (row : PathAndState). (row.1 ≡ states.Conflicted) ↔ (has_conflicted_entry entries row.0 ≡ true)) made

-- how many files were read for some rows, at least: one for each file that is the same or modified
abbrev pub least_files_read_for_rows : List PathAndState → ℕ
least_files_read_for_rows [] = 0
least_files_read_for_rows (row ∷ made) = least_reads_for_state row.1 + least_files_read_for_rows made

-- where a worktree was read for each file of some rows, counted from some number on, it was for each file of more rows
abbrev pub KeepsLeastReadsForRows : ℕ → ℕ → List PathAndState → List PathAndState → Type 0
KeepsLeastReadsForRows before now made more = (start : ℕ) → saturating_sum start (least_files_read_for_rows made) ≤ before → saturating_sum start (least_files_read_for_rows more) ≤ now

-- the paths ascend strictly, byte by byte
abbrev pub PathsAscendStrictly : List PathAndState → Type 0
PathsAscendStrictly made = IsStrictlySortedBy (slice_cmp nat_cmp) (map path_of_row made)

-- a path is looked at for the state of one of some entries
pub record IsLookedAtForSomeEntry (told : Option Names) (root : List ℕ) (entries : List IndexEntry) (path : List ℕ) : Type 0 where
  pub entry : IndexEntry
  pub is_entry : Contains entries entry
  pub asks : IsLookedAtForEntry told root entry path

-- why there are no states: the worktree failed at a path that is looked at
abbrev pub RefusesStatesWithCause : Option Names → List ℕ → List IndexEntry → Type 0 → StatesError → Type 0
RefusesStatesWithCause told root entries Failed (errors.Fault path) = Failed × IsLookedAtForSomeEntry told root entries path
RefusesStatesWithCause told root entries Failed errors.OutOfMemory = Unit {0}
