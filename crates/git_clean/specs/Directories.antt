-- Directories above entries, each once and in their order.
use Rattle.std.specs.Prelude.{ℕ, List, [], ◌∷◌, Bool, not, ◌&&◌, ◌||◌, if◌then◌else◌, slice_index, take, unwrap_or}
use Rattle.std.specs.List.{flat_map, list_any}
use Rattle.gitbase_core.specs.Among.{is_text_in_list}
use Rattle.gitbase_core.specs.Path.{is_slash, parent}
use Rattle.dir_classify.specs.Kinds.{is_dot_git_property}
use Rattle.ls_files.specs.Others.{directories_above_path}
use Rattle.worktree_report.specs.SetupMeant.{insert_paths_in_order}
use Rattle.worktree_report.specs.declared.report.ReportEntry.{ReportEntry}
use Rattle.git_clean.specs.declared.options.Cleaning.{Cleaning}
use Rattle.git_clean.specs.Going.{is_repository_or_dot_git_kept, entry_marks_parents_against_removal}

-- ---- what holds a `.git`

-- the directory that holds a path
abbrev pub parent_directory_or_top : List ℕ → List ℕ
parent_directory_or_top path = unwrap_or (parent path) []

-- the directory that holds a `.git`
abbrev pub parent_of_dot_git_entry : ReportEntry → List (List ℕ)
parent_of_dot_git_entry e = if is_dot_git_property e.entry.property then parent_directory_or_top e.entry.rela_path ∷ [] else []

-- A directory that holds a `.git`, and is no repository to the walk, is left as it is: git may take it for one.
unfoldable pub directories_holding_dot_git : List ReportEntry → List (List ℕ)
directories_holding_dot_git found = insert_paths_in_order [] (flat_map parent_of_dot_git_entry found)

-- a directory is one of some
abbrev pub set_contains_directory : List (List ℕ) → List ℕ → Bool
set_contains_directory directories d = is_text_in_list d directories

-- the directory that ends before a byte of a path is
abbrev pub set_contains_prefix_ending_at : List (List ℕ) → List ℕ → ℕ → Bool
set_contains_prefix_ending_at directories path at = is_slash (slice_index path at) && set_contains_directory directories (take at path)

-- a path lies in one of them
abbrev pub lies_beneath_any_directory : List (List ℕ) → List ℕ → Bool
lies_beneath_any_directory directories path = list_any (set_contains_directory directories) (directories_above_path path)

-- ---- what is marked

-- the directories above an entry are to be marked
abbrev pub marks_parents_outside_dot_git_holders : Cleaning → List (List ℕ) → ReportEntry → Bool
marks_parents_outside_dot_git_holders c guards e = entry_marks_parents_against_removal c e.entry && (c.directories || not (lies_beneath_any_directory guards e.entry.rela_path))

-- all directories above an entry that keeps them from going whole; none for any other entry
abbrev pub directories_marked_by_entry : Cleaning → List (List ℕ) → ReportEntry → List (List ℕ)
directories_marked_by_entry c guards e = if marks_parents_outside_dot_git_holders c guards e then directories_above_path e.entry.rela_path else []

-- the directories that are marked: an entry that keeps them from going whole lies beneath each
unfoldable pub directories_marked_against_removal : Cleaning → List (List ℕ) → List ReportEntry → List (List ℕ)
directories_marked_against_removal c guards found = insert_paths_in_order [] (flat_map (directories_marked_by_entry c guards) found)

-- ---- what is held

-- the directories above what stays
abbrev pub directories_above_if_entry_kept : Cleaning → ReportEntry → List (List ℕ)
directories_above_if_entry_kept c e = if is_repository_or_dot_git_kept c e.entry then directories_above_path e.entry.rela_path else []

-- the current directory, and those above it
abbrev pub current_directory_and_parents : List ℕ → List (List ℕ)
current_directory_and_parents prefix = insert_paths_in_order (insert_paths_in_order [] (directories_above_path prefix)) (prefix ∷ [])

-- The directories that cannot go: what stays lies beneath them, or they are or hold the current directory.
unfoldable pub directories_that_must_stay : Cleaning → List ℕ → List ReportEntry → List (List ℕ)
directories_that_must_stay c prefix found = insert_paths_in_order (current_directory_and_parents prefix) (flat_map (directories_above_if_entry_kept c) found)
