-- What would go of a directory that cannot go itself, since a repository lies in it, or the current directory.
use Rattle.std.specs.Prelude.{ℕ, List, [], ◌∷◌, Bool, not, ◌&&◌, ◌||◌, find, Option, Some, None, slice_index, take, unwrap_or, if◌then◌else◌}
use Rattle.std.specs.List.{list_any}
use Rattle.gitbase_core.specs.Among.{is_text_in_list}
use Rattle.gitbase_core.specs.Path.{is_empty, is_prefix_by_whole_components, is_slash, is_beneath_directory}
use Rattle.dir_classify.specs.Kinds.{is_repository_kind}
use Rattle.dir_classify.specs.declared.entry.Entry.{Entry}
use Rattle.worktree_report.specs.SetupMeant.{insert_paths_in_order}
use Rattle.worktree_report.specs.declared.report.ReportEntry.{ReportEntry}
use Rattle.ls_files.specs.Others.{directories_above_path, prepend_name_if_some}
use Rattle.git_clean.specs.Going.{is_repository_or_dot_git_kept}
use Rattle.git_clean.specs.Places.{lies_in_kept_directory}
use Rattle.git_clean.specs.Scenes.{CleaningInputs}

-- a directory beneath another can go
abbrev pub is_removable_subdirectory : CleaningInputs → List ℕ → List ℕ → Bool
is_removable_subdirectory s directory d = is_beneath_directory directory d && not (is_text_in_list d s.held)

-- the directory that ends before a byte of a path can
abbrev pub is_removable_subdirectory_ending_at : CleaningInputs → List ℕ → List ℕ → ℕ → Bool
is_removable_subdirectory_ending_at s directory path at = is_slash (slice_index path at) && is_removable_subdirectory s directory (take at path)

-- the highest one above a path that can, else the path itself
abbrev pub topmost_removable_part : CleaningInputs → List ℕ → List ℕ → List ℕ
topmost_removable_part s directory path = unwrap_or (find (is_removable_subdirectory s directory) (directories_above_path path)) path

-- an entry beneath a directory stays
abbrev pub entry_stays_in_place : CleaningInputs → Entry → Bool
entry_stays_in_place s e = is_repository_or_dot_git_kept s.cleaning e || (lies_in_kept_directory s e.rela_path || is_text_in_list e.rela_path s.held)

-- what goes for an entry in a directory that stays: the highest directory that can, or the entry; none where the entry stays
abbrev pub removable_part_for_entry : CleaningInputs → List ℕ → Entry → Option (List ℕ)
removable_part_for_entry s directory e =
    if is_beneath_directory directory e.rela_path && not (entry_stays_in_place s e) then Some (topmost_removable_part s directory e.rela_path) else None

-- what goes for each entry, in the order of the report; a directory comes once for each entry in it
abbrev pub removable_parts_of_entries : CleaningInputs → List ℕ → List ReportEntry → List (List ℕ)
removable_parts_of_entries s directory [] = []
removable_parts_of_entries s directory (e ∷ found) = prepend_name_if_some (removable_part_for_entry s directory e.entry) (removable_parts_of_entries s directory found)

-- what goes of it, in the order of the bytes
abbrev pub removable_parts_of_directory : CleaningInputs → List ℕ → List (List ℕ)
removable_parts_of_directory s directory = insert_paths_in_order [] (removable_parts_of_entries s directory s.found)

-- an entry is a repository that lies in the directory, and is not the directory itself
abbrev pub is_repository_beneath : List ℕ → Entry → Bool
is_repository_beneath directory e = is_beneath_directory directory e.rela_path && is_repository_kind e.disk_kind

-- a repository in it is named as one that is skipped
abbrev pub is_skipped_repository_in : CleaningInputs → List ℕ → Entry → Bool
is_skipped_repository_in s directory e = not (s.cleaning.repositories || not (is_repository_beneath directory e)) && not (lies_in_kept_directory s e.rela_path)

-- something stays in the current directory
abbrev pub stays_in_current_directory : CleaningInputs → ReportEntry → Bool
stays_in_current_directory s e = is_repository_or_dot_git_kept s.cleaning e.entry && is_prefix_by_whole_components s.prefix e.entry.rela_path

-- git keeps a repository or a `.git` in the current directory, so that this is not emptied
abbrev pub any_stays_in_current_directory : CleaningInputs → Bool
any_stays_in_current_directory s = list_any (stays_in_current_directory s) s.found

-- The current directory is refused, which is the directory or lies in it, where all that it holds goes.
abbrev pub refuses_current_directory : CleaningInputs → List ℕ → Bool
refuses_current_directory s directory =
    not (is_empty s.prefix) && (is_prefix_by_whole_components directory s.prefix && not (any_stays_in_current_directory s))
