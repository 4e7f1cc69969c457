-- What would go: entries, and directories in the place of what they hold.
use Rattle.std.specs.Prelude.{ℕ, List, [], ◌∷◌, Bool, true, false, not, ◌&&◌, ◌||◌, find, Option, Some, None, option_map, option_and_then, slice_index, take, if◌then◌else◌}
use Rattle.std.specs.List.{list_any}
use Rattle.std.specs.Option.{option_or}
use Rattle.gitbase_core.specs.Among.{is_text_in_list}
use Rattle.gitbase_core.specs.Kinds.{kinds}
use Rattle.gitbase_core.specs.Path.{is_slash}
use Rattle.gitbase_core.specs.declared.kinds.EntryKind.{EntryKind}
use Rattle.gitbase_core.specs.declared.kinds.EntryKind.TheVariants as index
use Rattle.dir_classify.specs.Kinds.{is_some_directory_kind}
use Rattle.dir_classify.specs.declared.entry.Entry.{Entry}
use Rattle.worktree_report.specs.SetupMeant.{insert_paths_in_order}
use Rattle.worktree_report.specs.declared.report.ReportEntry.{ReportEntry}
use Rattle.ls_files.specs.Others.{directories_above_path, directory_place_of_path, has_index_entry_beneath, do_specs_match_report_entry, lies_in_spec_skipped_directory, is_untracked_status, name, name_of_place_unless_indexed, place_of_report_entry, prepend_name_if_some}
use Rattle.ls_files.specs.Places.{PathWithDirectoryFlag}
use Rattle.git_clean.specs.Going.{is_entry_matched_and_removable}
use Rattle.git_clean.specs.Leading.{specs_take_directory_whole}
use Rattle.git_clean.specs.Scenes.{CleaningInputs}

-- ---- what is kept

-- the index has a submodule there; not where it has nothing, or paths beneath
abbrev pub is_submodule_index_kind : Option EntryKind → Bool
is_submodule_index_kind None = false
is_submodule_index_kind (Some index.File) = false
is_submodule_index_kind (Some index.Symlink) = false
is_submodule_index_kind (Some index.Repository) = true
is_submodule_index_kind (Some index.Directory) = false

-- a directory is kept with all that it holds: it holds a `.git`, or is that of a submodule
abbrev pub holds_dot_git_or_is_submodule : CleaningInputs → List ℕ → Bool
holds_dot_git_or_is_submodule s d = is_text_in_list d s.guarded || is_submodule_index_kind (kinds s.index d).kind

-- the directory that ends before a byte of a path is
abbrev pub is_kept_directory_before_slash_at : CleaningInputs → List ℕ → ℕ → Bool
is_kept_directory_before_slash_at s path at = is_slash (slice_index path at) && holds_dot_git_or_is_submodule s (take at path)

-- so is a path beneath one
abbrev pub lies_in_kept_directory : CleaningInputs → List ℕ → Bool
lies_in_kept_directory s path = list_any (holds_dot_git_or_is_submodule s) (directories_above_path path)

-- ---- directories

-- The index has nothing in a directory, which is not marked. Without `-d` such a directory is passed over, and what lies in it hidden.
abbrev pub is_directory_unindexed_and_unmarked : CleaningInputs → List ℕ → Bool
is_directory_unindexed_and_unmarked s d = not (has_index_entry_beneath s.index (name (directory_place_of_path d))) && not (is_text_in_list d s.marked)

-- the directory that ends before a byte of a path is one; a byte that is no slash ends none
abbrev pub unindexed_unmarked_directory_ends_at : CleaningInputs → List ℕ → ℕ → Bool
unindexed_unmarked_directory_ends_at s path at = is_slash (slice_index path at) && is_directory_unindexed_and_unmarked s (take at path)

-- a path lies in such a directory, and is hidden without `-d`
abbrev pub lies_in_unindexed_unmarked_directory : CleaningInputs → List ℕ → Bool
lies_in_unindexed_unmarked_directory s path = list_any (is_directory_unindexed_and_unmarked s) (directories_above_path path)

-- the path specs let a directory go as a whole
abbrev pub scene_specs_take_directory_whole : CleaningInputs → List ℕ → Bool
scene_specs_take_directory_whole s d = specs_take_directory_whole s.specs s.named (name (directory_place_of_path d)) d

-- A directory goes as a whole: the index has nothing in it, no entry beneath keeps it from that, and the path specs take it.
abbrev pub directory_goes_whole : CleaningInputs → List ℕ → Bool
directory_goes_whole s d = is_directory_unindexed_and_unmarked s d && scene_specs_take_directory_whole s d

-- the directory that ends before a byte of a path does; a byte that is no slash ends none
abbrev pub directory_ending_at_goes_whole : CleaningInputs → List ℕ → ℕ → Bool
directory_ending_at_goes_whole s path at = is_slash (slice_index path at) && directory_goes_whole s (take at path)

-- the highest directory above a path that does
abbrev pub highest_removed_directory_above : CleaningInputs → List ℕ → Option (List ℕ)
highest_removed_directory_above s path = find (directory_goes_whole s) (directories_above_path path)

-- git comes to what has a name
abbrev pub is_place_outside_skipped_directory : CleaningInputs → List ℕ → Bool
is_place_outside_skipped_directory s name = not (lies_in_spec_skipped_directory s.index s.named name)

-- an entry may go, the path specs match it, and git comes to it
abbrev pub is_visited_and_removable : CleaningInputs → Entry → Bool
is_visited_and_removable s e = is_entry_matched_and_removable s.cleaning s.specs e && is_place_outside_skipped_directory s (name (place_of_report_entry e))

-- With `-X` a directory goes for an ignored path in it that the path specs match, and that git comes to, else for whatever they match in it.
abbrev pub may_parent_go_for_entry : CleaningInputs → Entry → Bool
may_parent_go_for_entry s e = if s.cleaning.ignored_only then is_visited_and_removable s e else do_specs_match_report_entry s.specs e

-- the highest directory that goes with an entry in it; none where the entry is no cause for that, or none goes whole
abbrev pub removed_whole_directory_above_entry : CleaningInputs → Entry → Option PathWithDirectoryFlag
removed_whole_directory_above_entry s e = if may_parent_go_for_entry s e then option_map directory_place_of_path (highest_removed_directory_above s e.rela_path) else None

-- ---- what goes

-- An untracked directory that holds nothing, and an untracked repository, go as any directory does: where the path specs take it. So with
-- `. ?` an empty directory `d/e` stays, since `?` may be about what lies in it.
abbrev pub do_specs_take_entry_if_directory : CleaningInputs → Entry → Bool
do_specs_take_entry_if_directory s e = if is_some_directory_kind e.disk_kind && is_untracked_status e.status then scene_specs_take_directory_whole s e.rela_path else true

-- the entry by itself, where it may go and the path specs match it, and take it if it is a directory
abbrev pub entry_place_if_removed : CleaningInputs → Entry → Option PathWithDirectoryFlag
entry_place_if_removed s e = if is_entry_matched_and_removable s.cleaning s.specs e && do_specs_take_entry_if_directory s e then Some (place_of_report_entry e) else None

-- by itself, where directories are passed over
abbrev pub entry_place_unless_below_unindexed : CleaningInputs → Entry → Option PathWithDirectoryFlag
entry_place_unless_below_unindexed s e = if lies_in_unindexed_unmarked_directory s e.rela_path then None else entry_place_if_removed s e

-- the highest directory above an entry that goes with it, else the entry by itself if it may go
abbrev pub whole_directory_or_entry : CleaningInputs → Entry → Option PathWithDirectoryFlag
whole_directory_or_entry s e = option_or (removed_whole_directory_above_entry s e) (entry_place_if_removed s e)

-- with `-d` a directory may go for what it holds; without, an entry goes only by itself
abbrev pub removal_place_of_unkept_entry : CleaningInputs → Entry → Option PathWithDirectoryFlag
removal_place_of_unkept_entry s e = if s.cleaning.directories then whole_directory_or_entry s e else entry_place_unless_below_unindexed s e

-- what goes for an entry: a directory above it, or itself
abbrev pub removal_place_of_entry : CleaningInputs → Entry → Option PathWithDirectoryFlag
removal_place_of_entry s e = if lies_in_kept_directory s e.rela_path then None else removal_place_of_unkept_entry s e

-- no path of the index goes, nor what git does not come to, since a path spec takes out a directory above it
abbrev pub name_if_visited_and_unindexed : CleaningInputs → PathWithDirectoryFlag → Option (List ℕ)
name_if_visited_and_unindexed s place = if is_place_outside_skipped_directory s (name place) then name_of_place_unless_indexed s.index place else None

-- the name of what goes for an entry; none where nothing does, the index has the path, or git does not come there
abbrev pub removal_name_of_entry : CleaningInputs → Entry → Option (List ℕ)
removal_name_of_entry s e = option_and_then (name_if_visited_and_unindexed s) (removal_place_of_entry s e)

-- what goes for each entry, in the order of the report; a directory comes once for each entry in it
abbrev pub removal_names_of_entries : CleaningInputs → List ReportEntry → List (List ℕ)
removal_names_of_entries s [] = []
removal_names_of_entries s (e ∷ found) = prepend_name_if_some (removal_name_of_entry s e.entry) (removal_names_of_entries s found)

-- the names of what goes, in the order of their bytes, each once; that of a directory ends in a slash
abbrev pub names_of_removed : CleaningInputs → List (List ℕ)
names_of_removed s = insert_paths_in_order [] (removal_names_of_entries s s.found)
