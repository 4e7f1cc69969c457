-- What lies in the way of an index: git-ls-files(1), "-k: Show untracked files on the filesystem that need to be removed due to file/directory
-- conflicts for tracked files to be able to be written to the filesystem."
use Rattle.std.specs.Prelude.{ℕ, ◌-◌, List, [], ◌∷◌, Bool, false, not, ◌&&◌, ◌||◌, bytes_eq, drop, find, length, slice_index, take, Option, Some, None, option_and_then, if◌then◌else◌}
use Rattle.std.specs.List.{flat_map, list_all, list_any}
use Rattle.gitbase_core.specs.Index.{first_entry_at_path, entry_range_with_path_prefix}
use Rattle.gitbase_core.specs.Path.{ends_in_slash, is_slash}
use Rattle.gitbase_core.specs.declared.entry.IndexEntry.{IndexEntry}
use Rattle.gitbase_core.specs.Entry.{is_unmerged_entry}
use Rattle.glob_rules.specs.PathSpec.{PathSpec}
use Rattle.dir_classify.specs.declared.entry.Entry.{Entry}
use Rattle.worktree_report.specs.SetupMeant.{insert_paths_in_order}
use Rattle.worktree_report.specs.declared.report.ReportEntry.{ReportEntry}
use Rattle.ls_files.specs.declared.options.Listing.{Listing}
use Rattle.ls_files.specs.declared.options.NamedSpec.{NamedSpec}
use Rattle.ls_files.specs.Lines.{line_of_killed_path}
use Rattle.ls_files.specs.Others.{directories_above_path, directory_place_of_path, has_index_entry_beneath, has_index_entry_at, name, place_of_report_entry, place_listed_for_entry, lists_empty_directories, prepend_name_if_some}
use Rattle.ls_files.specs.Places.{PathWithDirectoryFlag}

-- ---- a directory in the place of a file

-- there is an entry, and its path is not in conflict
abbrev pub is_some_merged_entry : Option IndexEntry → Bool
is_some_merged_entry None = false
is_some_merged_entry (Some e) = not (is_unmerged_entry e)

-- a file of the index stands at a path; of one that is not merged it is not known which
abbrev pub has_merged_entry_at : List IndexEntry → List ℕ → Bool
has_merged_entry_at entries path = is_some_merged_entry (first_entry_at_path path entries)

-- the directory that ends before a byte of a name is to be a file
abbrev pub is_merged_file_ending_at : List IndexEntry → List ℕ → ℕ → Bool
is_merged_file_ending_at entries name at = is_slash (slice_index name at) && has_merged_entry_at entries (take at name)

-- a directory above what is shown is to be a file
abbrev pub lies_below_merged_file : List IndexEntry → List ℕ → Bool
lies_below_merged_file entries name = list_any (has_merged_entry_at entries) (directories_above_path name)

-- ---- a file in the place of a directory

-- the entries whose paths begin with a name
abbrev pub entries_in_range : List IndexEntry → Option (ℕ × ℕ) → List IndexEntry
entries_in_range entries None = []
entries_in_range entries (Some range) = take (range.1 - range.0) (drop range.0 entries)

-- the same of a name: they stand side by side in an index
abbrev pub entries_with_prefix : List IndexEntry → List ℕ → List IndexEntry
entries_with_prefix entries name = entries_in_range entries (entry_range_with_path_prefix name entries)

-- a merged entry whose path is longer than the name that it begins with
abbrev pub is_merged_and_longer : List ℕ → IndexEntry → Bool
is_merged_and_longer name e = not (is_unmerged_entry e) && not (bytes_eq e.path name)

-- the next of them
abbrev pub find_merged_entry_with_proper_prefix : List IndexEntry → List ℕ → Option IndexEntry
find_merged_entry_with_proper_prefix entries name = find (is_merged_and_longer name) (entries_with_prefix entries name)

-- a slash stands behind the name with which its path begins
abbrev pub continues_with_slash : List ℕ → Option IndexEntry → Bool
continues_with_slash name None = false
continues_with_slash name (Some e) = is_slash (slice_index e.path (length name))

-- What is shown is to be a directory. Git looks at the next merged entry alone: with `a.c` and `a/b` in the index a file `a` is not told,
-- since `.` stands before the slash.
abbrev pub is_next_merged_entry_beneath_name : List IndexEntry → List ℕ → Bool
is_next_merged_entry_beneath_name entries name = continues_with_slash name (find_merged_entry_with_proper_prefix entries name)

-- the same of a file: a name with a slash at its end is that of a directory already
abbrev pub is_file_name_directory_in_index : List IndexEntry → List ℕ → Bool
is_file_name_directory_in_index entries name = not (ends_in_slash name) && is_next_merged_entry_beneath_name entries name

-- ---- what is shown

-- what has the name lies in the way
abbrev pub has_file_directory_conflict_in_index : List IndexEntry → List ℕ → Bool
has_file_directory_conflict_in_index entries name = lies_below_merged_file entries name || is_file_name_directory_in_index entries name

-- the index has a directory, or something else at its path
abbrev pub index_has_path_or_beneath : List IndexEntry → List ℕ → Bool
index_has_path_or_beneath entries directory = has_index_entry_at entries directory || has_index_entry_beneath entries (name (directory_place_of_path directory))

-- the same of the directory that ends before a byte of a name
abbrev pub index_has_directory_if_ending_at : List IndexEntry → List ℕ → ℕ → Bool
index_has_directory_if_ending_at entries name at = not (is_slash (slice_index name at)) || index_has_path_or_beneath entries (take at name)

-- all directories above what is shown are
abbrev pub index_has_every_directory_above : List IndexEntry → List ℕ → Bool
index_has_every_directory_above entries name = list_all (index_has_path_or_beneath entries) (directories_above_path name)

-- Without `-o` git does not enter a directory of which the index has nothing, so that what lies in it is not told, also beneath one that is
-- to be a file.
abbrev pub lists_others_or_index_has_parents : Listing → List IndexEntry → List ℕ → Bool
lists_others_or_index_has_parents l entries name = l.others || index_has_every_directory_above entries name

-- git comes to what has a name, and it lies in the way
abbrev pub is_name_reached_and_killed : Listing → List IndexEntry → List ℕ → Bool
is_name_reached_and_killed l entries name = lists_others_or_index_has_parents l entries name && has_file_directory_conflict_in_index entries name

-- the name of a place, if git comes to it and it lies in the way
abbrev pub name_of_place_if_killed : Listing → List IndexEntry → PathWithDirectoryFlag → Option (List ℕ)
name_of_place_if_killed l entries place = if is_name_reached_and_killed l entries (name place) then Some (name place) else None

-- with `--no-empty-directory` what is not entered does not show that a directory is not empty
abbrev pub is_entry_examined_for_killed : Listing → List IndexEntry → Entry → Bool
is_entry_examined_for_killed l entries e = lists_empty_directories l || lists_others_or_index_has_parents l entries (name (place_of_report_entry e))

-- the name of what is shown for an entry, if that lies in the way; it may be a directory above the entry
abbrev pub killed_name_of_shown_place : Listing → List IndexEntry → List PathSpec → List NamedSpec → Entry → Option (List ℕ)
killed_name_of_shown_place l entries specs all e = option_and_then (name_of_place_if_killed l entries) (place_listed_for_entry l entries specs all e)

-- the same of an entry, unless it shows nothing of the directories above it
abbrev pub killed_name_of_entry : Listing → List IndexEntry → List PathSpec → List NamedSpec → Entry → Option (List ℕ)
killed_name_of_entry l entries specs all e =
    if is_entry_examined_for_killed l entries e then killed_name_of_shown_place l entries specs all e else None

-- those of all entries of a report, in its order; a name may come more than once
abbrev pub killed_names_of_report : Listing → List IndexEntry → List PathSpec → List NamedSpec → List ReportEntry → List (List ℕ)
killed_names_of_report l entries specs all [] = []
killed_names_of_report l entries specs all (e ∷ found) = prepend_name_if_some (killed_name_of_entry l entries specs all e.entry) (killed_names_of_report l entries specs all found)

-- the names of what lies in the way, in the order of their bytes, each once
abbrev pub sorted_killed_names : Listing → List IndexEntry → List PathSpec → List NamedSpec → List ReportEntry → List (List ℕ)
sorted_killed_names l entries specs all found = insert_paths_in_order [] (killed_names_of_report l entries specs all found)

-- the lines of what lies in the way, in the order of the names
abbrev pub lines_of_killed_names : Listing → List ℕ → List (List ℕ) → List ℕ
lines_of_killed_names l prefix names = flat_map (line_of_killed_path l prefix) names
