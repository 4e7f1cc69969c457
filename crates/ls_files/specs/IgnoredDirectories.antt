-- What `ls-files -o -i --directory` shows: git-ls-files(1), "-i: Show only ignored files in the output", "--directory: If a whole directory is
-- classified as "other", show just its name with a trailing slash and not its whole contents."
--
-- For example, with a rule `*.o` and a directory `d` that has `a.o` alone: `d/` and `d/a.o`. With `--no-empty-directory`: `d/`.
use Rattle.std.specs.Prelude.{ℕ, List, [], ◌∷◌, Bool, true, false, not, ◌&&◌, ◌||◌, bytes_eq, find, slice_index, take, Option, Some, None, if◌then◌else◌}
use Rattle.std.specs.List.{list_any}
use Rattle.gitbase_core.specs.Path.{is_slash}
use Rattle.gitbase_core.specs.declared.entry.IndexEntry.{IndexEntry}
use Rattle.glob_rules.specs.Ignore.{RulesList}
use Rattle.glob_rules.specs.declared.Case.{Case}
use Rattle.dir_classify.specs.declared.entry.Entry.{Entry}
use Rattle.dir_classify.specs.declared.entry.Status.{Status}
use Rattle.dir_classify.specs.declared.entry.Status.TheVariants.{Pruned, Tracked, Ignored, Untracked}
use Rattle.worktree_report.specs.SetupMeant.{insert_paths_in_order}
use Rattle.worktree_report.specs.declared.report.ReportEntry.{ReportEntry}
use Rattle.worktree_report.specs.declared.setup.Setup.{Setup}
use Rattle.worktree_stack.specs.Mappings.{case_by_ignore_case}
use Rattle.ls_files.specs.declared.options.Listing.{Listing}
use Rattle.ls_files.specs.Alone.{has_patterns_without_standard_or_directory_rules, is_excluded, rules_from_setup_patterns}
use Rattle.ls_files.specs.Others.{directories_above_path, directory_place_of_path, has_index_entry_beneath, is_kind_listed, is_untracked_status, name, name_of_place_unless_indexed, place_of_report_entry, lists_empty_directories, prepend_name_if_some}
use Rattle.ls_files.specs.Places.{PlaceWithIgnoredFlag, PathWithDirectoryFlag}

-- only what is ignored is shown, and directories in the place of what they hold
abbrev pub has_ignored_and_directories_options : Listing → Bool
has_ignored_and_directories_options l = l.ignored && l.directories

-- ---- what is ignored

-- the patterns of the command line where the walk asks no rules, else none
abbrev pub given_patterns_if_no_other_rules : Listing → Setup → List RulesList
given_patterns_if_no_other_rules l setup = if has_patterns_without_standard_or_directory_rules l then rules_from_setup_patterns setup else []

-- an ignore rule excludes it, of either kind
abbrev pub is_ignored_status : Status → Bool
is_ignored_status (Ignored kind) = true
is_ignored_status Untracked = false
is_ignored_status Tracked = false
is_ignored_status Pruned = false

-- untracked or ignored, and a file, a link or a repository; and where directories without files are shown such a directory
abbrev pub is_listable_untracked_or_ignored : Listing → Entry → Bool
is_listable_untracked_or_ignored l e = (is_ignored_status e.status || is_untracked_status e.status) && is_kind_listed l e.disk_kind

-- Patterns exclude a directory, or one above it, and the index has nothing in it: git does not look into it.
abbrev pub is_directory_excluded_and_unindexed : List RulesList → Case → List IndexEntry → List ℕ → Bool
is_directory_excluded_and_unindexed patterns case entries d = is_excluded patterns case (directory_place_of_path d) && not (has_index_entry_beneath entries (name (directory_place_of_path d)))

-- the directory that ends before a byte of a path is such a one
abbrev pub is_excluded_unindexed_directory_ending_at : List RulesList → Case → List IndexEntry → List ℕ → ℕ → Bool
is_excluded_unindexed_directory_ending_at patterns case entries path at = is_slash (slice_index path at) && is_directory_excluded_and_unindexed patterns case entries (take at path)

-- the highest one above a path
abbrev pub highest_excluded_unindexed_directory : List RulesList → Case → List IndexEntry → List ℕ → Option (List ℕ)
highest_excluded_unindexed_directory patterns case entries path = find (is_directory_excluded_and_unindexed patterns case entries) (directories_above_path path)

-- where directories without files are not shown, it matters what lies in it
abbrev pub stops_at_excluded_directories : Listing → Bool
stops_at_excluded_directories l = lists_empty_directories l && has_patterns_without_standard_or_directory_rules l

-- the directory above a path that git shows without a look into it; none with `--no-empty-directory` or rules of directories
abbrev pub excluded_directory_standing_for : Listing → List RulesList → Case → List IndexEntry → List ℕ → Option (List ℕ)
excluded_directory_standing_for l patterns case entries path = if stops_at_excluded_directories l then highest_excluded_unindexed_directory patterns case entries path else None

-- an entry is ignored where the walk found it so, and where patterns exclude it
abbrev pub entry_place_with_ignored_flag : List RulesList → Case → Entry → PlaceWithIgnoredFlag
entry_place_with_ignored_flag patterns case e = record { place = place_of_report_entry e; ignored = is_ignored_status e.status || is_excluded patterns case (place_of_report_entry e) }

-- the same of an entry that may be shown, and none of any other
abbrev pub flagged_entry_place_if_listable : Listing → List RulesList → Case → Entry → Option PlaceWithIgnoredFlag
flagged_entry_place_if_listable l patterns case e = if is_listable_untracked_or_ignored l e then Some (entry_place_with_ignored_flag patterns case e) else None

-- whatever an entry is, it shows that such a directory stands above it
abbrev pub given_directory_or_flagged_entry : Listing → List RulesList → Case → Entry → Option (List ℕ) → Option PlaceWithIgnoredFlag
given_directory_or_flagged_entry l patterns case e None = flagged_entry_place_if_listable l patterns case e
given_directory_or_flagged_entry l patterns case e (Some d) = Some (record { place = directory_place_of_path d; ignored = true })

-- what git comes to of an entry, and whether that is ignored
abbrev pub excluded_directory_or_flagged_entry : Listing → List RulesList → Case → List IndexEntry → Entry → Option PlaceWithIgnoredFlag
excluded_directory_or_flagged_entry l patterns case entries e = given_directory_or_flagged_entry l patterns case e (excluded_directory_standing_for l patterns case entries e.rela_path)

-- what an entry comes to, in front of the others; one that comes to nothing adds none
abbrev pub prepend_flagged_place_if_some : Option PlaceWithIgnoredFlag → List PlaceWithIgnoredFlag → List PlaceWithIgnoredFlag
prepend_flagged_place_if_some None more = more
prepend_flagged_place_if_some (Some j) more = j ∷ more

-- the same of the entries of a report, in their order
abbrev pub places_with_ignored_flag : Listing → List RulesList → Case → List IndexEntry → List ReportEntry → List PlaceWithIgnoredFlag
places_with_ignored_flag l patterns case entries [] = []
places_with_ignored_flag l patterns case entries (e ∷ found) = prepend_flagged_place_if_some (excluded_directory_or_flagged_entry l patterns case entries e.entry) (places_with_ignored_flag l patterns case entries found)

-- ---- directories of which all is ignored

-- some directories, in the order of their bytes, with those above what is not ignored
abbrev pub insert_directories_above_unless_ignored : List (List ℕ) → PlaceWithIgnoredFlag → List (List ℕ)
insert_directories_above_unless_ignored mixed j = if j.ignored then mixed else insert_paths_in_order mixed (directories_above_path j.place.path)

-- the same of some places, one by one
abbrev pub insert_directories_of_all_unignored : List (List ℕ) → List PlaceWithIgnoredFlag → List (List ℕ)
insert_directories_of_all_unignored mixed [] = mixed
insert_directories_of_all_unignored mixed (j ∷ all) = insert_directories_of_all_unignored (insert_directories_above_unless_ignored mixed j) all

-- those in which something is not ignored
abbrev pub directories_with_unignored : List PlaceWithIgnoredFlag → List (List ℕ)
directories_with_unignored all = insert_directories_of_all_unignored [] all

-- all that it holds is ignored: nothing of the index lies in it, and nothing that is not ignored
abbrev pub is_wholly_ignored : List IndexEntry → List (List ℕ) → List ℕ → Bool
is_wholly_ignored entries mixed d = not (has_index_entry_beneath entries (name (directory_place_of_path d))) && not (list_any (bytes_eq d) mixed)

-- ---- names

-- some names, in the order of their bytes, with that of a place, of which the index has no path
abbrev pub insert_name_unless_indexed : List IndexEntry → List (List ℕ) → PathWithDirectoryFlag → List (List ℕ)
insert_name_unless_indexed entries names place = insert_paths_in_order names (prepend_name_if_some (name_of_place_unless_indexed entries place) [])

-- the same with the name of a directory, if all that it holds is ignored
abbrev pub insert_if_wholly_ignored : List IndexEntry → List (List ℕ) → List (List ℕ) → List ℕ → List (List ℕ)
insert_if_wholly_ignored entries mixed names d = if is_wholly_ignored entries mixed d then insert_name_unless_indexed entries names (directory_place_of_path d) else names

-- the same with those of directories of which all is ignored
abbrev pub insert_wholly_ignored_of_list : List IndexEntry → List (List ℕ) → List (List ℕ) → List (List ℕ) → List (List ℕ)
insert_wholly_ignored_of_list entries mixed names [] = names
insert_wholly_ignored_of_list entries mixed names (d ∷ directories) = insert_wholly_ignored_of_list entries mixed (insert_if_wholly_ignored entries mixed names d) directories

-- what is ignored is shown, and each directory above it of which all is
abbrev pub insert_place_and_wholly_ignored : List IndexEntry → List (List ℕ) → List (List ℕ) → PathWithDirectoryFlag → List (List ℕ)
insert_place_and_wholly_ignored entries mixed names place = insert_wholly_ignored_of_list entries mixed (insert_name_unless_indexed entries names place) (directories_above_path place.path)

-- the index has nothing in a directory
abbrev pub is_directory_unindexed : List IndexEntry → List ℕ → Bool
is_directory_unindexed entries d = not (has_index_entry_beneath entries (name (directory_place_of_path d)))

-- the directory that ends before a byte of a path is such a one
abbrev pub is_unindexed_directory_ending_at : List IndexEntry → List ℕ → ℕ → Bool
is_unindexed_directory_ending_at entries path at = is_slash (slice_index path at) && is_directory_unindexed entries (take at path)

-- the highest such directory above a path
abbrev pub highest_unindexed_directory_above : List IndexEntry → List ℕ → Option (List ℕ)
highest_unindexed_directory_above entries path = find (is_directory_unindexed entries) (directories_above_path path)

-- "--no-empty-directory: Do not list empty directories": git then looks into the highest directory alone for a file, and shows nothing beneath
abbrev pub insert_unindexed_directory_or_place : List IndexEntry → List (List ℕ) → List (List ℕ) → PathWithDirectoryFlag → Option (List ℕ) → List (List ℕ)
insert_unindexed_directory_or_place entries mixed names place None = insert_name_unless_indexed entries names place
insert_unindexed_directory_or_place entries mixed names place (Some d) = insert_if_wholly_ignored entries mixed names d

-- what one ignored place adds; with `--no-empty-directory` that is one name at most
abbrev pub insert_ignored_place_or_directories : Listing → List IndexEntry → List (List ℕ) → List (List ℕ) → PathWithDirectoryFlag → List (List ℕ)
insert_ignored_place_or_directories l entries mixed names place =
    if lists_empty_directories l then insert_place_and_wholly_ignored entries mixed names place
    else insert_unindexed_directory_or_place entries mixed names place (highest_unindexed_directory_above entries place.path)

-- the same of any place: what is not ignored adds none
abbrev pub insert_names_if_ignored : Listing → List IndexEntry → List (List ℕ) → List (List ℕ) → PlaceWithIgnoredFlag → List (List ℕ)
insert_names_if_ignored l entries mixed names j = if j.ignored then insert_ignored_place_or_directories l entries mixed names j.place else names

-- the same of all places, one by one
abbrev pub insert_names_for_all_ignored : Listing → List IndexEntry → List (List ℕ) → List (List ℕ) → List PlaceWithIgnoredFlag → List (List ℕ)
insert_names_for_all_ignored l entries mixed names [] = names
insert_names_for_all_ignored l entries mixed names (j ∷ all) = insert_names_for_all_ignored l entries mixed (insert_names_if_ignored l entries mixed names j) all

-- what is shown of all places, once it is known which directories hold something that is not ignored
abbrev pub names_of_ignored_places : Listing → List IndexEntry → List PlaceWithIgnoredFlag → List (List ℕ)
names_of_ignored_places l entries all = insert_names_for_all_ignored l entries (directories_with_unignored all) [] all

-- what is shown of the entries of a report, in the order of their bytes, each once
unfoldable pub names_of_ignored_with_directories : Listing → Setup → List ReportEntry → List (List ℕ)
names_of_ignored_with_directories l setup found =
    names_of_ignored_places l setup.index (places_with_ignored_flag l (given_patterns_if_no_other_rules l setup) (case_by_ignore_case setup.options.ignore_case) setup.index found)
