-- What the options choose of an index: git-ls-files(1), "OPTIONS".
use Rattle.std.specs.Prelude.{ℕ, List, [], ◌∷◌, Bool, not, ◌&&◌, ◌||◌, Option, Some, None, if◌then◌else◌}
use Rattle.gitbase_core.specs.declared.entry.IndexEntry.{IndexEntry}
use Rattle.gitbase_core.specs.Entry.{is_unmerged_entry}
use Rattle.gitbase_core.specs.Path.{is_some_equal_path}
use Rattle.ls_files.specs.declared.options.Listing.{Listing}

-- "-u .. forces --stage"
abbrev pub lists_stages : Listing → Bool
lists_stages l = l.stages || l.unmerged

-- what stands in the work tree is shown, so a report is made
abbrev pub needs_worktree_walk : Listing → Bool
needs_worktree_walk l = l.others || l.killed

-- the ignore rules of each directory are asked: "--exclude-standard: Add the standard Git exclusions", "--exclude-per-directory=<file>: Read
-- additional exclude patterns that apply only to the directory and its subdirectories in <file>", which is `.gitignore` here
abbrev pub uses_per_directory_ignore_rules : Listing → Bool
uses_per_directory_ignore_rules l = l.excludes_standard || l.excludes_directories

-- "-c: Show all files cached in Git's index (This is the default if no -c/-s/-d/-o/-u/-k/-m/--resolve-undo options are specified.)"
abbrev pub has_no_listing_option : Listing → Bool
has_no_listing_option l = not (lists_stages l || needs_worktree_walk l)

-- entries of an index are shown: by `-c`, `-s` or `-u`, or since no option chooses anything else
abbrev pub lists_index_entries : Listing → Bool
lists_index_entries l = l.cached || (lists_stages l || has_no_listing_option l)

-- with `-u` those alone that are not merged
abbrev pub passes_unmerged_option : Listing → IndexEntry → Bool
passes_unmerged_option l e = not l.unmerged || is_unmerged_entry e

-- the options choose an entry, whatever its path is
abbrev pub is_index_entry_listed : Listing → IndexEntry → Bool
is_index_entry_listed l e = lists_index_entries l && passes_unmerged_option l e

-- "--deduplicate: When only filenames are shown, suppress duplicates that may come from having multiple stages during a merge .. When any of
-- the -t, --unmerged, or --stage option is in use, this option has no effect."
abbrev pub lists_each_path_once : Listing → Bool
lists_each_path_once l = not l.tags && (l.deduplicates && not (lists_stages l))

-- each path is shown once, and this is the last one
abbrev pub is_dropped_as_repeated_path : Listing → Option (List ℕ) → IndexEntry → Bool
is_dropped_as_repeated_path l last e = lists_each_path_once l && is_some_equal_path last e.path

-- the next entry that is chosen, behind one of the path `last`
abbrev pub is_entry_listed_after_path : Listing → Option (List ℕ) → IndexEntry → Bool
is_entry_listed_after_path l last e = is_index_entry_listed l e && not (is_dropped_as_repeated_path l last e)

-- the entries that are chosen, in the order of the index, behind one of the path `last`
abbrev pub listed_entries_after_path : Listing → Option (List ℕ) → List IndexEntry → List IndexEntry
listed_entries_after_path l last [] = []
listed_entries_after_path l last (e ∷ entries) =
    if is_entry_listed_after_path l last e then e ∷ listed_entries_after_path l (Some e.path) entries else listed_entries_after_path l last entries

-- the entries of a whole index that the options choose; path specs are not asked yet
abbrev pub listed_index_entries : Listing → List IndexEntry → List IndexEntry
listed_index_entries l entries = listed_entries_after_path l None entries
