-- The index file of a work tree.
use Rattle.std.specs.Prelude.{ℕ, List, [], true, codes, Result, Ok, Err}
use Rattle.gitbase_core.specs.declared.entry.IndexEntry.{IndexEntry}
use Rattle.git_index.specs.IndexFile.{IndexFileContents, parse_index_file_bytes}
use Rattle.worktree_fs.specs.Changes.{resolve_path_from_directory}
use Rattle.worktree_fs.specs.Tree.{Names, LookupResult, found, absent, too_many_links, file, link, directory, other, look}
use Rattle.git_setup.specs.Refusals.{index_result_as_git_result}
use Rattle.gitbase_core.specs.Steps.{and_then}
use Rattle.git_setup.specs.declared.error.GitRefusal.{GitRefusal}
use Rattle.git_setup.specs.declared.error.GitRefusal.TheVariants as errors

-- each work tree has its own, in its git directory
abbrev pub path_of_index_file : List ℕ → List ℕ
path_of_index_file git = resolve_path_from_directory (codes "index") git

-- the entries alone, without the details that the file has beside them
abbrev pub entries_of_index_file : IndexFileContents → Result (List IndexEntry) GitRefusal
entries_of_index_file index = Ok index.entries

-- the entries in the bytes of a file
abbrev pub parse_index_entries : List ℕ → List ℕ → Result (List IndexEntry) GitRefusal
parse_index_entries path bytes = and_then entries_of_index_file (index_result_as_git_result path (parse_index_file_bytes bytes))

-- the entries of the file that a path leads to; where nothing is there, there are none. What is there and is no file is refused, and an
-- endless link
abbrev pub read_index_entries_at_path : List ℕ → LookupResult → Result (List IndexEntry) GitRefusal
read_index_entries_at_path path (found (file bytes)) = parse_index_entries path bytes
read_index_entries_at_path path (found (link target)) = Err (errors.IndexNode path)
read_index_entries_at_path path (found (directory names)) = Err (errors.IndexNode path)
read_index_entries_at_path path (found other) = Err (errors.IndexNode path)
read_index_entries_at_path path absent = Ok []
read_index_entries_at_path path too_many_links = Err (errors.IndexNode path)

-- the entries of the index as they stand in its file
abbrev pub read_index_entries_of_git_dir : Names → List ℕ → Result (List IndexEntry) GitRefusal
read_index_entries_of_git_dir t git = read_index_entries_at_path (path_of_index_file git) (look t (path_of_index_file git) true)
