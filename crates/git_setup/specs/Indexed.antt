-- All that the index file of a work tree says.
use Rattle.std.specs.Prelude.{ℕ, List, [], true, Result, Ok, Err}
use Rattle.gitbase_core.specs.Steps.{and_then}
use Rattle.git_index.specs.IndexFile.{IndexFileContents, parse_index_file_bytes}
use Rattle.worktree_fs.specs.Tree.{Names, LookupResult, found, absent, too_many_links, file, link, directory, other, look}
use Rattle.git_setup.specs.IndexAt.{path_of_index_file}
use Rattle.git_setup.specs.Refusals.{index_result_as_git_result}
use Rattle.git_setup.specs.declared.error.GitRefusal.{GitRefusal}
use Rattle.git_setup.specs.declared.error.GitRefusal.TheVariants as errors
use Rattle.git_setup.specs.declared.indexed.Indexed.{Indexed}

-- the entries with what the file says of each besides
abbrev pub entries_and_details_of_index : IndexFileContents → Result Indexed GitRefusal
entries_and_details_of_index index = Ok (record { entries = index.entries; details = index.details })

-- what the bytes of an index file say; where they are no index, a refusal by the path of the file
abbrev pub parse_index_entries_and_details : List ℕ → List ℕ → Result Indexed GitRefusal
parse_index_entries_and_details path bytes = and_then entries_and_details_of_index (index_result_as_git_result path (parse_index_file_bytes bytes))

-- what the file that a path leads to says; where nothing is there, nothing. What is there and is no file is refused, and an endless link
abbrev pub read_index_and_details_at_path : List ℕ → LookupResult → Result Indexed GitRefusal
read_index_and_details_at_path path (found (file bytes)) = parse_index_entries_and_details path bytes
read_index_and_details_at_path path (found (link target)) = Err (errors.IndexNode path)
read_index_and_details_at_path path (found (directory names)) = Err (errors.IndexNode path)
read_index_and_details_at_path path (found other) = Err (errors.IndexNode path)
read_index_and_details_at_path path absent = Ok (record { entries = []; details = [] })
read_index_and_details_at_path path too_many_links = Err (errors.IndexNode path)

-- what the file `index` of a git directory says, links followed; no entries where there is none
abbrev pub read_index_and_details_of_git_dir : Names → List ℕ → Result Indexed GitRefusal
read_index_and_details_of_git_dir t git = read_index_and_details_at_path (path_of_index_file git) (look t (path_of_index_file git) true)
