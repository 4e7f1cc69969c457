-- What the index has of paths that are asked about.
use Rattle.std.specs.Prelude.{List, [], ◌∷◌, Bool, true, Option, Some, None, find, Result, Ok, Err, if◌then◌else◌}
use Rattle.std.specs.List.{list_any}
use Rattle.gitbase_core.specs.Entry.{is_submodule_entry, is_sparse_directory_entry}
use Rattle.gitbase_core.specs.Path.{is_beneath_directory}
use Rattle.gitbase_core.specs.declared.entry.IndexEntry.{IndexEntry}
use Rattle.glob_rules.specs.PathSpec.{PathSpec}
use Rattle.glob_rules.specs.PathSpecs.{match_of_path_by_specs, is_including_match}
use Rattle.check_ignore.specs.declared.asked.AskedPath.{AskedPath}
use Rattle.check_ignore.specs.declared.stop.Stop.{Stop}
use Rattle.check_ignore.specs.declared.stop.Stop.TheVariants as stops

-- a path spec takes an entry; a directory stands at the path of a submodule
abbrev pub is_entry_matched_by_spec : List PathSpec → IndexEntry → Bool
is_entry_matched_by_spec spec e = is_including_match (match_of_path_by_specs spec e.path (Some (is_submodule_entry e)))

-- the index has a path, or what lies beneath it
abbrev pub is_any_entry_matched_by_spec : List IndexEntry → List PathSpec → Bool
is_any_entry_matched_by_spec index spec = list_any (is_entry_matched_by_spec spec) index

-- ---- what is refused

-- an index in which an entry stands for a directory is not answered here
abbrev pub refuse_sparse_index : List IndexEntry → Result Bool Stop
refuse_sparse_index index = if list_any is_sparse_directory_entry index then Err stops.SparseIndex else Ok true

-- a path lies in the submodule of an entry
abbrev pub lies_beneath_entry : IndexEntry → AskedPath → Bool
lies_beneath_entry e a = is_beneath_directory e.path a.path

-- no path lies in that of an entry
abbrev pub inside_error_if_path_given : IndexEntry → Option AskedPath → Result Bool Stop
inside_error_if_path_given e None = Ok true
inside_error_if_path_given e (Some a) = Err (stops.Inside a.text e.path)

-- the first path that lies in this submodule is refused; what is no submodule refuses none
abbrev pub refuse_paths_in_entry_if_submodule : List AskedPath → IndexEntry → Result Bool Stop
refuse_paths_in_entry_if_submodule asked e = if is_submodule_entry e then inside_error_if_path_given e (find (lies_beneath_entry e) asked) else Ok true

-- the first refusal of two, or what the second gives
abbrev pub error_or_next_result : Result Bool Stop → Result Bool Stop → Result Bool Stop
error_or_next_result (Ok outside) rest = rest
error_or_next_result (Err e) rest = Err e

-- no path lies in a submodule; else it is told of the first submodule of the index in which one does
abbrev pub refuse_paths_in_submodules : List AskedPath → List IndexEntry → Result Bool Stop
refuse_paths_in_submodules asked [] = Ok true
refuse_paths_in_submodules asked (e ∷ entries) = error_or_next_result (refuse_paths_in_entry_if_submodule asked e) (refuse_paths_in_submodules asked entries)
