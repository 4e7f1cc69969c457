-- What is shown of an index.
use Rattle.std.specs.Prelude.{ℕ, List, [], Bool, ◌||◌, ◌==◌, Some, if◌then◌else◌}
use Rattle.std.specs.List.{flat_map}
use Rattle.gitbase_core.specs.Entry.{mode_bits, gitlink_mode, sparse_directory_mode}
use Rattle.gitbase_core.specs.declared.entry.IndexEntry.{IndexEntry}
use Rattle.glob_rules.specs.PathSpec.{PathSpec}
use Rattle.glob_rules.specs.PathSpecs.{match_of_path_by_specs, is_including_match}
use Rattle.ls_files.specs.declared.options.Listing.{Listing}
use Rattle.ls_files.specs.Choices.{listed_index_entries}
use Rattle.ls_files.specs.Lines.{line_of_index_entry}

-- the path specs match a path, as that of a directory or not
abbrev pub do_specs_match_path : List PathSpec → List ℕ → Bool → Bool
do_specs_match_path specs path is_dir = is_including_match (match_of_path_by_specs specs path (Some is_dir))

-- a directory stands at the path of a submodule, and of what a sparse index has in the place of a directory
abbrev pub is_submodule_or_sparse_directory : IndexEntry → Bool
is_submodule_or_sparse_directory e = mode_bits e.mode == gitlink_mode || mode_bits e.mode == sparse_directory_mode

-- the path specs match an entry by what the index has there, not by what stands in the work tree
abbrev pub do_specs_match_index_entry : List PathSpec → IndexEntry → Bool
do_specs_match_index_entry specs e = do_specs_match_path specs e.path (is_submodule_or_sparse_directory e)

-- the line of an entry, if it is matched
abbrev pub index_line_if_specs_match : Listing → List ℕ → List PathSpec → IndexEntry → List ℕ
index_line_if_specs_match l prefix specs e = if do_specs_match_index_entry specs e then line_of_index_entry l prefix e else []

-- the lines of those entries that the path specs match, in their order
abbrev pub lines_of_matched_entries : Listing → List ℕ → List PathSpec → List IndexEntry → List ℕ
lines_of_matched_entries l prefix specs entries = flat_map (index_line_if_specs_match l prefix specs) entries

-- the lines of the entries that are chosen and matched, in the order of the index
abbrev pub text_of_listed_index : Listing → List ℕ → List PathSpec → List IndexEntry → List ℕ
text_of_listed_index l prefix specs entries = lines_of_matched_entries l prefix specs (listed_index_entries l entries)
