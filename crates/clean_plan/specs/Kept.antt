-- Which paths are kept, whatever stands there.
use Rattle.std.specs.Prelude.{ℕ, List, [], ◌∷◌, Bool, true, false, ◌||◌, Option, Some, None, is_some}
use Rattle.std.specs.List.{list_any}
use Rattle.gitbase_core.specs.Index.{first_entry_at_path}
use Rattle.gitbase_core.specs.Kinds.{entries_beneath_path}
use Rattle.gitbase_core.specs.Lookup.{first_entry_at_path_icase, first_entry_beneath_directory_icase}
use Rattle.gitbase_core.specs.Path.{components, is_prefix_by_whole_components, is_empty_or_root_path}
use Rattle.gitbase_core.specs.Text.{is_dot_git_ignoring_case}
use Rattle.gitbase_core.specs.declared.entry.IndexEntry.{IndexEntry}
use Rattle.glob_rules.specs.PathSpec.{PathSpec}
use Rattle.glob_rules.specs.PathSpecs.{match_of_path_by_specs}
use Rattle.glob_rules.specs.declared.pathspec.Match.{Match}
use Rattle.clean_plan.specs.Asked.{CleanPlanInputs}

-- a component of a path is `.git`, whatever the case of its letters
abbrev pub has_dot_git_component : List ℕ → Bool
has_dot_git_component path = list_any is_dot_git_ignoring_case (components path)

-- a path is the current directory, or that lies beneath it
abbrev pub is_current_dir_at_or_beneath : Option (List ℕ) → List ℕ → Bool
is_current_dir_at_or_beneath None path = false
is_current_dir_at_or_beneath (Some current) path = is_prefix_by_whole_components path current

-- there are entries
abbrev pub is_nonempty_entry_list : List IndexEntry → Bool
is_nonempty_entry_list [] = false
is_nonempty_entry_list (e ∷ entries) = true

-- the index has an entry at a path, or some beneath it, letters compared with or without regard to their case
abbrev pub has_index_entry_at_or_below_path : Bool → List IndexEntry → List ℕ → Bool
has_index_entry_at_or_below_path false index path = is_some (first_entry_at_path path index) || is_nonempty_entry_list (entries_beneath_path path index)
has_index_entry_at_or_below_path true index path = is_some (first_entry_at_path_icase path index) || is_some (first_entry_beneath_directory_icase path index)

-- A path is kept: it is that of the work tree's root, or a component of it is `.git`, or the current directory is there or
-- beneath, or an index entry is.
abbrev pub is_nonroot_path_protected_from_clean : CleanPlanInputs → List ℕ → Bool
is_nonroot_path_protected_from_clean asked path = is_empty_or_root_path path || (has_dot_git_component path || (is_current_dir_at_or_beneath asked.current path || has_index_entry_at_or_below_path asked.fold asked.index path))

-- a match that takes the path out
abbrev pub is_excluding_spec_match : Option Match → Bool
is_excluding_spec_match None = false
is_excluding_spec_match (Some found) = found.excluded

-- the path specs take out the directory at a path
abbrev pub specs_exclude_directory : List PathSpec → List ℕ → Bool
specs_exclude_directory specs path = is_excluding_spec_match (match_of_path_by_specs specs path (Some true))
