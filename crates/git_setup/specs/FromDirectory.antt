-- A work tree whose paths are compared with its index, as it is called for in a directory of it.
use Rattle.std.specs.Prelude.{ℕ, List, Bool, false, Result, Ok}
use Rattle.git_index.specs.declared.stat.Detail.{Detail}
use Rattle.git_places.specs.Places.{RepositoryPlaces}
use Rattle.git_places.specs.Surroundings.{Surroundings}
use Rattle.gitbase_core.specs.declared.entry.IndexEntry.{IndexEntry}
use Rattle.glob_rules.specs.PathSpec.{PathSpec}
use Rattle.worktree_fs.specs.Tree.{Names}
use Rattle.git_setup.specs.AskedSpecs.{parse_pathspec_arguments}
use Rattle.git_setup.specs.Compared.{read_comparison_settings}
use Rattle.git_setup.specs.Found.{current_prefix_in_work_tree}
use Rattle.git_setup.specs.IndexAt.{path_of_index_file}
use Rattle.git_setup.specs.Indexed.{read_index_and_details_of_git_dir}
use Rattle.git_setup.specs.Present.{index_with_present_entries_unskipped}
use Rattle.git_setup.specs.Steps.{◌>>=◌}
use Rattle.git_setup.specs.declared.compared.Compared.{Compared}
use Rattle.git_setup.specs.declared.error.GitRefusal.{GitRefusal}
use Rattle.git_setup.specs.declared.from_directory.ComparedFrom.{ComparedFrom}
use Rattle.git_setup.specs.declared.settings.Settings.{Settings}

-- the entries of the index file, each as it is seen in the work tree
abbrev pub index_with_actual_skip_flags : Names → RepositoryPlaces → Bool → List IndexEntry → Result (List IndexEntry) GitRefusal
index_with_actual_skip_flags t places looks entries = index_with_present_entries_unskipped t places.root (path_of_index_file places.git) looks entries

-- the comparison at the top of these places: which entries, by which details, path specs and settings
abbrev pub compared_of_fields : RepositoryPlaces → List IndexEntry → List Detail → List PathSpec → Settings → Compared
compared_of_fields places index details specs settings = record { root = places.root; index = index; details = details; specs = specs; settings = settings }

-- with the path specs that are asked for, and the directory from the top
unfoldable pub parse_pathspecs_into_comparison_setup : RepositoryPlaces → Surroundings → Bool → List (List ℕ) → List IndexEntry → List Detail → Settings → Result ComparedFrom GitRefusal
parse_pathspecs_into_comparison_setup places around prefers paths index details settings = do
  specs ← parse_pathspec_arguments prefers false places.root around.directory paths
  Ok (record {
    compared = compared_of_fields places index details specs.all settings;
    each = specs.each;
    prefix = current_prefix_in_work_tree places.root around.directory;
  })

-- all of it, or the first refusal
unfoldable pub read_comparison_setup_from_directory : Names → RepositoryPlaces → Surroundings → Bool → List (List ℕ) → Result ComparedFrom GitRefusal
read_comparison_setup_from_directory t places around prefers paths = do
  indexed ← read_index_and_details_of_git_dir t places.git
  settings ← read_comparison_settings t places around indexed.entries
  index ← index_with_actual_skip_flags t places settings.looks_for_skipped indexed.entries
  parse_pathspecs_into_comparison_setup places around prefers paths index indexed.details settings
