-- A work tree whose paths are compared with its index.
use Rattle.std.specs.Prelude.{ℕ, List, false, Result, Ok, Err}
use Rattle.gitbase_core.specs.Index.{checked_index_entries}
use Rattle.gitbase_core.specs.Steps.{and_then}
use Rattle.gitbase_core.specs.declared.entry.IndexEntry.{IndexEntry}
use Rattle.git_config_files.specs.Stack.{read_stack_of_work_tree}
use Rattle.git_config_lite.specs.Sections.{Section}
use Rattle.git_places.specs.Places.{RepositoryPlaces, places_of_work_tree_top}
use Rattle.git_places.specs.Surroundings.{Surroundings}
use Rattle.glob_rules.specs.PathSpec.{PathSpec}
use Rattle.worktree_fs.specs.Owners.{OwnershipByPath}
use Rattle.worktree_fs.specs.Tree.{Names}
use Rattle.git_setup.specs.AskedSpecs.{parse_pathspec_arguments}
use Rattle.git_setup.specs.Conversions.{may_convert_file_contents}
use Rattle.git_setup.specs.Found.{find_top_unless_variable_redirects_git}
use Rattle.git_setup.specs.Ignoring.{may_ignore_submodules}
use Rattle.git_setup.specs.IndexAt.{path_of_index_file}
use Rattle.git_setup.specs.Indexed.{read_index_and_details_of_git_dir}
use Rattle.git_setup.specs.Refusals.{files_result_as_git_result, entries_result_as_git_result, places_result_as_git_result}
use Rattle.git_setup.specs.Settings.{stat_and_mode_settings_unless_fsmonitor}
use Rattle.git_setup.specs.Steps.{◌>>=◌}
use Rattle.git_setup.specs.Switches.{read_case_sparse_and_quote_switches}
use Rattle.git_setup.specs.declared.compared.Compared.{Compared}
use Rattle.git_setup.specs.declared.error.GitRefusal.{GitRefusal}
use Rattle.git_setup.specs.declared.indexed.Indexed.{Indexed}
use Rattle.git_setup.specs.declared.pathspecs.AskedSpecs.{AskedSpecs}
use Rattle.git_setup.specs.declared.settings.Settings.{Settings}

-- the work tree around the current directory, and where its repository lies
unfoldable pub find_repository_places : Names → OwnershipByPath → Surroundings → Result RepositoryPlaces GitRefusal
find_repository_places t owned around = do
  top ← find_top_unless_variable_redirects_git t owned around
  places_result_as_git_result (places_of_work_tree_top t top)

-- what a configuration and the files say of how the work tree is compared
unfoldable pub comparison_settings_by_config_and_files : Names → RepositoryPlaces → Surroundings → List Section → List IndexEntry → Result Settings GitRefusal
comparison_settings_by_config_and_files t places around sections entries = do
  switches ← read_case_sparse_and_quote_switches sections
  nodes ← stat_and_mode_settings_unless_fsmonitor sections
  converts ← may_convert_file_contents t places around sections entries
  Ok (record {
    nodes = nodes;
    quote_path = switches.quote_path;
    looks_for_skipped = switches.looks_for_skipped;
    converts = converts;
    ignores_submodules = may_ignore_submodules t places.root sections entries;
  })

-- the settings by all configurations that count for the work tree; one that cannot be read is refused
unfoldable pub read_comparison_settings : Names → RepositoryPlaces → Surroundings → List IndexEntry → Result Settings GitRefusal
read_comparison_settings t places around entries = do
  stack ← files_result_as_git_result (read_stack_of_work_tree t places around)
  comparison_settings_by_config_and_files t places around stack.file.sections entries

-- the path specs that are asked for; where there are none, all is meant
abbrev pub parse_requested_pathspecs_as_search : RepositoryPlaces → Surroundings → List (List ℕ) → Result (List PathSpec) GitRefusal
parse_requested_pathspecs_as_search places around paths = and_then (λ (specs : AskedSpecs). Ok specs.all) (parse_pathspec_arguments false false places.root around.directory paths)

-- with the index as it stands in its file
unfoldable pub comparison_setup_of_index_and_settings : RepositoryPlaces → Surroundings → List (List ℕ) → Indexed → Settings → Result Compared GitRefusal
comparison_setup_of_index_and_settings places around paths indexed settings = do
  specs ← parse_requested_pathspecs_as_search places around paths
  index ← entries_result_as_git_result (path_of_index_file places.git) (checked_index_entries indexed.entries)
  Ok (record { root = places.root; index = index; details = indexed.details; specs = specs; settings = settings })

-- all of it, or the first refusal
unfoldable pub read_comparison_setup : Names → RepositoryPlaces → Surroundings → List (List ℕ) → Result Compared GitRefusal
read_comparison_setup t places around paths = do
  indexed ← read_index_and_details_of_git_dir t places.git
  settings ← read_comparison_settings t places around indexed.entries
  comparison_setup_of_index_and_settings places around paths indexed settings
