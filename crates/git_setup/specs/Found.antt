-- The setup that is found from a directory.
use Rattle.std.specs.Prelude.{ℕ, List, [], ◌∷◌, Bool, true, false, map, codes, Option, Some, None, is_some, Result, Ok, Err, unwrap_or, if◌then◌else◌}
use Rattle.std.specs.FinMap.{empty}
use Rattle.gitbase_core.specs.declared.entry.IndexEntry.{IndexEntry}
use Rattle.git_config_files.specs.Files.{ConfiguredFile}
use Rattle.git_config_files.specs.Rules.{RulesOutsideWorkTree, read_rules_outside_work_tree}
use Rattle.git_config_files.specs.Stack.{Stack, read_stack_of_work_tree}
use Rattle.git_config_files.specs.Safe.{require_trusted_top}
use Rattle.git_places.specs.Limits.{SearchLimits, search_limits_of_surroundings}
use Rattle.git_places.specs.Places.{RepositoryPlaces, places_of_work_tree_top}
use Rattle.git_places.specs.Surroundings.{Surroundings}
use Rattle.git_places.specs.Upward.{WorkTreeTop, nearest_top_within_limits}
use Rattle.worktree_fs.specs.Changes.{real_path}
use Rattle.worktree_fs.specs.Owners.{OwnershipByPath}
use Rattle.worktree_fs.specs.Tree.{Names}
use Rattle.worktree_report.specs.ConfigFiles.{ConfigFile}
use Rattle.worktree_report.specs.declared.setup.Setup.{Setup}
use Rattle.worktree_report.specs.declared.setup.SetupOptions.{SetupOptions}
use Rattle.git_setup.specs.AskedSpecs.{parse_pathspec_arguments}
use Rattle.git_setup.specs.Placed.{path_below_root}
use Rattle.git_setup.specs.declared.pathspecs.AskedSpecs.{AskedSpecs}
use Rattle.git_setup.specs.GlobalRules.{combined_global_rules}
use Rattle.git_setup.specs.IndexAt.{read_index_entries_of_git_dir, path_of_index_file}
use Rattle.git_setup.specs.OwnDirectories.{git_dirs_needing_protection_if_deleting}
use Rattle.git_setup.specs.Present.{index_with_present_entries_unskipped}
use Rattle.git_setup.specs.Protected.{protected_paths_if_deleting}
use Rattle.git_setup.specs.Refusals.{files_result_as_git_result, places_result_as_git_result}
use Rattle.gitbase_core.specs.Steps.{and_then}
use Rattle.git_setup.specs.Steps.{◌>>=◌}
use Rattle.git_setup.specs.Switches.{read_case_sparse_and_quote_switches}
use Rattle.git_setup.specs.declared.asked.Asked.{Asked}
use Rattle.git_setup.specs.declared.error.GitRefusal.{GitRefusal}
use Rattle.git_setup.specs.declared.error.GitRefusal.TheVariants as errors
use Rattle.git_setup.specs.declared.found.Found.{Found}
use Rattle.git_setup.specs.declared.parts.Parts.{Parts}
use Rattle.git_setup.specs.declared.parts.Pieces.{Pieces}
use Rattle.git_setup.specs.declared.read_here.Read.{Read}
use Rattle.git_setup.specs.declared.switches.Switches.{Switches}

-- ---- where

-- the nearest work tree, if it is the user's or safe
abbrev pub find_trusted_top_within_limits : Names → OwnershipByPath → Surroundings → SearchLimits → Result WorkTreeTop GitRefusal
find_trusted_top_within_limits t owned around limits = do
  top ← places_result_as_git_result (nearest_top_within_limits limits t owned around.directory)
  files_result_as_git_result (require_trusted_top t owned around top)

-- that of the current directory, within the limits that the environment sets
abbrev pub find_trusted_top : Names → OwnershipByPath → Surroundings → Result WorkTreeTop GitRefusal
find_trusted_top t owned around = and_then (find_trusted_top_within_limits t owned around) (places_result_as_git_result (search_limits_of_surroundings t owned around))

-- a variable that points git elsewhere, as `GIT_DIR` does, is refused by its name, whatever the search gives
abbrev pub result_unless_variable_redirects_git : Option (List ℕ) → Result WorkTreeTop GitRefusal → Result WorkTreeTop GitRefusal
result_unless_variable_redirects_git None given = given
result_unless_variable_redirects_git (Some name) given = Err (errors.Elsewhere name)

-- the nearest work tree that is the user's or safe; where `GIT_DIR`, `GIT_WORK_TREE` or such is set, a refusal
abbrev pub find_top_unless_variable_redirects_git : Names → OwnershipByPath → Surroundings → Result WorkTreeTop GitRefusal
find_top_unless_variable_redirects_git t owned around = result_unless_variable_redirects_git around.elsewhere (find_trusted_top t owned around)

-- ---- what is asked

-- the walk is to find what may be deleted, as for `git clean`
abbrev pub is_for_deletion : SetupOptions → Bool
is_for_deletion options = is_some options.for_deletion

-- whether case counts in names is what `core.ignoreCase` says, whatever the caller has set
abbrev pub options_with_ignore_case : SetupOptions → Bool → SetupOptions
options_with_ignore_case options ignore_case = record options { ignore_case = ignore_case }

-- the current directory matters to a deletion alone
abbrev pub current_dir_if_deleting : SetupOptions → List ℕ → Option (List ℕ)
current_dir_if_deleting options directory = if is_for_deletion options then Some directory else None

-- ---- the configurations that are read for submodules

-- a configuration by its path without links; by the path as given where that leads nowhere
abbrev pub config_by_real_path : Names → ConfiguredFile → ConfigFile
config_by_real_path t file = (file.source, unwrap_or (real_path t file.path (codes "/")) file.path)

-- those in which keys stand, by their paths without links
abbrev pub configs_if_submodules_requested : Names → SetupOptions → List ConfiguredFile → List ConfigFile
configs_if_submodules_requested t options files = if options.submodules then map (config_by_real_path t) files else []

-- ---- what the files say

-- the entries of the index as they are seen in the work tree, and what the configurations say
unfoldable pub read_index_and_configurations : Names → RepositoryPlaces → Surroundings → Result Read GitRefusal
read_index_and_configurations t places around = do
  entries ← read_index_entries_of_git_dir t places.git
  stack ← files_result_as_git_result (read_stack_of_work_tree t places around)
  switches ← read_case_sparse_and_quote_switches stack.file.sections
  index ← index_with_present_entries_unskipped t places.root (path_of_index_file places.git) switches.looks_for_skipped entries
  Ok (record { stack = stack; switches = switches; index = index })

-- what a setup has besides the index: rules behind all others, path specs, what a deletion spares, configurations
abbrev pub pieces_from_rules_and_configs : Names → SetupOptions → List ConfiguredFile → RulesOutsideWorkTree → AskedSpecs → List (List ℕ) → Pieces
pieces_from_rules_and_configs t options files rules specs worktrees =
    record { globals = combined_global_rules rules; specs = specs; worktrees = worktrees; configs = configs_if_submodules_requested t options files }

-- the rules files outside the work tree
unfoldable pub read_outer_rules_files : Names → RepositoryPlaces → Surroundings → Read → Result RulesOutsideWorkTree GitRefusal
read_outer_rules_files t places around read = files_result_as_git_result (read_rules_outside_work_tree t places around read.stack.file.sections)

-- What a setup has of the rules files, the path specs and the submodules. Of path specs the letters compare as they are, whatever
-- `core.ignoreCase` says, unless a spec says `icase`.
unfoldable pub read_rules_specs_and_protected_paths : Names → RepositoryPlaces → Surroundings → Asked → Read → Result Pieces GitRefusal
read_rules_specs_and_protected_paths t places around asked read = do
  rules ← read_outer_rules_files t places around read
  specs ← parse_pathspec_arguments asked.prefers_current false places.root around.directory asked.paths.items
  worktrees ← protected_paths_if_deleting (is_for_deletion asked.options) read.switches.ignore_case (git_dirs_needing_protection_if_deleting (is_for_deletion asked.options) t places) read.index
  Ok (pieces_from_rules_and_configs t asked.options read.stack.files rules specs worktrees)

-- the same with what was read
abbrev pub setup_parts_of_read_and_pieces : Read → Pieces → Parts
setup_parts_of_read_and_pieces read pieces =
    record {
      ignore_case = read.switches.ignore_case;
      quote_path = read.switches.quote_path;
      config = read.stack.file;
      index = read.index;
      globals = pieces.globals;
      specs = pieces.specs;
      worktrees = pieces.worktrees;
      configs = pieces.configs;
    }

-- all parts of a setup, once index and configurations are read; the first of the others that is refused ends it
unfoldable pub read_remaining_setup_parts : Names → RepositoryPlaces → Surroundings → Asked → Read → Result Parts GitRefusal
read_remaining_setup_parts t places around asked read = do
  pieces ← read_rules_specs_and_protected_paths t places around asked read
  Ok (setup_parts_of_read_and_pieces read pieces)

-- ---- all of it

-- what a setup has from the repository
abbrev pub setup_of_request_and_parts : List ℕ → List ℕ → Asked → Parts → Setup
setup_of_request_and_parts git directory asked parts =
    record {
      git_dir = Some git;
      current_dir = current_dir_if_deleting asked.options directory;
      root = None;
      depth = asked.depth;
      index = parts.index;
      blobs = empty;
      overrides = [];
      globals = parts.globals;
      specs = parts.specs.all;
      worktrees = record { keys = parts.worktrees };
      configs = parts.configs;
      options = options_with_ignore_case asked.options parts.ignore_case;
    }

-- the current directory from the top; no bytes where it is the top, or is not in the work tree
abbrev pub current_prefix_in_work_tree : List ℕ → List ℕ → List ℕ
current_prefix_in_work_tree root directory = unwrap_or (path_below_root root directory) []

-- the setup, and what a command needs to print: the directory it runs in, each path spec alone, `core.quotePath`
abbrev pub found_setup_from_places_and_parts : RepositoryPlaces → Surroundings → Asked → Parts → Found
found_setup_from_places_and_parts places around asked parts =
    record {
      root = places.root;
      setup = setup_of_request_and_parts places.own around.directory asked parts;
      prefix = current_prefix_in_work_tree places.root around.directory;
      each = parts.specs.each;
      quote_path = parts.quote_path;
      config = parts.config;
    }

-- what is found at the top of a work tree
unfoldable pub read_setup_at_top : Names → Surroundings → Asked → WorkTreeTop → Result Found GitRefusal
read_setup_at_top t around asked top = do
  places ← places_result_as_git_result (places_of_work_tree_top t top)
  read ← read_index_and_configurations t places around
  parts ← read_remaining_setup_parts t places around asked read
  Ok (found_setup_from_places_and_parts places around asked parts)

-- the setup that is found from the current directory, or the first refusal
unfoldable pub find_and_read_setup : Names → OwnershipByPath → Surroundings → Asked → Result Found GitRefusal
find_and_read_setup t owned around asked = do
  top ← find_top_unless_variable_redirects_git t owned around
  read_setup_at_top t around asked top
