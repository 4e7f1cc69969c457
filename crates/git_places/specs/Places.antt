-- The work tree of a directory and where its repository lies.
use Rattle.std.specs.Prelude.{ℕ, Bool, true, false, codes, bytes_eq, is_some, unwrap_or, List, [], ◌∷◌, Option, Some, None, Result, Ok, Err, if◌then◌else◌}
use Rattle.git_config_lite.specs.declared.metadata.Metadata.{Metadata}
use Rattle.git_config_lite.specs.declared.metadata.Source.TheVariants as sources
use Rattle.git_config_lite.specs.Grammar.{parse_text_sections}
use Rattle.git_config_lite.specs.Lookups.{last_string_value}
use Rattle.git_config_lite.specs.Sections.{Section, Configuration}
use Rattle.git_config_lite.specs.Writers.{configuration_with_other_appended}
use Rattle.worktree_fs.specs.Changes.{resolve_path_from_directory, real_path}
use Rattle.worktree_fs.specs.Repository.{common_git_directory, bytes_of_file_lookup, is_lookup_of_directory}
use Rattle.worktree_fs.specs.Tree.{Names, is_empty, look}
use Rattle.git_places.specs.Format.{file_of_last_section_with_key, require_allowed_extensions, config_boolean_or_false, parse_format_version_if_configured}
use Rattle.git_places.specs.GitDirectory.{dot_git_path}
use Rattle.gitbase_core.specs.Steps.{and_then}
use Rattle.git_places.specs.Upward.{WorkTreeTop}
use Rattle.git_places.specs.declared.error.PlacesError.{PlacesError}
use Rattle.git_places.specs.declared.error.PlacesError.TheVariants as errors
use Rattle.git_places.specs.declared.format.Version.{Version}

-- ---- configurations

-- a configuration of the repository that is read at a path
abbrev pub local_metadata_of_path : List ℕ → Metadata
local_metadata_of_path path = record { source = sources.Local; path = Some path }

-- a configuration of the repository that has these sections, with the path of its file
abbrev pub local_configuration_of_sections : List ℕ → List Section → Configuration
local_configuration_of_sections path sections = record { meta = local_metadata_of_path path; sections = sections }

-- the configuration that was read at a path, or `Config` with the line that is outside the grammar
abbrev pub configuration_or_syntax_error : List ℕ → Result (List Section) ℕ → Result Configuration PlacesError
configuration_or_syntax_error path (Ok sections) = Ok (local_configuration_of_sections path sections)
configuration_or_syntax_error path (Err line) = Err (errors.Config path line)

-- what a file says; one that is not there says nothing
abbrev pub parse_local_config_or_empty : List ℕ → Option (List ℕ) → Result Configuration PlacesError
parse_local_config_or_empty path None = Ok (local_configuration_of_sections path [])
parse_local_config_or_empty path (Some bytes) = configuration_or_syntax_error path (parse_text_sections (local_metadata_of_path path) bytes)

-- the configuration at a path, links followed; it has no sections where no file is there
abbrev pub read_local_config : Names → List ℕ → Result Configuration PlacesError
read_local_config t path = parse_local_config_or_empty path (bytes_of_file_lookup (look t path true))

-- the configuration that all work trees of a repository share, and that of one of them
abbrev pub shared_config_path : List ℕ → List ℕ
shared_config_path common = resolve_path_from_directory (codes "config") common

-- `config.worktree` of the git directory, which one work tree has for itself
abbrev pub worktree_config_path : List ℕ → List ℕ
worktree_config_path git = resolve_path_from_directory (codes "config.worktree") git

-- ---- the work tree

-- whether a git directory has its common directory elsewhere, or says so at least
abbrev pub has_commondir_file : Names → List ℕ → Bool
has_commondir_file t git = is_some (bytes_of_file_lookup (look t (resolve_path_from_directory (codes "commondir") git) true))

-- of what `core.bare` and `core.worktree` are asked: of both configurations, where each work tree has one of its own; of the shared one,
-- where the git directory shares nothing; and else of none
abbrev pub config_deciding_work_tree : Names → List ℕ → Configuration → Bool → Result Configuration PlacesError
config_deciding_work_tree t git config true = and_then (λ more. Ok (configuration_with_other_appended config more)) (read_local_config t (worktree_config_path git))
config_deciding_work_tree t git config false = Ok (if has_commondir_file t git then local_configuration_of_sections git [] else config)

-- the work tree at a path that the configuration names: a directory
abbrev pub real_path_or_no_work_tree_error : List ℕ → Option (List ℕ) → Result (List ℕ) PlacesError
real_path_or_no_work_tree_error path None = Err (errors.NoWorkTree path)
real_path_or_no_work_tree_error path (Some real) = Ok real

-- the directory that `core.worktree` names, from the git directory on, without links;
-- refused where the value is empty, or no directory is there
abbrev pub work_tree_of_core_worktree : Names → List ℕ → Option (List ℕ) → List ℕ → Result (List ℕ) PlacesError
work_tree_of_core_worktree t git file path =
    if is_empty path then Err (errors.Value file (codes "core.worktree"))
    else if is_lookup_of_directory (look t (resolve_path_from_directory path git) true)
    then real_path_or_no_work_tree_error (resolve_path_from_directory path git) (real_path t (resolve_path_from_directory path git) (47 ∷ []))
    else Err (errors.NoWorkTree (resolve_path_from_directory path git))

-- the directory at which the search ended, unless `core.worktree`, in a file, names another
abbrev pub core_worktree_or_top : Names → WorkTreeTop → Option (List ℕ) → Option (List ℕ) → Result (List ℕ) PlacesError
core_worktree_or_top t top file None = Ok top.directory
core_worktree_or_top t top file (Some path) = work_tree_of_core_worktree t top.git file path

-- refused as bare where `core.bare` is yes, and else what `core.worktree` names, or the top of the search
abbrev pub work_tree_unless_core_bare : Names → WorkTreeTop → List Section → Bool → Result (List ℕ) PlacesError
work_tree_unless_core_bare t top sections true = Err (errors.Bare top.git)
work_tree_unless_core_bare t top sections false =
    core_worktree_or_top t top (file_of_last_section_with_key (codes "core") (codes "worktree") sections) (last_string_value (codes "core") None (codes "worktree") sections)

-- the work tree by the configuration that decides: `core.bare` is read first, then `core.worktree`
abbrev pub work_tree_by_core_bare_and_worktree : Names → WorkTreeTop → Configuration → Result (List ℕ) PlacesError
work_tree_by_core_bare_and_worktree t top asked = and_then (work_tree_unless_core_bare t top asked.sections) (config_boolean_or_false (codes "core") (codes "bare") asked.sections)

-- by whether each work tree has a configuration of its own
abbrev pub work_tree_by_deciding_config : Names → WorkTreeTop → Configuration → Bool → Result (List ℕ) PlacesError
work_tree_by_deciding_config t top config own = and_then (work_tree_by_core_bare_and_worktree t top) (config_deciding_work_tree t top.git config own)

-- whether each work tree has a configuration of its own, by the version of the format: where none is said, the configuration has no say
abbrev pub check_extensions_and_has_worktree_config : List Section → Option Version → Result Bool PlacesError
check_extensions_and_has_worktree_config sections None = Ok false
check_extensions_and_has_worktree_config sections (Some version) =
    and_then (λ readable. config_boolean_or_false (codes "extensions") (codes "worktreeconfig") sections) (require_allowed_extensions version sections)

-- where the format has no version the configuration has no say: the root is the directory at which the search ended
abbrev pub root_by_format_version : Names → WorkTreeTop → Configuration → Option Version → Bool → Result (List ℕ) PlacesError
root_by_format_version t top config None own = Ok top.directory
root_by_format_version t top config (Some version) own = work_tree_by_deciding_config t top config own

-- ---- all of it

-- where a work tree and its repository lie: absolute paths
pub record RepositoryPlaces : Type 0 where
  pub root : List ℕ  -- the top of the work tree
  pub git : List ℕ  -- the git directory of the work tree
  pub common : List ℕ  -- what all work trees of the repository share
  pub own : List ℕ  -- by what the repository is told from others: what stands at `.git` in the root
  pub has_own_config : Bool  -- whether `config.worktree` of the git directory is read behind the shared configuration

-- the path by which the repository is told: `.git` in the root, as it stands, and where `core.worktree` names another root the git directory
abbrev pub path_identifying_repository : WorkTreeTop → List ℕ → List ℕ
path_identifying_repository top root = if bytes_eq root top.directory then dot_git_path root else top.git

-- the places: the path that tells the repository from others has no links, or stands as it is where nothing is there
abbrev pub places_with_real_own_git_path : Names → WorkTreeTop → List ℕ → Bool → List ℕ → RepositoryPlaces
places_with_real_own_git_path t top common own root =
    record {
      root = root;
      git = top.git;
      common = common;
      own = unwrap_or (real_path t (path_identifying_repository top root) (47 ∷ [])) (path_identifying_repository top root);
      has_own_config = own;
    }

-- the places with the root that the configuration says, or why it says none
abbrev pub places_with_root : Names → WorkTreeTop → List ℕ → Configuration → Option Version → Bool → Result RepositoryPlaces PlacesError
places_with_root t top common config version own =
    and_then (λ root. Ok (places_with_real_own_git_path t top common own root)) (root_by_format_version t top config version own)

-- the places, once the extensions are judged: where the format has a version, an unknown one is refused before the root
abbrev pub places_by_format_version : Names → WorkTreeTop → List ℕ → Configuration → Option Version → Result RepositoryPlaces PlacesError
places_by_format_version t top common config version = and_then (places_with_root t top common config version) (check_extensions_and_has_worktree_config config.sections version)

-- the places by the shared configuration, of which the version of the format is read first, and may be refused
abbrev pub places_by_config : Names → WorkTreeTop → List ℕ → Configuration → Result RepositoryPlaces PlacesError
places_by_config t top common config = and_then (places_by_format_version t top common config) (parse_format_version_if_configured config.sections)

-- the places of a work tree that was found, by the `config` of its common directory; a missing one says nothing
abbrev pub places_of_work_tree_top : Names → WorkTreeTop → Result RepositoryPlaces PlacesError
places_of_work_tree_top t top = and_then (places_by_config t top (common_git_directory t top.git)) (read_local_config t (shared_config_path (common_git_directory t top.git)))
