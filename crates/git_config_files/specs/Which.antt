-- Which configurations git reads, and where a user's files lie: git-config(1), "FILES" and "ENVIRONMENT".
use Rattle.std.specs.Prelude.{ℕ, Bool, true, false, ◌++◌, codes, List, [], ◌∷◌, Option, Some, None, option_and_then, option_map, unwrap_or, Result, Ok, Err, if◌then◌else◌}
use Rattle.git_config_lite.specs.Booleans.{parse_boolean}
use Rattle.git_config_lite.specs.declared.metadata.Source.{Source}
use Rattle.git_config_lite.specs.declared.metadata.Source.TheVariants as sources
use Rattle.git_places.specs.Places.{RepositoryPlaces, worktree_config_path, shared_config_path}
use Rattle.git_places.specs.Surroundings.{Surroundings}
use Rattle.worktree_fs.specs.Changes.{resolve_path_from_directory}
use Rattle.worktree_fs.specs.Repository.{path_unless_empty}
use Rattle.worktree_fs.specs.Tree.{is_empty}
use Rattle.git_config_files.specs.Files.{ConfiguredFile}
use Rattle.gitbase_core.specs.Steps.{and_then}
use Rattle.git_config_files.specs.declared.error.FilesError.{FilesError}
use Rattle.git_config_files.specs.declared.error.FilesError.TheVariants as errors

-- the file at a path, which is taken from the top of the work tree where it is relative; an empty path names none
abbrev pub file_at_path_unless_empty : List ℕ → Source → List ℕ → List ConfiguredFile
file_at_path_unless_empty root source path = if is_empty path then [] else record { source = source; path = resolve_path_from_directory path root } ∷ []

-- no file where there is no path, as that of `~/.gitconfig` where `HOME` is not set
abbrev pub file_of_optional_path : List ℕ → Source → Option (List ℕ) → List ConfiguredFile
file_of_optional_path root source None = []
file_of_optional_path root source (Some path) = file_at_path_unless_empty root source path

-- ---- that of the system

-- a `GIT_CONFIG_NOSYSTEM` that is no boolean is refused by its name
abbrev pub boolean_or_nosystem_error : Option Bool → Result Bool FilesError
boolean_or_nosystem_error None = Err (errors.Value None (codes "GIT_CONFIG_NOSYSTEM"))
boolean_or_nosystem_error (Some b) = Ok b

-- whether `GIT_CONFIG_NOSYSTEM` says, as a boolean, that it is not read
abbrev pub is_system_config_skipped : Option (List ℕ) → Result Bool FilesError
is_system_config_skipped None = Ok false
is_system_config_skipped (Some text) = boolean_or_nosystem_error (parse_boolean text)

-- `GIT_CONFIG_SYSTEM`, or where git is installed to look
abbrev pub path_of_system_config : Option (List ℕ) → List ℕ
path_of_system_config told = unwrap_or told (codes "/etc/gitconfig")

-- the system's file, from `root` on where it is relative; none where it is skipped or its path is empty
abbrev pub system_config_unless_skipped : List ℕ → Option (List ℕ) → Bool → List ConfiguredFile
system_config_unless_skipped root told true = []
system_config_unless_skipped root told false = file_at_path_unless_empty root sources.System (path_of_system_config told)

-- ---- those of the user

-- a file of git's in the user's directory of configurations: `XDG_CONFIG_HOME`, or where that is not set or empty `.config` in the home
abbrev pub file_in_config_directory_or_home : Option (List ℕ) → Option (List ℕ) → List ℕ → Option (List ℕ)
file_in_config_directory_or_home (Some directory) home name = Some (directory ++ codes "/git/" ++ name)
file_in_config_directory_or_home None (Some home) name = Some (home ++ codes "/.config/git/" ++ name)
file_in_config_directory_or_home None None name = None

-- `$XDG_CONFIG_HOME/git/NAME` or else `~/.config/git/NAME`; none where `HOME` is not set either
abbrev pub path_in_user_config_directory : Surroundings → List ℕ → Option (List ℕ)
path_in_user_config_directory around name = file_in_config_directory_or_home (option_and_then path_unless_empty around.config_home) around.home name

-- `~/.gitconfig`; none where `HOME` is not set
abbrev pub path_of_home_gitconfig : Option (List ℕ) → Option (List ℕ)
path_of_home_gitconfig home = option_map (λ directory. directory ++ codes "/.gitconfig") home

-- the one that `GIT_CONFIG_GLOBAL` names, or else both, that in the home last
abbrev pub user_configs_by_global_variable : List ℕ → Surroundings → Option (List ℕ) → List ConfiguredFile
user_configs_by_global_variable root around (Some path) = file_at_path_unless_empty root sources.User path
user_configs_by_global_variable root around None =
    file_of_optional_path root sources.User (path_in_user_config_directory around (codes "config")) ++ file_of_optional_path root sources.User (path_of_home_gitconfig around.home)

-- the user's `git/config` and behind it `~/.gitconfig`; the file of `GIT_CONFIG_GLOBAL` alone where that is set
abbrev pub user_configs : List ℕ → Surroundings → List ConfiguredFile
user_configs root around = user_configs_by_global_variable root around around.config_global

-- ---- those of the repository

-- a file of the repository's own, be it shared or that of one work tree
abbrev pub repository_config_file : List ℕ → ConfiguredFile
repository_config_file path = record { source = sources.Local; path = path }

-- `config.worktree` of the git directory, where `extensions.worktreeConfig` is true; no file where it is not
abbrev pub worktree_config_if_present : List ℕ → Bool → List ConfiguredFile
worktree_config_if_present git true = repository_config_file (worktree_config_path git) ∷ []
worktree_config_if_present git false = []

-- the one that all work trees share, and that of this one, if it has one
abbrev pub repository_configs : RepositoryPlaces → List ConfiguredFile
repository_configs layout = repository_config_file (shared_config_path layout.common) ∷ worktree_config_if_present layout.git layout.has_own_config

-- ---- all of them, in the order in which they are read

-- those that no repository has; a relative path is taken from a directory
abbrev pub configs_outside_repository : List ℕ → Surroundings → Bool → List ConfiguredFile
configs_outside_repository directory around skips = system_config_unless_skipped directory around.config_system skips ++ user_configs directory around

-- those that have a say in what is safe
abbrev pub config_files_outside_repository : Surroundings → Result (List ConfiguredFile) FilesError
config_files_outside_repository around = and_then (λ skips. Ok (configs_outside_repository around.directory around skips)) (is_system_config_skipped around.no_system)

-- the system's, the user's, the repository's, in this order: a later value wins
abbrev pub configs_of_work_tree : RepositoryPlaces → Surroundings → Bool → List ConfiguredFile
configs_of_work_tree layout around skips = configs_outside_repository layout.root around skips ++ repository_configs layout

-- the files that git reads for a work tree, in order; refused where `GIT_CONFIG_NOSYSTEM` is no boolean
abbrev pub config_files_of_work_tree : RepositoryPlaces → Surroundings → Result (List ConfiguredFile) FilesError
config_files_of_work_tree layout around = and_then (λ skips. Ok (configs_of_work_tree layout around skips)) (is_system_config_skipped around.no_system)
