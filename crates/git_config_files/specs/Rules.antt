-- The files of ignore rules outside the work tree: gitignore(5).
use Rattle.std.specs.Prelude.{ℕ, Bool, true, false, ◌&&◌, ◌∷◌, codes, find, is_none, List, [], Option, Some, None, option_map, Result, Ok, Err, if◌then◌else◌}
use Rattle.std.specs.List.{list_any}
use Rattle.gitbase_core.specs.Text.{eq_ignore_case, without_byte_order_mark}
use Rattle.git_config_lite.specs.declared.entry.Entry.{Entry}
use Rattle.git_config_lite.specs.Lookups.{last_string_value}
use Rattle.git_config_lite.specs.Sections.{Section}
use Rattle.git_places.specs.Format.{file_of_last_section_with_key}
use Rattle.git_places.specs.Places.{RepositoryPlaces}
use Rattle.git_places.specs.Surroundings.{Surroundings}
use Rattle.worktree_fs.specs.Changes.{resolve_path_from_directory}
use Rattle.worktree_fs.specs.Tree.{Names, is_empty}
use Rattle.git_config_files.specs.Includes.{read_optional_file_text}
use Rattle.gitbase_core.specs.Steps.{and_then}
use Rattle.git_config_files.specs.Targets.{path_of_config_value}
use Rattle.git_config_files.specs.Which.{path_in_user_config_directory}
use Rattle.git_config_files.specs.declared.error.FilesError.{FilesError}
use Rattle.git_config_files.specs.declared.error.FilesError.TheVariants as errors

-- ---- where the user's is

-- `core.excludesFile` without a value
abbrev pub is_excludes_file_without_value : Entry → Bool
is_excludes_file_without_value e = eq_ignore_case e.key (codes "excludesfile") && is_none e.value

-- `[core]` in any case of letters; `[core "x"]` is another section
abbrev pub is_core_section : List ℕ → Option (List ℕ) → Bool
is_core_section name None = eq_ignore_case name (codes "core")
is_core_section name (Some subsection) = false

-- a `[core]` section has the key `excludesFile` with no `=` behind it, which git refuses
abbrev pub section_lacks_excludes_file_value : Section → Bool
section_lacks_excludes_file_value section = is_core_section section.name section.subsection && list_any is_excludes_file_without_value section.entries

-- the last value of `core.excludesFile`, unless a section has it without a value: the first one that does is refused by its file
abbrev pub excludes_value_or_missing_value_error : List Section → Option Section → Result (Option (List ℕ)) FilesError
excludes_value_or_missing_value_error sections (Some lacking) = Err (errors.Value lacking.meta.path (codes "core.excludesFile"))
excludes_value_or_missing_value_error sections None = Ok (last_string_value (codes "core") None (codes "excludesfile") sections)

-- the last value of `core.excludesFile`, if there is one; each has to have a value
unfoldable pub configured_excludes_file_value : List Section → Result (Option (List ℕ)) FilesError
configured_excludes_file_value sections = excludes_value_or_missing_value_error sections (find section_lacks_excludes_file_value sections)

-- a path from the top of the work tree on; an empty one, as `~` is where the home is empty, names no file
abbrev pub path_from_root_unless_empty : List ℕ → List ℕ → Option (List ℕ)
path_from_root_unless_empty root path = if is_empty path then None else Some (resolve_path_from_directory path root)

-- where nothing is told: `ignore` in the user's directory of configurations
abbrev pub default_excludes_path : List ℕ → Surroundings → Option (List ℕ)
default_excludes_path root around = option_map (λ path. resolve_path_from_directory path root) (path_in_user_config_directory around (codes "ignore"))

-- by what a file tells: the file that the text names, if it names one; where nothing is told, the file is `ignore` in the user's directory of
-- configurations
abbrev pub excludes_path_by_configured_value : List ℕ → Surroundings → Option (List ℕ) → Option (List ℕ) → Result (Option (List ℕ)) FilesError
excludes_path_by_configured_value root around file None = Ok (default_excludes_path root around)
excludes_path_by_configured_value root around file (Some text) =
    and_then (λ path. Ok (path_from_root_unless_empty root path)) (path_of_config_value file (codes "core.excludesFile") around.home text)

-- the file in which the last value of `core.excludesFile` stands
unfoldable pub file_configuring_excludes_file : List Section → Option (List ℕ)
file_configuring_excludes_file sections = file_of_last_section_with_key (codes "core") (codes "excludesfile") sections

-- where the user's ignore rules are: what `core.excludesFile` names, or `git/ignore` among his configurations
abbrev pub path_of_user_excludes_file : List ℕ → Surroundings → List Section → Result (Option (List ℕ)) FilesError
path_of_user_excludes_file root around sections =
    and_then (excludes_path_by_configured_value root around (file_configuring_excludes_file sections)) (configured_excludes_file_value sections)

-- ---- that of the repository

-- all its work trees share it
abbrev pub path_of_info_exclude : List ℕ → List ℕ
path_of_info_exclude common = resolve_path_from_directory (codes "info/exclude") common

-- ---- both

-- a file of ignore rules that was found and read
pub record RulesFile : Type 0 where
  pub path : List ℕ  -- an absolute path
  pub bytes : List ℕ  -- without the byte order mark at the front, if there is one

-- what `core.excludesFile` and `info/exclude` hold; none where such a file is not there
pub record RulesOutsideWorkTree : Type 0 where
  pub user : Option RulesFile
  pub repository : Option RulesFile

-- a file that is not there gives no rules; a byte order mark at the front of a text is dropped
abbrev pub rules_file_of_optional_text : List ℕ → Option (List ℕ) → Option RulesFile
rules_file_of_optional_text path None = None
rules_file_of_optional_text path (Some bytes) = Some (record { path = path; bytes = without_byte_order_mark bytes })

-- the file at a path, if it is there
abbrev pub read_rules_file_if_present : Names → List ℕ → Result (Option RulesFile) FilesError
read_rules_file_if_present t path = and_then (λ text. Ok (rules_file_of_optional_text path text)) (read_optional_file_text t path)

-- where no path is named nothing is read, and that is no error
abbrev pub read_rules_file_of_optional_path : Names → Option (List ℕ) → Result (Option RulesFile) FilesError
read_rules_file_of_optional_path t None = Ok None
read_rules_file_of_optional_path t (Some path) = read_rules_file_if_present t path

-- both files side by side, of which either may be missing
abbrev pub rules_of_user_and_repository : Option RulesFile → Option RulesFile → RulesOutsideWorkTree
rules_of_user_and_repository user repository = record { user = user; repository = repository }

-- the user's rules with those of `info/exclude`, which is read from the directory that all work trees share
abbrev pub rules_with_info_exclude : Names → RepositoryPlaces → Option RulesFile → Result RulesOutsideWorkTree FilesError
rules_with_info_exclude t layout user = and_then (λ repository. Ok (rules_of_user_and_repository user repository)) (read_rules_file_if_present t (path_of_info_exclude layout.common))

-- the user's rules, by a configuration
abbrev pub read_user_rules_file : Names → List ℕ → Surroundings → List Section → Result (Option RulesFile) FilesError
read_user_rules_file t root around sections = and_then (read_rules_file_of_optional_path t) (path_of_user_excludes_file root around sections)

-- those, and the rules of the repository
abbrev pub read_rules_outside_work_tree : Names → RepositoryPlaces → Surroundings → List Section → Result RulesOutsideWorkTree FilesError
read_rules_outside_work_tree t layout around sections = and_then (rules_with_info_exclude t layout) (read_user_rules_file t layout.root around sections)
