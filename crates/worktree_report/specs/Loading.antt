-- What is known of the submodules of a work tree: the configurations that a setup names, and `.gitmodules`.
use Rattle.std.specs.Prelude.{◌≡◌, ◌+◌, ℕ, List, [], ◌∷◌, ◌++◌, Bool, true, false, codes, count_by, Option, Some, None, Result, Ok, Err, if◌then◌else◌}
use Rattle.gitbase_core.specs.Path.{path_joined_with_slash}
use Rattle.git_config_lite.specs.declared.metadata.Metadata.{Metadata}
use Rattle.git_config_lite.specs.Grammar.{parse_text_sections}
use Rattle.git_config_lite.specs.Sections.{Section, Configuration, metadata_of_joined_files}
use Rattle.git_config_lite.specs.Writers.{configuration_with_replaced_sections}
use Rattle.glob_rules.specs.PathSpec.{PathSpec}
use Rattle.submodule.specs.declared.is_active_platform.Error.{Error as ActiveError}
use Rattle.submodule.specs.declared.is_active_platform.Error.TheVariants as active_errors
use Rattle.submodule.specs.Active.{active_specs_or_error_of_config}
use Rattle.submodule.specs.Overrides.{parse_gitmodules_with_overrides}
use Rattle.worktree_fs.specs.Tree.{Names, LookupResult, look, found, absent, too_many_links, file, link, directory, other}
use Rattle.worktree_report.specs.declared.known.Known.{Known}
use Rattle.worktree_report.specs.declared.modules.Modules.{Modules}
use Rattle.worktree_report.specs.declared.permissions.Permissions.{Permissions}
use Rattle.worktree_report.specs.declared.refusal.Misread.{Misread}
use Rattle.worktree_report.specs.declared.refusal.Misread.TheVariants as misread
use Rattle.worktree_report.specs.declared.setup.Setup.{Setup}
use Rattle.worktree_report.specs.ConfigFiles.{ConfigFile}
use Rattle.worktree_report.specs.Permissions.{admits}

-- what follows a good answer; a text that is outside its grammar ends it
abbrev pub continue_unless_misread : {A B : Type 0} → (A → Result B Misread) → Result A Misread → Result B Misread
continue_unless_misread more (Ok answer) = more answer
continue_unless_misread more (Err why) = Err why

-- the bytes of the file that a path leads to; what is no file counts as an empty one
abbrev pub file_bytes_or_empty : LookupResult → List ℕ
file_bytes_or_empty (found (file bytes)) = bytes
file_bytes_or_empty (found (link target)) = []
file_bytes_or_empty (found (directory names)) = []
file_bytes_or_empty (found other) = []
file_bytes_or_empty absent = []
file_bytes_or_empty too_many_links = []

-- ---- configurations

-- where a configuration is read
abbrev pub metadata_of_config_file : ConfigFile → Metadata
metadata_of_config_file named = record { source = named.0; path = Some named.1 }

-- no sections yet; the files that are put together here have no one path
abbrev pub empty_configuration : Configuration
empty_configuration = record { meta = metadata_of_joined_files; sections = [] }

-- the sections of a configuration behind those of others; its number is that of its line
abbrev pub append_sections_or_misread : Configuration → ℕ → Result (List Section) ℕ → Result Configuration Misread
append_sections_or_misread config at (Ok sections) = Ok (configuration_with_replaced_sections config (config.sections ++ sections))
append_sections_or_misread config at (Err line) = Err (misread.Config at line)

-- a configuration behind others, where the permissions admit it; links to its file are followed
abbrev pub append_config_if_admitted : Names → Permissions → ℕ → ConfigFile → Configuration → Result Configuration Misread
append_config_if_admitted t permissions at named config =
    if admits permissions named.0 then append_sections_or_misread config at (parse_text_sections (metadata_of_config_file named) (file_bytes_or_empty (look t named.1 true)))
    else Ok config

-- some configurations one behind another, the first of which has this number; or the first line of them outside the grammar
abbrev pub append_admitted_configs : Names → Permissions → ℕ → List ConfigFile → Configuration → Result Configuration Misread
append_admitted_configs t permissions at [] config = Ok config
append_admitted_configs t permissions at (named ∷ more) config =
    continue_unless_misread (append_admitted_configs t permissions (at + 1) more) (append_config_if_admitted t permissions at named config)

-- ---- `.gitmodules`

-- it stands in the worktree root, and a link in its place is not followed
abbrev pub gitmodules_path : List ℕ → List ℕ
gitmodules_path root = path_joined_with_slash root (codes ".gitmodules")

-- `.gitmodules` with the configuration beside it; a bad line is told as one of `.gitmodules`, by its number
abbrev pub modules_or_misread : Configuration → Result Configuration ℕ → Result Modules Misread
modules_or_misread config (Ok modules) = Ok (record { file = modules; config = config })
modules_or_misread config (Err line) = Err (misread.Modules line)

-- what its text says, with the overrides of a configuration behind it
abbrev pub parse_gitmodules_with_config : Names → List ℕ → Configuration → Result Modules Misread
parse_gitmodules_with_config t root config = modules_or_misread config (parse_gitmodules_with_overrides (Some (gitmodules_path root)) (file_bytes_or_empty (look t (gitmodules_path root) false)) config)

-- Both, or the first line outside the grammar: the configurations come first, in the order of the setup.
unfoldable pub modules_of_setup_in_tree : Names → List ℕ → Setup → Result Modules Misread
modules_of_setup_in_tree t root setup = continue_unless_misread (parse_gitmodules_with_config t root) (append_admitted_configs t setup.options.permissions 1 setup.configs empty_configuration)

-- Whatever a worktree tells: `.gitmodules` is what some text in its place says, with the overrides of the configuration beside it.
pub record AreModulesOfSomeText (root : List ℕ) (modules : Modules) : Type 0 where
  pub text : List ℕ
  pub file_is : parse_gitmodules_with_overrides (Some (gitmodules_path root)) text modules.config ≡ Ok modules.file

-- ---- and which of them are active

-- a value of `submodule.active` that is refused, by its number
abbrev pub misread_of_active_error : ActiveError → Result (Option Known) Misread
misread_of_active_error (active_errors.ParsePattern value at) = Err (misread.ActiveSpec value)
misread_of_active_error (active_errors.NormalizePattern value) = Err (misread.ActiveSpec value)
misread_of_active_error active_errors.OutOfMemory = Ok None

-- what is known, with the path specs of `submodule.active`; a value that is no path spec is misread, by its number
abbrev pub known_of_active_specs : Modules → Result (Option (List PathSpec)) ActiveError → Result (Option Known) Misread
known_of_active_specs modules (Ok specs) = Ok (Some (record { modules = modules; platform = specs }))
known_of_active_specs modules (Err e) = misread_of_active_error e

-- `submodule.active` is read from the configurations, never from `.gitmodules`; its specs fold letters where `folds` says
abbrev pub known_submodules_with_active_specs : Bool → Modules → Result (Option Known) Misread
known_submodules_with_active_specs folds modules = known_of_active_specs modules (active_specs_or_error_of_config folds modules.config.sections)

-- What is known of submodules, where that is asked for; or the first place that is outside its grammar.
unfoldable pub known_submodules_in_tree : Names → List ℕ → Setup → Result (Option Known) Misread
known_submodules_in_tree t root setup =
    if setup.options.submodules then continue_unless_misread (known_submodules_with_active_specs setup.options.ignore_case) (modules_of_setup_in_tree t root setup)
    else Ok None

-- all that tells of submodules is in its grammar
abbrev pub IsKnownWithoutMisread : Result (Option Known) Misread → Type 0
IsKnownWithoutMisread given = (known : Option Known) × (given ≡ Ok known)

-- ---- reading them

-- how many of some configurations are read
abbrev pub count_admitted_configs : Permissions → List ConfigFile → ℕ
count_admitted_configs permissions configs = count_by (λ (named : ConfigFile). admits permissions named.0) configs

-- how many files are read at most: the configurations that are admitted, and `.gitmodules`
abbrev pub count_files_for_submodules : Setup → ℕ
count_files_for_submodules setup = count_admitted_configs setup.options.permissions setup.configs + 1

-- how many files are read at most to tell of submodules: none unless the option `submodules` is `yes`
abbrev pub count_files_if_submodules_asked : Setup → ℕ
count_files_if_submodules_asked setup = if setup.options.submodules then count_files_for_submodules setup else 0
