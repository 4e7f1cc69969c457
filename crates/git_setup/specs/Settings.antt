-- What the configuration says of how a work tree is compared with its index: git-config(1).
use Rattle.std.specs.Prelude.{ℕ, List, Bool, true, false, ◌||◌, codes, Option, Some, None, is_some, Result, Ok, Err, if◌then◌else◌}
use Rattle.gitbase_core.specs.Steps.{and_then}
use Rattle.gitbase_core.specs.Text.{eq_ignore_case}
use Rattle.git_config_lite.specs.Lookups.{last_boolean_value, last_string_value}
use Rattle.git_config_lite.specs.Sections.{Section}
use Rattle.git_places.specs.Format.{file_of_last_section_with_key}
use Rattle.git_setup.specs.Steps.{◌>>=◌}
use Rattle.git_setup.specs.Switches.{read_boolean_or_default}
use Rattle.git_setup.specs.declared.error.GitRefusal.{GitRefusal}
use Rattle.git_setup.specs.declared.error.GitRefusal.TheVariants as errors
use Rattle.git_setup.specs.declared.settings.NodeSettings.{NodeSettings}

-- "core.checkStat": of "default" or "minimal"
abbrev pub parse_check_stat : List ℕ → Option Bool
parse_check_stat value =
    if eq_ignore_case value (codes "default") then Some true
    else if eq_ignore_case value (codes "minimal") then Some false
    else None

-- a value that is neither of the two is refused by the file that sets it
abbrev parsed_check_stat_or_refusal : Option (List ℕ) → Option Bool → Result Bool GitRefusal
parsed_check_stat_or_refusal file (Some checks) = Ok checks
parsed_check_stat_or_refusal file None = Err (errors.Boolean file (codes "core.checkStat"))

-- `default`, which is true, where the key is not set
abbrev check_stat_of_optional_value : Option (List ℕ) → Option (List ℕ) → Result Bool GitRefusal
check_stat_of_optional_value file None = Ok true
check_stat_of_optional_value file (Some value) = parsed_check_stat_or_refusal file (parse_check_stat value)

-- whether all of a file's stat counts, and not only what `minimal` names; the last value wins
abbrev pub read_check_stat : List Section → Result Bool GitRefusal
read_check_stat sections = check_stat_of_optional_value (file_of_last_section_with_key (codes "core") (codes "checkstat") sections) (last_string_value (codes "core") None (codes "checkstat") sections)

-- each of `core.fileMode`, `core.symlinks` and `core.trustctime` is usually true
unfoldable pub read_stat_and_mode_settings : List Section → Result NodeSettings GitRefusal
read_stat_and_mode_settings sections = do
  modes ← read_boolean_or_default sections (codes "core") (codes "filemode") (codes "core.fileMode") true
  links ← read_boolean_or_default sections (codes "core") (codes "symlinks") (codes "core.symlinks") true
  times ← read_boolean_or_default sections (codes "core") (codes "trustctime") (codes "core.trustctime") true
  checks ← read_check_stat sections
  Ok (record { file_mode = modes; symlinks = links; trust_ctime = times; check_stat = checks })

-- ---- a program that tells what changed

-- true, or a text that is no boolean and so names a hook; not where the key is not set
abbrev is_fsmonitor_value_not_false : Result (Option Bool) (List ℕ) → Bool
is_fsmonitor_value_not_false (Ok None) = false
is_fsmonitor_value_not_false (Ok (Some watched)) = watched
is_fsmonitor_value_not_false (Err text) = true

-- "core.fsmonitor": "If set to true, enable the built-in file system monitor daemon .. Otherwise, this variable contains the pathname of
-- the fsmonitor hook command"
abbrev pub has_fsmonitor : List Section → Bool
has_fsmonitor sections = is_fsmonitor_value_not_false (last_boolean_value (codes "core") None (codes "fsmonitor") sections)

-- what such a program tells is not heeded
abbrev pub stat_and_mode_settings_unless_fsmonitor : List Section → Result NodeSettings GitRefusal
stat_and_mode_settings_unless_fsmonitor sections = if has_fsmonitor sections then Err (errors.Elsewhere (codes "core.fsmonitor")) else read_stat_and_mode_settings sections

-- ---- conversions

-- a `[core]` section without a subsection has the key, whatever its value, and also where it has none
abbrev pub has_core_key : List ℕ → List Section → Bool
has_core_key key sections = is_some (last_string_value (codes "core") None key sections)

-- the value is `input`, in any letters: line ends change on the way into the index alone
abbrev pub is_autocrlf_input : Option (List ℕ) → Bool
is_autocrlf_input None = false
is_autocrlf_input (Some value) = eq_ignore_case value (codes "input")

-- "core.autocrlf": a boolean, or "input"
abbrev pub converts_line_ends_by_autocrlf : List Section → Result Bool GitRefusal
converts_line_ends_by_autocrlf sections =
    if is_autocrlf_input (last_string_value (codes "core") None (codes "autocrlf") sections) then Ok true
    else read_boolean_or_default sections (codes "core") (codes "autocrlf") (codes "core.autocrlf") false

-- line ends are, or attributes may be, by the configuration alone: `core.autocrlf`, `core.eol`, `core.attributesFile`
abbrev pub may_convert_by_config : List Section → Result Bool GitRefusal
may_convert_by_config sections =
    and_then (λ (converts : Bool). Ok (converts || (has_core_key (codes "eol") sections || has_core_key (codes "attributesfile") sections))) (converts_line_ends_by_autocrlf sections)
