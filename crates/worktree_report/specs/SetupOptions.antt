-- The options of a setup.
use Rattle.std.specs.Prelude.{ℕ, List, Bool, ◌&&◌, ◌||◌, if◌then◌else◌, codes, Option, Some, None, option_and_then, find}
use Rattle.std.specs.Str.{bytes_eq}
use Rattle.std.specs.List.{list_any}
use Rattle.worktree_report.specs.declared.setup.option.SetupOption.{SetupOption}
use Rattle.worktree_report.specs.SetupFields.{WordAndRest, split_at_first_space}

-- an option that is no or yes, and says how paths are looked at
abbrev pub is_classification_switch : List ℕ → Bool
is_classification_switch name =
    bytes_eq name (codes "excludes")
    || bytes_eq name (codes "precious")
    || bytes_eq name (codes "strict_parents")
    || bytes_eq name (codes "ignore_case")
    || bytes_eq name (codes "recurse_repositories")
    || bytes_eq name (codes "classify_untracked_bare_repositories")
    || bytes_eq name (codes "symlinks_to_directories_are_ignored_like_directories")

-- an option that is no or yes, and says what is reported
abbrev pub is_reporting_switch : List ℕ → Bool
is_reporting_switch name =
    bytes_eq name (codes "emit_pruned")
    || bytes_eq name (codes "emit_tracked")
    || bytes_eq name (codes "emit_empty_directories")
    || bytes_eq name (codes "origins")
    || bytes_eq name (codes "submodules")
    || bytes_eq name (codes "print_outcome")

-- how paths of a kind are reported: each by itself, or directories in place of what lies in them
abbrev pub is_emission_value : List ℕ → Bool
is_emission_value value = bytes_eq value (codes "matching") || bytes_eq value (codes "collapse")

-- which paths are reported besides the directory that was folded over them, where any are
abbrev pub is_collapsed_emission_value : List ℕ → Bool
is_collapsed_emission_value value = bytes_eq value (codes "mismatch") || bytes_eq value (codes "all")

-- how deletion goes about ignored directories
abbrev pub is_deletion_value : List ℕ → Bool
is_deletion_value value = bytes_eq value (codes "hide") || bytes_eq value (codes "nonbare") || bytes_eq value (codes "all")

-- where rules files are read: in the worktree, or in blobs
abbrev pub is_ignore_source_value : List ℕ → Bool
is_ignore_source_value value = bytes_eq value (codes "worktree") || bytes_eq value (codes "mapping")

-- which configurations are read: those that are safe in a repository of anybody, all, or those of the repository alone
abbrev pub is_permissions_value : List ℕ → Bool
is_permissions_value value = bytes_eq value (codes "secure") || bytes_eq value (codes "all") || bytes_eq value (codes "isolated")

-- how subtrees are walked: in one walk, or each by itself over forks
abbrev pub is_strategy_value : List ℕ → Bool
is_strategy_value value = bytes_eq value (codes "held") || bytes_eq value (codes "at_once")

-- whether an option that says where files are read, or how subtrees are walked, may have a value
abbrev pub is_valid_source_or_strategy : List ℕ → List ℕ → Bool
is_valid_source_or_strategy name value =
    if bytes_eq name (codes "ignore_source") then is_ignore_source_value value
    else if bytes_eq name (codes "permissions") then is_permissions_value value
    else bytes_eq name (codes "strategy") && is_strategy_value value

-- whether an option may have a value
abbrev pub is_valid_option_value : List ℕ → List ℕ → Bool
is_valid_option_value name value =
    if is_classification_switch name || is_reporting_switch name then bytes_eq value (codes "no") || bytes_eq value (codes "yes")
    else if bytes_eq name (codes "emit_untracked") then is_emission_value value
    else if bytes_eq name (codes "emit_ignored") then bytes_eq value (codes "no") || is_emission_value value
    else if bytes_eq name (codes "emit_collapsed") then bytes_eq value (codes "no") || is_collapsed_emission_value value
    else if bytes_eq name (codes "for_deletion") then bytes_eq value (codes "no") || is_deletion_value value
    else is_valid_source_or_strategy name value

-- an option with a value that it may have; another value or an unknown name is outside the grammar
abbrev pub option_if_valid : WordAndRest → Option SetupOption
option_if_valid fields = if is_valid_option_value fields.word fields.rest then Some (record { name = fields.word; value = fields.rest }) else None

-- `NAME VALUE`, behind the keyword
abbrev pub parse_option_line : List ℕ → Option SetupOption
parse_option_line rest = option_and_then option_if_valid (split_at_first_space rest)

-- whether an option is set
abbrev pub is_option_set : List ℕ → List SetupOption → Bool
is_option_set name options = list_any (λ (o : SetupOption). bytes_eq o.name name) options

-- whether an option is set to a value
abbrev pub is_option_set_to : List ℕ → List ℕ → List SetupOption → Bool
is_option_set_to name value options = list_any (λ (o : SetupOption). bytes_eq o.name name && bytes_eq o.value value) options

-- the first option of a name
abbrev pub first_option_of_name : List ℕ → List SetupOption → Option SetupOption
first_option_of_name name options = find (λ (o : SetupOption). bytes_eq o.name name) options
