-- Which submodules are active.
--
-- `submodule.NAME.active` of the configuration decides, if it is set; a text that is no boolean is refused. Else, where
-- `submodule.active` has any value, its values are path specs that are matched with the name, as that of a directory: the
-- submodule is active if they match it and do not exclude it. Else it is active if the configuration has a url for it.
use Rattle.std.specs.Prelude.{ℕ, ◌+◌, List, [], ◌∷◌, ◌++◌, codes, length, map, Bool, true, false, not, Option, Some, None, is_some, Result, Ok, Err}
use Rattle.git_config_lite.specs.Sections.{Section}
use Rattle.git_config_lite.specs.Lookups.{all_string_values, last_boolean_value}
use Rattle.glob_rules.specs.declared.pathspec.Error.{Error as SpecError}
use Rattle.glob_rules.specs.declared.pathspec.Error.TheVariants as spec_errors
use Rattle.glob_rules.specs.declared.pathspec.Match.{Match}
use Rattle.glob_rules.specs.PathSpec.{PathSpec}
use Rattle.glob_rules.specs.PathSpecText.{parse_path_spec}
use Rattle.glob_rules.specs.PathSpecs.{match_of_path_by_specs}
use Rattle.submodule.specs.Names.{submodule_names_of_gitmodules}
use Rattle.submodule.specs.Overrides.{value}
use Rattle.submodule.specs.declared.is_active_platform.Error.{Error}
use Rattle.submodule.specs.declared.is_active_platform.Error.TheVariants as errors

-- ---- the specs

-- a value that is refused, by its number
abbrev pub error_of_numbered_spec : ℕ → SpecError → Error
error_of_numbered_spec number (spec_errors.Parse at) = errors.ParsePattern number at
error_of_numbered_spec number spec_errors.Normalize = errors.NormalizePattern number
error_of_numbered_spec number spec_errors.OutOfMemory = errors.OutOfMemory

-- reading goes on behind a spec that was read; the first one refused ends it, under the number of its value
abbrev pub continue_with_spec_or_error : ℕ → (PathSpec → Result (List PathSpec) Error) → Result PathSpec SpecError → Result (List PathSpec) Error
continue_with_spec_or_error number behind (Ok spec) = behind spec
continue_with_spec_or_error number behind (Err e) = Err (error_of_numbered_spec number e)

-- the specs of some values, behind those of earlier ones; the first value that is refused is named by its number, from 1
abbrev pub parse_active_specs_after : Bool → List PathSpec → List (List ℕ) → Result (List PathSpec) Error
parse_active_specs_after fold specs [] = Ok specs
parse_active_specs_after fold specs (text ∷ texts) = continue_with_spec_or_error (length specs + 1) (λ spec. parse_active_specs_after fold (specs ++ spec ∷ []) texts) (parse_path_spec fold text)

-- the values of `submodule.active`
abbrev pub submodule_active_values : List Section → List (List ℕ)
submodule_active_values sections = all_string_values (codes "submodule") None (codes "active") sections

-- the specs, if there are any: each value is one
abbrev pub specs_unless_empty : List PathSpec → Option (List PathSpec)
specs_unless_empty [] = None
specs_unless_empty (spec ∷ specs) = Some (spec ∷ specs)

-- no value of `submodule.active` counts as no specs, so that the url decides; a refusal stays
abbrev pub specs_result_unless_empty : Result (List PathSpec) Error → Result (Option (List PathSpec)) Error
specs_result_unless_empty (Ok specs) = Ok (specs_unless_empty specs)
specs_result_unless_empty (Err e) = Err e

-- The specs of a configuration, or the first value that is refused; `fold` says whether letters fold.
abbrev pub active_specs_or_error_of_config : Bool → List Section → Result (Option (List PathSpec)) Error
active_specs_or_error_of_config fold sections = specs_result_unless_empty (parse_active_specs_after fold [] (submodule_active_values sections))

-- ---- activity

-- a match makes a submodule active, unless an excluding spec gives it; no match does not
abbrev pub is_matched_and_not_excluded : Option Match → Bool
is_matched_and_not_excluded None = false
is_matched_and_not_excluded (Some found) = not found.excluded

-- by the specs, if there are any, else by the url
abbrev pub is_active_by_specs_or_url : Option (List PathSpec) → List ℕ → List Section → Bool
is_active_by_specs_or_url None name sections = is_some (value name (codes "url") sections)
is_active_by_specs_or_url (Some specs) name sections = is_matched_and_not_excluded (match_of_path_by_specs specs name (Some true))

-- what a value says, or another answer where there is none
abbrev pub active_value_or_default : Bool → Result (Option Bool) (List ℕ) → Result Bool (List ℕ)
active_value_or_default other (Err text) = Err text
active_value_or_default other (Ok None) = Ok other
active_value_or_default other (Ok (Some answer)) = Ok answer

-- Whether a submodule is active by a configuration and the specs of one; the text of its own value, where that is no boolean.
abbrev pub is_active : Option (List PathSpec) → List Section → List ℕ → Result Bool (List ℕ)
is_active specs sections name =
    active_value_or_default (is_active_by_specs_or_url specs name sections) (last_boolean_value (codes "submodule") (Some name) (codes "active") sections)

-- a name, and whether it is active
abbrev pub NameAndActive : Type 0
NameAndActive = List ℕ × Result Bool (List ℕ)

-- a name, and whether it is active, or the text of its `active` where that is no boolean
abbrev pub name_with_activity : Option (List PathSpec) → List Section → List ℕ → NameAndActive
name_with_activity specs sections name = (name, is_active specs sections name)

-- each of some names, and whether it is active
abbrev pub names_with_activity : Option (List PathSpec) → List Section → List (List ℕ) → List NameAndActive
names_with_activity specs sections names = map (name_with_activity specs sections) names

-- each name with whether it is active; where a value of `submodule.active` is refused, no names but that refusal
abbrev pub names_with_activity_or_error : List Section → List (List ℕ) → Result (Option (List PathSpec)) Error → Result (List NameAndActive) Error
names_with_activity_or_error sections names (Ok specs) = Ok (names_with_activity specs sections names)
names_with_activity_or_error sections names (Err e) = Err e

-- The names that `.gitmodules` tells, and whether each is active by a configuration.
abbrev pub submodules_with_activity : Bool → List Section → List Section → Result (List NameAndActive) Error
submodules_with_activity fold modules sections = names_with_activity_or_error sections (submodule_names_of_gitmodules modules) (active_specs_or_error_of_config fold sections)
