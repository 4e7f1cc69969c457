-- What a configuration says of submodules in place of `.gitmodules`.
--
-- For each name, in the order of their bytes, that has a value of one of the keys `branch`, `fetchRecurseSubmodules`,
-- `ignore`, `update` and `url`, one section `submodule` with the last value of each of these keys that it has, in this order.
-- They carry the path of the configuration and what it belongs to, which is the calling program if it says `.gitmodules`.
use Rattle.std.specs.Prelude.{ℕ, List, [], ◌∷◌, ◌++◌, codes, Bool, flat_map, Option, Some, None, is_some, option_map, option_to_list, Result, Ok, Err, if◌then◌else◌}
use Rattle.std.specs.Cmp.Lexicographic.{slice_cmp}
use Rattle.std.specs.Ordering.{nat_cmp}
use Rattle.std.specs.List.{list_any}
use Rattle.std.specs.BTreeSet.{insert_key}
use Rattle.git_config_lite.specs.declared.metadata.Source.{Source}
use Rattle.git_config_lite.specs.declared.metadata.Source.TheVariants.{GitInstallation, System, Git, User, Local, Env, Api, Modules}
use Rattle.git_config_lite.specs.declared.metadata.Metadata.{Metadata}
use Rattle.git_config_lite.specs.declared.entry.Entry.{Entry}
use Rattle.git_config_lite.specs.Sections.{Section, Configuration}
use Rattle.git_config_lite.specs.Lookups.{last_string_value}
use Rattle.git_config_lite.specs.Grammar.{parse_text_sections}
use Rattle.git_config_lite.specs.Writers.{entry_of_key_and_value, configuration_with_replaced_sections}
use Rattle.submodule.specs.Names.{submodule_sections}

-- names in the order of their bytes, with one more in its place, unless it is there
abbrev pub ordered_names_with_name : List (List ℕ) → Option (List ℕ) → List (List ℕ)
ordered_names_with_name names None = names
ordered_names_with_name names (Some name) = insert_key (slice_cmp nat_cmp) names name

-- the names that are in order once these sections are read
abbrev pub ordered_names_after_sections : List (List ℕ) → List Section → List (List ℕ)
ordered_names_after_sections names [] = names
ordered_names_after_sections names (section ∷ sections) = ordered_names_after_sections (ordered_names_with_name names section.subsection) sections

-- the names that a configuration tells, in the order of their bytes
abbrev pub ordered_submodule_names : List Section → List (List ℕ)
ordered_submodule_names sections = ordered_names_after_sections [] (submodule_sections sections)

-- the last value of a key of a submodule
abbrev pub value : List ℕ → List ℕ → List Section → Option (List ℕ)
value name key sections = last_string_value (codes "submodule") (Some name) key sections

-- a key of a submodule with its last value, if it has one
abbrev pub override : List ℕ → List ℕ → List Section → List Entry
override name key sections = option_to_list (option_map (entry_of_key_and_value key) (value name key sections))

-- the keys that override, in the order in which they are written
abbrev pub overriding_keys : List (List ℕ)
overriding_keys = codes "branch" ∷ codes "fetchRecurseSubmodules" ∷ codes "ignore" ∷ codes "update" ∷ codes "url" ∷ []

-- those of a submodule, with their last values
abbrev pub override_entries : List Section → List ℕ → List Entry
override_entries sections name = flat_map (λ key. override name key sections) overriding_keys

-- a submodule has some key that overrides
abbrev pub has_overriding_key : List Section → List ℕ → Bool
has_overriding_key sections name = list_any (λ key. is_some (value name key sections)) overriding_keys

-- the section of a submodule with each of these keys that it has, and without keys where it has none
abbrev pub override_section_of_submodule : Metadata → List Section → List ℕ → Section
override_section_of_submodule meta sections name =
    record { name = codes "submodule"; subsection = Some name; meta = meta; entries = override_entries sections name }

-- the section of a name, if it has some key that overrides
abbrev pub override_section_if_overriding : Metadata → List Section → List ℕ → List Section
override_section_if_overriding meta sections name = if has_overriding_key sections name then override_section_of_submodule meta sections name ∷ [] else []

-- the sections of some names
abbrev pub override_sections_of_names : Metadata → List Section → List (List ℕ) → List Section
override_sections_of_names meta sections [] = []
override_sections_of_names meta sections (name ∷ names) = override_section_if_overriding meta sections name ++ override_sections_of_names meta sections names

-- what overrides belong to
abbrev pub source_with_modules_as_api : Source → Source
source_with_modules_as_api Modules = Api
source_with_modules_as_api GitInstallation = GitInstallation
source_with_modules_as_api System = System
source_with_modules_as_api Git = Git
source_with_modules_as_api User = User
source_with_modules_as_api Local = Local
source_with_modules_as_api Env = Env
source_with_modules_as_api Api = Api

-- the path and source of the configuration; `Modules` turns into `Api`, so that no override counts as `.gitmodules`
abbrev pub metadata_of_overrides : Metadata → Metadata
metadata_of_overrides meta = record { source = source_with_modules_as_api meta.source; path = meta.path }

-- The overrides of a configuration.
abbrev pub overrides : Configuration → List Section
overrides config = override_sections_of_names (metadata_of_overrides config.meta) config.sections (ordered_submodule_names config.sections)

-- Submodules with the overrides of a configuration behind them.
abbrev pub modules_with_overrides_appended : Configuration → Configuration → Configuration
modules_with_overrides_appended modules config = configuration_with_replaced_sections modules (modules.sections ++ overrides config)

-- where the sections of `.gitmodules` are read
abbrev pub gitmodules_metadata : Option (List ℕ) → Metadata
gitmodules_metadata path = record { source = Modules; path = path }

-- a configuration of these sections, itself read where `meta` says
abbrev pub configuration_of_sections : Metadata → List Section → Configuration
configuration_of_sections meta sections = record { meta = meta; sections = sections }

-- sections of `.gitmodules` that were read, the overrides behind them; else the line that is refused
abbrev pub modules_with_overrides_or_error : Metadata → Configuration → Result (List Section) ℕ → Result Configuration ℕ
modules_with_overrides_or_error meta config (Err line) = Err line
modules_with_overrides_or_error meta config (Ok sections) = Ok (modules_with_overrides_appended (configuration_of_sections meta sections) config)

-- What the text of `.gitmodules` says of submodules beside a configuration, or the number of its first line outside the
-- grammar of configurations.
abbrev pub parse_gitmodules_with_overrides : Option (List ℕ) → List ℕ → Configuration → Result Configuration ℕ
parse_gitmodules_with_overrides path text config = modules_with_overrides_or_error (gitmodules_metadata path) config (parse_text_sections (gitmodules_metadata path) text)
