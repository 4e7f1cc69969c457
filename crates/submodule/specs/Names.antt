-- The submodules that `.gitmodules` names.
use Rattle.std.specs.Prelude.{ℕ, List, [], ◌∷◌, ◌++◌, codes, Bool, true, false, Option, Some, None, if◌then◌else◌}
pub use Rattle.gitbase_core.specs.Among.{is_text_in_list, HaveSameTexts}
use Rattle.git_config_lite.specs.declared.metadata.Source.{Source}
use Rattle.git_config_lite.specs.declared.metadata.Source.TheVariants.{GitInstallation, System, Git, User, Local, Env, Api, Modules}
use Rattle.git_config_lite.specs.Sections.{Section}
use Rattle.git_config_lite.specs.Lookups.{sections_of_name}

-- a section is one of `.gitmodules`
abbrev pub is_gitmodules_source : Source → Bool
is_gitmodules_source Modules = true
is_gitmodules_source GitInstallation = false
is_gitmodules_source System = false
is_gitmodules_source Git = false
is_gitmodules_source User = false
is_gitmodules_source Local = false
is_gitmodules_source Env = false
is_gitmodules_source Api = false

-- the sections `submodule`, whatever their subsections
abbrev pub submodule_sections : List Section → List Section
submodule_sections sections = sections_of_name (Some (codes "submodule")) sections

-- the name that a section tells, if it is one of `.gitmodules`
abbrev pub name_if_gitmodules_section : Section → Option (List ℕ)
name_if_gitmodules_section section = if is_gitmodules_source section.meta.source then section.subsection else None

-- the names with one more, unless it is among them
abbrev pub names_with_name_added_once : List (List ℕ) → Option (List ℕ) → List (List ℕ)
names_with_name_added_once names None = names
names_with_name_added_once names (Some name) = if is_text_in_list name names then names else names ++ name ∷ []

-- the names that are known once these sections are read
abbrev pub names_after_reading_sections : List (List ℕ) → List Section → List (List ℕ)
names_after_reading_sections names [] = names
names_after_reading_sections names (section ∷ sections) = names_after_reading_sections (names_with_name_added_once names (name_if_gitmodules_section section)) sections

-- The names of the submodules, each once, in the order in which they are first told.
abbrev pub submodule_names_of_gitmodules : List Section → List (List ℕ)
submodule_names_of_gitmodules sections = names_after_reading_sections [] (submodule_sections sections)
