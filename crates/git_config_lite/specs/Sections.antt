-- The sections of a configuration.
use Rattle.std.specs.Prelude.{ℕ, List, [], ◌∷◌, ◌++◌, Option, None}
use Rattle.git_config_lite.specs.declared.metadata.Metadata.{Metadata}
use Rattle.git_config_lite.specs.declared.metadata.Source.TheVariants.{Api}
use Rattle.git_config_lite.specs.declared.entry.Entry.{Entry}

-- a section: its name, its subsection where it has one, where it was read, and its keys in order
pub record Section : Type 0 where
  pub name : List ℕ
  pub subsection : Option (List ℕ)
  pub meta : Metadata
  pub entries : List Entry

-- a configuration: where it was read, and its sections in order
pub record Configuration : Type 0 where
  pub meta : Metadata
  pub sections : List Section

-- where several files are read together: in no file, and put together by the calling program
abbrev pub metadata_of_joined_files : Metadata
metadata_of_joined_files = record { source = Api; path = None }

-- a section without keys
abbrev pub empty_section : List ℕ → Option (List ℕ) → Metadata → Section
empty_section name subsection meta = record { name = name; subsection = subsection; meta = meta; entries = [] }

-- a section with one more key at its end
abbrev pub section_with_entry : Entry → Section → Section
section_with_entry e section = record { name = section.name; subsection = section.subsection; meta = section.meta; entries = section.entries ++ e ∷ [] }

-- sections, the last of which has one more key
abbrev pub sections_with_entry_in_last : Entry → List Section → List Section
sections_with_entry_in_last e [] = []
sections_with_entry_in_last e (section ∷ []) = section_with_entry e section ∷ []
sections_with_entry_in_last e (section ∷ next ∷ more) = section ∷ sections_with_entry_in_last e (next ∷ more)
