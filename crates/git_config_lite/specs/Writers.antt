-- What may be added to a configuration, and what it is then.
use Rattle.std.specs.Prelude.{ℕ, List, [], ◌∷◌, ◌++◌, Bool, ◌&&◌, Some}
use Rattle.std.specs.List.{list_all}
use Rattle.git_config_lite.specs.Texts.{is_ascii_letter, is_key_byte, is_section_name_byte, first_byte_passes}
use Rattle.git_config_lite.specs.declared.entry.Entry.{Entry}
use Rattle.git_config_lite.specs.Sections.{Section, Configuration, empty_section, sections_with_entry_in_last}

-- the name of a section: letters, digits, hyphens and dots, and at least one of them
abbrev pub is_section_name : List ℕ → Bool
is_section_name name = first_byte_passes is_section_name_byte name && list_all is_section_name_byte name

-- a key: a letter, and then letters, digits and hyphens
abbrev pub is_key_name : List ℕ → Bool
is_key_name key = first_byte_passes is_ascii_letter key && list_all is_key_byte key

-- a configuration with these sections in place of its own, as if read from the same place
abbrev pub configuration_with_replaced_sections : Configuration → List Section → Configuration
configuration_with_replaced_sections file sections = record { meta = file.meta; sections = sections }

-- the sections of another configuration at the end, where they win; the first one's origin stays
abbrev pub configuration_with_other_appended : Configuration → Configuration → Configuration
configuration_with_other_appended file other = configuration_with_replaced_sections file (file.sections ++ other.sections)

-- one more section at the end, without keys, of the same origin as the configuration
abbrev pub configuration_with_empty_section : Configuration → List ℕ → List ℕ → Configuration
configuration_with_empty_section file name subsection = configuration_with_replaced_sections file (file.sections ++ empty_section name (Some subsection) file.meta ∷ [])

-- a key that has a value, be it the empty text
abbrev pub entry_of_key_and_value : List ℕ → List ℕ → Entry
entry_of_key_and_value key value = record { key = key; value = Some value }

-- one more key at the end of the last section; dropped where there is no section
abbrev pub configuration_with_value_in_last_section : Configuration → List ℕ → List ℕ → Configuration
configuration_with_value_in_last_section file key value = configuration_with_replaced_sections file (sections_with_entry_in_last (entry_of_key_and_value key value) file.sections)
