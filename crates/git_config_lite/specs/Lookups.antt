-- What is found in a configuration.
--
-- The names of sections and keys compare without regard to the case of ASCII letters, subsections by their bytes. Where keys
-- have several values the last one counts. A key without a value is the empty text, and true as a boolean.
use Rattle.std.specs.Prelude.{ℕ, List, [], ◌∷◌, ◌++◌, Bool, true, false, ◌&&◌, bytes_eq, reverse, find, Option, Some, None, option_map, unwrap_or, Result, Ok, Err, if◌then◌else◌}
use Rattle.git_config_lite.specs.declared.metadata.Source.{Source}
use Rattle.git_config_lite.specs.declared.entry.Entry.{Entry}
use Rattle.git_config_lite.specs.Sections.{Section}
use Rattle.git_config_lite.specs.Booleans.{is_equal_ignoring_ascii_case, parse_boolean}

-- a subsection, or none, is this one
abbrev pub is_same_subsection : Option (List ℕ) → Option (List ℕ) → Bool
is_same_subsection None None = true
is_same_subsection None (Some b) = false
is_same_subsection (Some a) None = false
is_same_subsection (Some a) (Some b) = bytes_eq a b

-- the names agree but for case, and the subsections byte for byte; without a subsection, both have none
abbrev pub is_section_of_name_and_subsection : List ℕ → Option (List ℕ) → Section → Bool
is_section_of_name_and_subsection name subsection section = is_equal_ignoring_ascii_case section.name name && is_same_subsection section.subsection subsection

-- the key of the entry is this one but for case
abbrev pub entry_has_key : List ℕ → Entry → Bool
entry_has_key key e = is_equal_ignoring_ascii_case e.key key

-- the text of a value, where there is one
abbrev pub value_or_empty_text : Option (List ℕ) → List ℕ
value_or_empty_text value = unwrap_or value []

-- ---- all values

-- the values of a key among some keys, in order
abbrev pub values_of_key_in_entries : List ℕ → List Entry → List (List ℕ)
values_of_key_in_entries key [] = []
values_of_key_in_entries key (e ∷ es) = if entry_has_key key e then value_or_empty_text e.value ∷ values_of_key_in_entries key es else values_of_key_in_entries key es

-- the keys of a section, if it is the one that is asked for
abbrev pub entries_if_section_matches : List ℕ → Option (List ℕ) → Section → List Entry
entries_if_section_matches name subsection section = if is_section_of_name_and_subsection name subsection section then section.entries else []

-- All values of a key, in order.
abbrev pub all_string_values : List ℕ → Option (List ℕ) → List ℕ → List Section → List (List ℕ)
all_string_values name subsection key [] = []
all_string_values name subsection key (section ∷ sections) = values_of_key_in_entries key (entries_if_section_matches name subsection section) ++ all_string_values name subsection key sections

-- ---- the last value

-- the last of some keys that is this one
abbrev pub last_entry_with_key : List ℕ → List Entry → Option Entry
last_entry_with_key key es = find (λ e. entry_has_key key e) (reverse es)

-- The text of a section's last value of a key.
abbrev pub last_value_in_section : List ℕ → Section → Option (List ℕ)
last_value_in_section key section = option_map (λ (e : Entry). value_or_empty_text e.value) (last_entry_with_key key section.entries)

-- a value, and what the section belongs to where it was found
pub record FoundValueAndSource : Type 0 where
  pub value : Option (List ℕ)
  pub source : Source

-- the value of an entry with the source of its section; a key without `=` is found too, without a value
abbrev pub found_value_of_entry : Source → Entry → FoundValueAndSource
found_value_of_entry source e = record { value = e.value; source = source }

-- the last value of a key in a section, if it is the one that is asked for
abbrev pub last_value_in_matching_section : List ℕ → Option (List ℕ) → List ℕ → Section → Option FoundValueAndSource
last_value_in_matching_section name subsection key section = option_map (found_value_of_entry section.meta.source) (last_entry_with_key key (entries_if_section_matches name subsection section))

-- the first if there is one, else the other
abbrev pub first_found_or_other : Option FoundValueAndSource → Option FoundValueAndSource → Option FoundValueAndSource
first_found_or_other None other = other
first_found_or_other (Some found) other = Some found

-- what the first section gives that gives something
abbrev pub value_of_first_section_with_key : List ℕ → Option (List ℕ) → List ℕ → List Section → Option FoundValueAndSource
value_of_first_section_with_key name subsection key [] = None
value_of_first_section_with_key name subsection key (section ∷ sections) = first_found_or_other (last_value_in_matching_section name subsection key section) (value_of_first_section_with_key name subsection key sections)

-- The last value of a key: that of the last section that has one.
abbrev pub last_value_in_sections : List ℕ → Option (List ℕ) → List ℕ → List Section → Option FoundValueAndSource
last_value_in_sections name subsection key sections = value_of_first_section_with_key name subsection key (reverse sections)

-- the value as a text: the empty one for a key without a value
abbrev pub text_of_found_value : FoundValueAndSource → List ℕ
text_of_found_value found = value_or_empty_text found.value

-- the last value of a key, as a text; none where the key is not set, the empty one where it has no value
abbrev pub last_string_value : List ℕ → Option (List ℕ) → List ℕ → List Section → Option (List ℕ)
last_string_value name subsection key sections = option_map text_of_found_value (last_value_in_sections name subsection key sections)

-- the value as a text, the empty one for a key without a value, and the source of its section
abbrev pub text_and_source_of_found : FoundValueAndSource → List ℕ × Source
text_and_source_of_found found = (text_of_found_value found, found.source)

-- the last value of a key, as a text, and the source of the section that has it
abbrev pub last_string_with_source : List ℕ → Option (List ℕ) → List ℕ → List Section → Option (List ℕ × Source)
last_string_with_source name subsection key sections = option_map text_and_source_of_found (last_value_in_sections name subsection key sections)

-- ---- booleans

-- a truth, or that the text is none
abbrev pub boolean_or_text_error : List ℕ → Option Bool → Result (Option Bool) (List ℕ)
boolean_or_text_error text None = Err text
boolean_or_text_error text (Some b) = Ok (Some b)

-- a key without a value is true; a text that is no boolean is refused by itself
abbrev pub boolean_of_value : Option (List ℕ) → Result (Option Bool) (List ℕ)
boolean_of_value None = Ok (Some true)
boolean_of_value (Some text) = boolean_or_text_error text (parse_boolean text)

-- what a key says as a boolean: none where it is not set, its text where that is no boolean
abbrev pub boolean_of_found_value : Option FoundValueAndSource → Result (Option Bool) (List ℕ)
boolean_of_found_value None = Ok None
boolean_of_found_value (Some found) = boolean_of_value found.value

-- What a key says as a boolean; its text, where that is none.
abbrev pub last_boolean_value : List ℕ → Option (List ℕ) → List ℕ → List Section → Result (Option Bool) (List ℕ)
last_boolean_value name subsection key sections = boolean_of_found_value (last_value_in_sections name subsection key sections)

-- ---- sections

-- a section has the name that is asked for, if one is
abbrev pub has_name_if_given : Option (List ℕ) → Section → Bool
has_name_if_given None section = true
has_name_if_given (Some name) section = is_equal_ignoring_ascii_case section.name name

-- the sections that are asked for, in order
abbrev pub sections_of_name : Option (List ℕ) → List Section → List Section
sections_of_name name [] = []
sections_of_name name (section ∷ sections) =
    if has_name_if_given name section then section ∷ sections_of_name name sections else sections_of_name name sections
