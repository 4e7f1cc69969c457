-- Where the sections of a configuration stand, in the order of the texts by which they are found.
--
-- A section is found by its subsection, or by the empty text where it has none. So a look-up passes over those sections alone
-- that may be asked for.
use Rattle.std.specs.Prelude.{ℕ, ◌+◌, List, [], ◌∷◌, Bool, not, Option, Some, None, unwrap_or}
use Rattle.std.specs.Cmp.Lexicographic.{slice_cmp}
use Rattle.std.specs.Ordering.{nat_cmp, is_lt}
use Rattle.std.specs.List.{slice_get}
use Rattle.std.specs.List.Sorted.{IsStableBy, ties}
use Rattle.git_config_lite.specs.declared.section_place.SectionPlace.{SectionPlace}
use Rattle.git_config_lite.specs.Sections.{Section}
use Rattle.git_config_lite.specs.Lookups.{FoundValueAndSource, last_value_in_matching_section, first_found_or_other}

-- the text by which a section of a subsection is found
abbrev pub subsection_or_empty_text : Option (List ℕ) → List ℕ
subsection_or_empty_text subsection = unwrap_or subsection []

-- the text by which a section is found, and how many sections stand before it
abbrev pub section_place : List ℕ → ℕ → SectionPlace
section_place key number = record { key = key; number = number }

-- the places of sections before which so many others stand, in their order
abbrev pub places_numbered_from : ℕ → List Section → List SectionPlace
places_numbered_from number [] = []
places_numbered_from number (section ∷ sections) = section_place (subsection_or_empty_text section.subsection) number ∷ places_numbered_from (number + 1) sections

-- the text of a place is less than another's
abbrev pub is_subsection_text_before : SectionPlace → SectionPlace → Bool
is_subsection_text_before a b = is_lt (slice_cmp nat_cmp a.key b.key)

-- the text of a place is less than this one
abbrev pub is_subsection_text_below : List ℕ → SectionPlace → Bool
is_subsection_text_below key p = is_subsection_text_before p (section_place key 0)

-- the text of a place is not greater than this one
abbrev pub is_subsection_text_at_most : List ℕ → SectionPlace → Bool
is_subsection_text_at_most key p = not (is_subsection_text_before (section_place key 0) p)

-- a place has this text
abbrev pub place_has_subsection_text : List ℕ → SectionPlace → Bool
place_has_subsection_text key p = ties is_subsection_text_before (section_place key 0) p

-- places are those of sections; those of one text stand in the order of the sections
abbrev pub IsSortedIndexOfSections : List SectionPlace → List Section → Type 0
IsSortedIndexOfSections places sections = IsStableBy is_subsection_text_before (places_numbered_from 0 sections) places

-- the last value of a key in the section of a place
abbrev pub last_value_in_optional_section : List ℕ → Option (List ℕ) → List ℕ → Option Section → Option FoundValueAndSource
last_value_in_optional_section name subsection key None = None
last_value_in_optional_section name subsection key (Some section) = last_value_in_matching_section name subsection key section

-- what the first place gives that gives something
abbrev pub value_of_first_place_with_key : List ℕ → Option (List ℕ) → List ℕ → List Section → List SectionPlace → Option FoundValueAndSource
value_of_first_place_with_key name subsection key sections [] = None
value_of_first_place_with_key name subsection key sections (p ∷ places) =
    first_found_or_other (last_value_in_optional_section name subsection key (slice_get sections p.number)) (value_of_first_place_with_key name subsection key sections places)
