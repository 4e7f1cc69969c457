-- What the words of a line say of attributes, after gitattributes(5).
--
--     a       the attribute a is set
--     -a      it is unset
--     !a      it is unspecified, as if nothing were said of it; but it is said
--     a=v     it has the value v, which may be empty and may have further `=`
--
-- A name is made of letters, digits, `-`, `.` and `_`, at least one of them, and does not begin with `-`. A word of any other
-- form, as `-a=v` or one with another byte in its name, says nothing. Spaces and tabs part the words.
use Rattle.std.specs.Prelude.{ℕ, Bool, false, ◌||◌, List, [], ◌∷◌, drop, Option, Some, None, ◌==◌, if◌then◌else◌}
use Rattle.std.specs.List.{list_all, before_first, position_or_len, filter_map, slice_split}
pub use Rattle.gitbase_core.specs.Letters.{is_space_or_tab, is_ascii_letter, is_decimal_digit}
use Rattle.glob_rules.specs.declared.attributes.Assignment.{Assignment}
use Rattle.glob_rules.specs.declared.attributes.Assignment.TheVariants.{Set, Unset, Unspecified, Value}
use Rattle.glob_rules.specs.declared.attributes.word.Assigned.{Assigned}
use Rattle.glob_rules.specs.Marks.{dash, dot, underscore, exclamation_mark, equals_sign}

-- a letter, a digit, `-`, `.` or `_`
abbrev pub is_attribute_name_byte : ℕ → Bool
is_attribute_name_byte b = is_ascii_letter b || (is_decimal_digit b || ((b == dash) || ((b == dot) || (b == underscore))))

-- the name of an attribute
abbrev pub is_attribute_name : List ℕ → Bool
is_attribute_name [] = false
is_attribute_name (b ∷ bs) = if b == dash then false else list_all is_attribute_name_byte (b ∷ bs)

-- what is said of a name, if it is one
abbrev pub assignment_if_valid_name : List ℕ → Assignment → Option Assigned
assignment_if_valid_name name state = if is_attribute_name name then Some (record { name = name; state = state }) else None

-- `=`
abbrev pub is_equals_sign : ℕ → Bool
is_equals_sign b = b == equals_sign

-- what the rest of a word from its first `=` on says
abbrev pub state_from_rest_at_equals : List ℕ → Assignment
state_from_rest_at_equals [] = Set
state_from_rest_at_equals (b ∷ value) = Value value

-- a word without a mark at its front
abbrev pub parse_unprefixed_assignment : List ℕ → Option Assigned
parse_unprefixed_assignment word = assignment_if_valid_name (before_first is_equals_sign word) (state_from_rest_at_equals (drop (position_or_len is_equals_sign word) word))

-- a word
abbrev pub parse_assignment_word : List ℕ → Option Assigned
parse_assignment_word [] = None
parse_assignment_word (b ∷ bs) =
    if b == dash then assignment_if_valid_name bs Unset
    else if b == exclamation_mark then assignment_if_valid_name bs Unspecified
    else parse_unprefixed_assignment (b ∷ bs)

-- the words of a text
abbrev pub parse_assignments : List ℕ → List Assigned
parse_assignments text = filter_map parse_assignment_word (slice_split is_space_or_tab text)
