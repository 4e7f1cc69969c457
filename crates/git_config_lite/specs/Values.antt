-- The value of a key, which may go on over several lines.
--
-- A line of a value is read into its elements: blanks, which are spaces and tabs outside double quotes, plain bytes, and the
-- quotes themselves. Within quotes each byte is plain. Outside of them `#` and `;` begin a comment. The escapes `\"`, `\\`,
-- `\n`, `\t` and `\b` give one plain byte each. A backslash at the line's end continues the value on the next line, and may
-- not stand there within quotes. A quote is closed on its line. The value is the bytes of all elements, the blanks at both
-- ends dropped; a quote gives no byte, and keeps the blanks beside it.
use Rattle.std.specs.Prelude.{ℕ, List, [], ◌∷◌, ◌++◌, Bool, true, false, not, ◌==◌, reverse, Option, Some, None, option_map, option_to_list, if◌then◌else◌}
use Rattle.git_config_lite.specs.Texts.{is_space_or_tab, is_comment_mark}
use Rattle.git_config_lite.specs.declared.element.Element.{Element}
use Rattle.git_config_lite.specs.declared.element.Element.TheVariants.{Blank, Plain, Quote}
use Rattle.git_config_lite.specs.declared.element.Place.{Place}
use Rattle.git_config_lite.specs.declared.element.ValueByte.{ValueByte}
use Rattle.git_config_lite.specs.declared.element.ValueByte.TheVariants.{Outside, Ends, Escapes, Gives}

-- the byte that stands for another behind a backslash
abbrev pub byte_for_escape_letter : ℕ → Option ℕ
byte_for_escape_letter b =
    if b == 34 then Some 34
    else if b == 92 then Some 92
    else if b == 110 then Some 10
    else if b == 116 then Some 9
    else if b == 98 then Some 8
    else None

-- what an escape does: it gives its byte as a plain one; an unknown escape is outside the grammar
abbrev pub effect_of_escape : Option ℕ → ValueByte
effect_of_escape None = Outside
effect_of_escape (Some b) = Gives (Plain b)

-- what a byte of a value does that is no backslash and behind none
abbrev pub effect_of_unquoted_byte : ℕ → ValueByte
effect_of_unquoted_byte b =
    if is_space_or_tab b then Gives (Blank b)
    else if is_comment_mark b then Ends
    else Gives (Plain b)

-- what a byte of a value does
abbrev pub effect_of_value_byte : Place → ℕ → ValueByte
effect_of_value_byte place b =
    if place.is_escaped then effect_of_escape (byte_for_escape_letter b)
    else if b == 92 then Escapes
    else if b == 34 then Gives Quote
    else if place.is_quoted then Gives (Plain b)
    else effect_of_unquoted_byte b

-- the place behind a backslash
abbrev pub place_after_backslash : Place → Place
place_after_backslash place = record { is_quoted = place.is_quoted; is_escaped = true }

-- the place behind an element
abbrev pub place_after_element : Place → Element → Place
place_after_element place Quote = record { is_quoted = not place.is_quoted; is_escaped = false }
place_after_element place (Blank _) = record { is_quoted = place.is_quoted; is_escaped = false }
place_after_element place (Plain _) = record { is_quoted = place.is_quoted; is_escaped = false }

-- the elements of one line, and whether the value goes on on the next one
pub record ValuePiece : Type 0 where
  pub elements : List Element
  pub continues : Bool

-- a piece with more elements before it
abbrev pub piece_with_elements_before : List Element → ValuePiece → ValuePiece
piece_with_elements_before more piece = record { elements = more ++ piece.elements; continues = piece.continues }

-- a line that adds nothing to a value, which goes on on the next line or not
abbrev pub piece_without_elements : Bool → ValuePiece
piece_without_elements continues = record { elements = []; continues = continues }

-- the end of a line
abbrev pub piece_at_line_end : Place → Option ValuePiece
piece_at_line_end place = if place.is_quoted then None else Some (piece_without_elements place.is_escaped)

-- a piece, by what its first byte does and what may be behind it
abbrev pub piece_by_effect_of_first_byte : Place → (Place → Option ValuePiece) → ValueByte → Option ValuePiece
piece_by_effect_of_first_byte place behind Outside = None
piece_by_effect_of_first_byte place behind Ends = Some (piece_without_elements false)
piece_by_effect_of_first_byte place behind Escapes = behind (place_after_backslash place)
piece_by_effect_of_first_byte place behind (Gives e) = option_map (piece_with_elements_before (e ∷ [])) (behind (place_after_element place e))

-- the piece of a line from a place on; none where it is outside the grammar
unfoldable pub parse_value_piece_from_place : Place → List ℕ → Option ValuePiece
parse_value_piece_from_place place [] = piece_at_line_end place
parse_value_piece_from_place place (b ∷ bytes) = piece_by_effect_of_first_byte place (λ p. parse_value_piece_from_place p bytes) (effect_of_value_byte place b)

-- outside quotes, and behind no backslash
abbrev pub unquoted_unescaped_place : Place
unquoted_unescaped_place = record { is_quoted = false; is_escaped = false }

-- the elements of one line of a value, which begins outside quotes; none where the line is outside the grammar
abbrev pub parse_value_piece : List ℕ → Option ValuePiece
parse_value_piece line = parse_value_piece_from_place unquoted_unescaped_place line

-- a space or tab outside quotes; neither a quoted one nor a quote is blank
abbrev pub is_blank_element : Element → Bool
is_blank_element (Blank _) = true
is_blank_element (Plain _) = false
is_blank_element Quote = false

-- the byte that an element adds to the value; a quote adds none
abbrev pub byte_of_element : Element → Option ℕ
byte_of_element (Blank b) = Some b
byte_of_element (Plain b) = Some b
byte_of_element Quote = None

-- elements without the blanks at their start
abbrev pub without_leading_blank_elements : List Element → List Element
without_leading_blank_elements [] = []
without_leading_blank_elements (e ∷ es) = if is_blank_element e then without_leading_blank_elements es else e ∷ es

-- elements without the blanks at both ends
abbrev pub elements_without_outer_blanks : List Element → List Element
elements_without_outer_blanks es = reverse (without_leading_blank_elements (reverse (without_leading_blank_elements es)))

-- the bytes of all elements, blanks at both ends included
abbrev pub bytes_of_elements : List Element → List ℕ
bytes_of_elements [] = []
bytes_of_elements (e ∷ es) = option_to_list (byte_of_element e) ++ bytes_of_elements es

-- the value of the elements of all its lines
abbrev pub value_of_elements : List Element → List ℕ
value_of_elements es = bytes_of_elements (elements_without_outer_blanks es)
