-- The lines of a file of attributes, after gitattributes(5).
--
--     PATTERN WORD..         what is said of the paths that the pattern matches
--     "PATTERN" WORD..       the same, where the pattern has blanks: `\"` in it is a quote, and `\\` a backslash
--     [attr]NAME WORD..      a macro: what is said too wherever NAME is set
--
-- A byte order mark of UTF-8 at the start is skipped. A line ends at an LF, and a CR before that is none of it. Lines are counted
-- from 1. Spaces and tabs at the start of a line are none of it. An empty line says nothing, nor does one that begins with `#`, one
-- with a negative pattern, or one whose quote is not closed or has a `\` before another byte. A macro is defined
-- only in files that may have macros, and its name is that of an attribute; else its line says nothing.
use Rattle.std.specs.Prelude.{ℕ, ◌+◌, Bool, true, false, ◌&&◌, ◌||◌, List, [], ◌∷◌, ◌++◌, drop, map, Option, Some, None, option_map, option_and_then, option_to_list, codes, ◌==◌, nat_eq, if◌then◌else◌}
use Rattle.std.specs.List.{starts_with, before_first, position_or_len}
use Rattle.bstr.specs.Text.{lines_of, without_terminator}
use Rattle.gitbase_core.specs.Text.{without_byte_order_mark}
use Rattle.glob_rules.specs.declared.attributes.line.Head.{Head}
use Rattle.glob_rules.specs.declared.attributes.line.Head.TheVariants.{Paths, Macro}
use Rattle.glob_rules.specs.declared.attributes.line.Line.{Line}
use Rattle.glob_rules.specs.declared.attributes.quoted.Quoted.{Quoted}
use Rattle.glob_rules.specs.declared.attributes.quoted.Quoted.TheVariants.{Closes, Escapes, Stands, Breaks}
use Rattle.glob_rules.specs.Marks.{hash_mark, double_quote, backslash, exclamation_mark}
use Rattle.glob_rules.specs.Texts.{first_byte_passes}
use Rattle.glob_rules.specs.Rule.{parse_rule}
use Rattle.glob_rules.specs.AttributeWords.{is_space_or_tab, is_attribute_name, parse_assignments}

-- the bytes without the blanks at their front
abbrev pub without_leading_blanks : List ℕ → List ℕ
without_leading_blanks [] = []
without_leading_blanks (b ∷ bs) = if is_space_or_tab b then without_leading_blanks bs else b ∷ bs

-- What the front of a line is, and the rest of the line.
abbrev pub FrontAndRest : Type 0
FrontAndRest = List ℕ × List ℕ

-- what a byte between quotes is there; `escaped` says that a `\` stands before it
abbrev pub role_of_byte_in_quotes : Bool → ℕ → Quoted
role_of_byte_in_quotes true b = if (b == double_quote) || (b == backslash) then Stands else Breaks
role_of_byte_in_quotes false b = if b == double_quote then Closes else if b == backslash then Escapes else Stands

-- a text with one byte more at its front
abbrev pub front_with_byte_prepended : ℕ → Option FrontAndRest → Option FrontAndRest
front_with_byte_prepended b read = option_map (λ (parts : FrontAndRest). (b ∷ parts.0, parts.1)) read

-- what a byte between quotes leads to, where `escaped` and `plain` are what the bytes behind it are after a `\` and else
abbrev pub unquoted_by_byte_role : Quoted → ℕ → List ℕ → Option FrontAndRest → Option FrontAndRest → Option FrontAndRest
unquoted_by_byte_role Closes b rest escaped plain = Some ([], rest)
unquoted_by_byte_role Escapes b rest escaped plain = escaped
unquoted_by_byte_role Stands b rest escaped plain = front_with_byte_prepended b plain
unquoted_by_byte_role Breaks b rest escaped plain = None

-- the text up to the closing quote, and what follows that
abbrev pub unquoted_text_and_rest : Bool → List ℕ → Option FrontAndRest
unquoted_text_and_rest escaped [] = None
unquoted_text_and_rest escaped (b ∷ bs) = unquoted_by_byte_role (role_of_byte_in_quotes escaped b) b bs (unquoted_text_and_rest true bs) (unquoted_text_and_rest false bs)

-- the pattern of a line without blanks at its front, and the rest of the line; none where the line says nothing
abbrev pub pattern_and_rest_of_line : List ℕ → Option FrontAndRest
pattern_and_rest_of_line [] = None
pattern_and_rest_of_line (b ∷ bs) =
    if b == hash_mark then None
    else if b == double_quote then unquoted_text_and_rest false bs
    else Some (before_first is_space_or_tab (b ∷ bs), drop (position_or_len is_space_or_tab (b ∷ bs)) (b ∷ bs))

-- the text, if it is not empty
abbrev pub text_unless_empty : List ℕ → Option (List ℕ)
text_unless_empty [] = None
text_unless_empty (b ∷ bs) = Some (b ∷ bs)

-- the name behind `[attr]`; where nothing is behind it, it is a pattern
abbrev pub name_after_attr_prefix : List ℕ → Option (List ℕ)
name_after_attr_prefix text = if starts_with nat_eq text (codes "[attr]") then text_unless_empty (drop 6 text) else None

-- what a pattern, or the name behind `[attr]`, is the head of
abbrev pub head_of_pattern_or_macro_name : Bool → List ℕ → Option (List ℕ) → Option Head
head_of_pattern_or_macro_name macros text (Some name) = if macros && is_attribute_name name then Some (Macro name) else None
head_of_pattern_or_macro_name macros text None = if first_byte_passes (λ b. b == exclamation_mark) text then None else option_map Paths (parse_rule text)

-- what the front of a line is the head of
abbrev pub head_of_pattern_or_macro : Bool → List ℕ → Option Head
head_of_pattern_or_macro macros text = head_of_pattern_or_macro_name macros text (name_after_attr_prefix text)

-- a line of its parts
abbrev pub line_from_front_and_words : Bool → ℕ → FrontAndRest → Option Line
line_from_front_and_words macros number parts =
    option_map (λ (head : Head). record { number = number; head = head; assignments = parse_assignments parts.1 }) (head_of_pattern_or_macro macros parts.0)

-- what a line says, if it says anything
abbrev pub parse_attribute_line : Bool → ℕ → List ℕ → Option Line
parse_attribute_line macros number bytes = option_and_then (line_from_front_and_words macros number) (pattern_and_rest_of_line (without_leading_blanks bytes))

-- what lines say, the first of which has this number
abbrev pub attribute_lines_from_number : Bool → ℕ → List (List ℕ) → List Line
attribute_lines_from_number macros number [] = []
attribute_lines_from_number macros number (bytes ∷ rest) = option_to_list (parse_attribute_line macros number bytes) ++ attribute_lines_from_number macros (number + 1) rest

-- what a file says
abbrev pub lines : Bool → List ℕ → List Line
lines macros bytes = attribute_lines_from_number macros 1 (map without_terminator (lines_of (without_byte_order_mark bytes)))
