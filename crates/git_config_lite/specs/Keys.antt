-- A key and what is behind it on its line.
--
-- A key begins with a letter and has letters, digits and hyphens. Behind it and spaces and tabs stands the end of the line or
-- a comment, and then it has no value, or `=` and a value.
use Rattle.std.specs.Prelude.{ℕ, List, take, drop, Option, Some, None, if◌then◌else◌}
use Rattle.git_config_lite.specs.Texts.{is_ascii_letter, is_key_byte, first_byte_passes, begins_with_byte, without_leading_blanks, is_empty_or_comment, length_of_leading_run}

-- a key, and the text behind its `=` where it has one
pub record KeyAndText : Type 0 where
  pub key : List ℕ
  pub text : Option (List ℕ)

-- a key with what stands behind it and its blanks: no value at the end or a comment, a value behind `=`, else none
abbrev pub parse_rest_of_line_after_key : List ℕ → List ℕ → Option KeyAndText
parse_rest_of_line_after_key key rest =
    if is_empty_or_comment rest then Some (record { key = key; text = None })
    else if begins_with_byte 61 rest then Some (record { key = key; text = Some (drop 1 rest) })
    else None

-- the key at the start of a line, and its value as yet unread; none where the line is outside the grammar
abbrev pub parse_key_and_text : List ℕ → Option KeyAndText
parse_key_and_text bytes =
    if first_byte_passes is_ascii_letter bytes then parse_rest_of_line_after_key (take (length_of_leading_run is_key_byte bytes) bytes) (without_leading_blanks (drop (length_of_leading_run is_key_byte bytes) bytes))
    else None
