-- The lines of a configuration file, and the kinds of their bytes.
--
-- A byte order mark of UTF-8 at the start is skipped. A line ends at an LF, and a CR before that is none of it. Spaces and
-- tabs at the start of a line are skipped. A comment begins with `#` or `;`.
use Rattle.std.specs.Prelude.{ℕ, List, [], ◌∷◌, Bool, true, false, not, ◌==◌, ◌||◌, length, map, position, unwrap_or, if◌then◌else◌}
use Rattle.bstr.specs.Text.{lines_of, without_terminator}
pub use Rattle.gitbase_core.specs.Letters.{is_space_or_tab, is_ascii_letter, is_decimal_digit}
pub use Rattle.gitbase_core.specs.Text.{without_byte_order_mark}

-- the lines of a text, without their ends
abbrev pub lines_without_terminators : List ℕ → List (List ℕ)
lines_without_terminators text = map without_terminator (lines_of (without_byte_order_mark text))

-- `#` or `;`
abbrev pub is_comment_mark : ℕ → Bool
is_comment_mark b = b == 35 || b == 59

-- a byte of a key: a letter, a digit or a hyphen
abbrev pub is_key_byte : ℕ → Bool
is_key_byte b = is_ascii_letter b || (is_decimal_digit b || b == 45)

-- a byte of the name of a section: one of a key, or a dot
abbrev pub is_section_name_byte : ℕ → Bool
is_section_name_byte b = is_key_byte b || b == 46

-- the first byte there is passes a test
abbrev pub first_byte_passes : (ℕ → Bool) → List ℕ → Bool
first_byte_passes test [] = false
first_byte_passes test (b ∷ _) = test b

-- the first byte is there and is this one
abbrev pub begins_with_byte : ℕ → List ℕ → Bool
begins_with_byte c bytes = first_byte_passes (λ b. b == c) bytes

-- what is behind the spaces and tabs at the start
abbrev pub without_leading_blanks : List ℕ → List ℕ
without_leading_blanks [] = []
without_leading_blanks (b ∷ bytes) = if is_space_or_tab b then without_leading_blanks bytes else b ∷ bytes

-- nothing is left of a line, or a comment
abbrev pub is_empty_or_comment : List ℕ → Bool
is_empty_or_comment [] = true
is_empty_or_comment (b ∷ _) = is_comment_mark b

-- how many bytes stand before the first one that is not of a kind
abbrev pub length_of_leading_run : (ℕ → Bool) → List ℕ → ℕ
length_of_leading_run test bytes = unwrap_or (position (λ b. not (test b)) bytes) (length bytes)
