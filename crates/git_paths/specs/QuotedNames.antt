-- Paths as git prints them where a line feed ends a line: git-config(1), `core.quotePath`. A path with a byte that is special stands in
-- double quotes, and each such byte as a string constant of C has it.
use Rattle.std.specs.Prelude.{ℕ, ◌+◌, ◌/◌, ◌%◌, List, [], ◌∷◌, ◌++◌, Bool, nat_lt, ◌==◌, ◌&&◌, ◌||◌, Option, Some, None, if◌then◌else◌}
use Rattle.std.specs.List.{flat_map, list_any}

-- A control byte, DEL, the double quote and the backslash are special; with `core.quotePath` each byte above 0x7f is, too.
abbrev pub needs_c_style_escape : Bool → ℕ → Bool
needs_c_style_escape quote_path b = nat_lt b 32 || (b == 34 || (b == 92 || (b == 127 || (quote_path && nat_lt 127 b))))

-- three octal digits
abbrev pub three_octal_digits : ℕ → List ℕ
three_octal_digits b = (48 + b / 64) ∷ (48 + (b / 8) % 8) ∷ (48 + b % 8) ∷ []

-- the letter that stands behind the backslash for a byte: `a`, `b`, `t`, `n`, `v`, `f`, `r` for the bytes from 7 to 13, and the quote
-- and the backslash for themselves
abbrev pub c_escape_letter : ℕ → Option ℕ
c_escape_letter b =
    if b == 7 then Some 97
    else if b == 8 then Some 98
    else if b == 9 then Some 116
    else if b == 10 then Some 110
    else if b == 11 then Some 118
    else if b == 12 then Some 102
    else if b == 13 then Some 114
    else if b == 34 then Some 34
    else if b == 92 then Some 92
    else None

abbrev pub escape_letter_or_octal_digits : ℕ → Option ℕ → List ℕ
escape_letter_or_octal_digits b None = three_octal_digits b
escape_letter_or_octal_digits b (Some c) = c ∷ []

-- what stands behind the backslash for a byte: its letter, else its digits
abbrev pub escape_after_backslash : ℕ → List ℕ
escape_after_backslash b = escape_letter_or_octal_digits b (c_escape_letter b)

-- a byte as it stands in quotes
abbrev pub byte_escaped_if_needed : Bool → ℕ → List ℕ
byte_escaped_if_needed quote_path b = if needs_c_style_escape quote_path b then 92 ∷ escape_after_backslash b else b ∷ []

-- a path has a byte that is special
abbrev pub path_needs_c_style_quotes : Bool → List ℕ → Bool
path_needs_c_style_quotes quote_path path = list_any (needs_c_style_escape quote_path) path

-- the bytes of a path as they stand in quotes
abbrev pub path_bytes_escaped : Bool → List ℕ → List ℕ
path_bytes_escaped quote_path path = flat_map (byte_escaped_if_needed quote_path) path

-- a path within its quotes
abbrev pub path_in_double_quotes : Bool → List ℕ → List ℕ
path_in_double_quotes quote_path path = 34 ∷ path_bytes_escaped quote_path path ++ 34 ∷ []

-- a path as it is printed: in quotes where it needs them, else as it is
unfoldable pub path_quoted_if_needed : Bool → List ℕ → List ℕ
path_quoted_if_needed quote_path path = if path_needs_c_style_quotes quote_path path then path_in_double_quotes quote_path path else path
