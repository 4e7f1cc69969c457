-- Paths as texts: some bytes stand as a backslash and two hexadecimal digits.
use Rattle.std.specs.Prelude.{ℕ, zero, suc, ◌+◌, ◌-◌, ◌*◌, ◌/◌, ◌%◌, List, [], ◌∷◌, Bool, nat_lt, nat_le, ◌==◌, ◌&&◌, ◌||◌, if◌then◌else◌, Option, Some, None, option_map, option_and_then}
use Rattle.std.specs.List.{flat_map}

-- the byte of a lower-case hexadecimal digit
abbrev pub hex_digit : ℕ → ℕ
hex_digit n = if nat_lt n 10 then 48 + n else 87 + n

-- a control byte, DEL or the backslash
abbrev pub needs_escape : ℕ → Bool
needs_escape b = nat_lt b 32 || (b == 127 || b == 92)

-- a byte as a backslash and two digits
abbrev pub hex_escape_of_byte : ℕ → List ℕ
hex_escape_of_byte b = 92 ∷ hex_digit (b / 16) ∷ hex_digit (b % 16) ∷ []

-- a control byte, DEL or a backslash is escaped; any other byte, a space too, stands as it is
abbrev pub byte_escaped_if_needed : ℕ → List ℕ
byte_escaped_if_needed b = if needs_escape b then hex_escape_of_byte b else b ∷ []

-- a path as the report writes it
abbrev pub path_escaped : List ℕ → List ℕ
path_escaped bytes = flat_map byte_escaped_if_needed bytes

-- the same within a word, which spaces end
abbrev pub byte_escaped_in_word : ℕ → List ℕ
byte_escaped_in_word b = if needs_escape b || b == 32 then hex_escape_of_byte b else b ∷ []

-- a path as one word of a line: a space in it is escaped too, so that none ends the word
abbrev pub path_escaped_in_word : List ℕ → List ℕ
path_escaped_in_word bytes = flat_map byte_escaped_in_word bytes

-- the value of a lower-case hexadecimal digit
abbrev pub value_of_hex_digit : ℕ → Option ℕ
value_of_hex_digit b =
    if nat_le 48 b && nat_le b 57 then Some (b - 48)
    else if nat_le 97 b && nat_le b 102 then Some (b - 87)
    else None

-- the byte that the first two bytes write as hexadecimal digits
abbrev pub byte_from_two_hex_digits : List ℕ → Option ℕ
byte_from_two_hex_digits (high ∷ low ∷ rest) = option_and_then (λ (h : ℕ). option_map (λ (l : ℕ). 16 * h + l) (value_of_hex_digit low)) (value_of_hex_digit high)
byte_from_two_hex_digits _ = None

-- the bytes behind those that are still to be skipped, each backslash with its two digits read as one
unfoldable pub unescape_after_skipping : ℕ → List ℕ → Option (List ℕ)
unescape_after_skipping skip [] = Some []
unescape_after_skipping (suc skip) (b ∷ bytes) = unescape_after_skipping skip bytes
unescape_after_skipping zero (b ∷ bytes) =
    if b == 92 then option_and_then (λ (c : ℕ). option_map (λ (text : List ℕ). c ∷ text) (unescape_after_skipping 2 bytes)) (byte_from_two_hex_digits bytes)
    else option_map (λ (text : List ℕ). b ∷ text) (unescape_after_skipping 0 bytes)

-- The bytes that a text stands for. None where a backslash is not followed by two lower-case hexadecimal digits.
abbrev pub unescape_path : List ℕ → Option (List ℕ)
unescape_path bytes = unescape_after_skipping 0 bytes
