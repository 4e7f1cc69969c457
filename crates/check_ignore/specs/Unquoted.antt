-- A path in double quotes, as a string constant of C has it: git-config(1), `core.quotePath`. What stands behind the quote that closes it
-- means nothing.
use Rattle.std.specs.Prelude.{ℕ, ◌+◌, ◌-◌, ◌*◌, List, [], ◌∷◌, Bool, not, ◌&&◌, ◌==◌, nat_lt, zero, suc, Option, Some, None, option_map, option_and_then, if◌then◌else◌}
use Rattle.check_ignore.specs.declared.quotes.Meant.{Meant}

-- the byte that a letter behind a backslash means: `a`, `b`, `t`, `n`, `v`, `f`, `r` the bytes from 7 to 13, the quote and the backslash
-- themselves
abbrev pub unescape_letter : ℕ → Option ℕ
unescape_letter c =
    if c == 97 then Some 7
    else if c == 98 then Some 8
    else if c == 116 then Some 9
    else if c == 110 then Some 10
    else if c == 118 then Some 11
    else if c == 102 then Some 12
    else if c == 114 then Some 13
    else if c == 34 then Some 34
    else if c == 92 then Some 92
    else None

-- an octal digit, and one below 4
abbrev pub is_octal_digit : ℕ → Bool
is_octal_digit c = not (nat_lt c 48) && nat_lt c 56

-- a first digit with which three make one byte
abbrev pub is_octal_digit_below_four : ℕ → Bool
is_octal_digit_below_four c = not (nat_lt c 48) && nat_lt c 52

-- the byte that three octal digits mean; the first is below 4
abbrev pub byte_of_three_octal_digits : ℕ → ℕ → ℕ → Option ℕ
byte_of_three_octal_digits high middle low =
    if is_octal_digit_below_four high && (is_octal_digit middle && is_octal_digit low) then Some ((high - 48) * 64 + (middle - 48) * 8 + (low - 48)) else None

-- a byte that so many stand for
abbrev pub decoded_byte_of_length_if_some : ℕ → Option ℕ → Option Meant
decoded_byte_of_length_if_some length byte = option_map (λ b. record { byte = b; length = length }) byte

-- of three octal digits, the first of which is given; nothing where fewer are left
abbrev pub decode_octal_escape : ℕ → List ℕ → Option Meant
decode_octal_escape high [] = None
decode_octal_escape high (middle ∷ []) = None
decode_octal_escape high (middle ∷ low ∷ rest) = decoded_byte_of_length_if_some 4 (byte_of_three_octal_digits high middle low)

-- a letter that means a byte wins; else the bytes have to be octal digits
abbrev pub decoded_letter_or_octal_escape : ℕ → List ℕ → Option ℕ → Option Meant
decoded_letter_or_octal_escape first rest None = decode_octal_escape first rest
decoded_letter_or_octal_escape first rest (Some byte) = decoded_byte_of_length_if_some 2 (Some byte)

-- behind a backslash a letter, or three octal digits
abbrev pub decode_escape : List ℕ → Option Meant
decode_escape [] = None
decode_escape (first ∷ rest) = decoded_letter_or_octal_escape first rest (unescape_letter first)

-- what is meant first between quotes: behind a backslash another byte, and else the byte that stands there
abbrev pub decode_first_byte : List ℕ → Option Meant
decode_first_byte [] = None
decode_first_byte (b ∷ bytes) = if b == 92 then decode_escape bytes else decoded_byte_of_length_if_some 1 (Some b)

-- What is meant up to the closing quote, behind the bytes that are skipped. There is nothing where no quote closes it, or a backslash
-- stands before what is no letter and no digits.
abbrev pub unquote_c_style_after_opening_quote : ℕ → List ℕ → Option (List ℕ)
unquote_c_style_after_opening_quote skip [] = None
unquote_c_style_after_opening_quote (suc n) (b ∷ bytes) = unquote_c_style_after_opening_quote n bytes
unquote_c_style_after_opening_quote zero (b ∷ bytes) =
    if b == 34 then Some []
    else option_and_then (λ (m : Meant). option_map (λ (text : List ℕ). m.byte ∷ text) (unquote_c_style_after_opening_quote (m.length - 1) bytes)) (decode_first_byte (b ∷ bytes))
