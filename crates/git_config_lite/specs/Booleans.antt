-- Which texts are booleans.
--
-- Without regard to the case of ASCII letters: `yes`, `on` and `true` are true; `no`, `off`, `false` and the empty text are
-- false. So is a number: a sign or none, decimal digits, and one of the suffixes `k`, `m` and `g` or none; it is true where
-- some digit is not 0.
use Rattle.std.specs.Prelude.{ℕ, ◌-◌, List, [], ◌∷◌, Bool, true, false, not, ◌==◌, ◌||◌, bytes_eq, codes, length, take, slice_get, map, Option, Some, None, if◌then◌else◌}
use Rattle.std.specs.Char.{to_ascii_lowercase}
use Rattle.std.specs.List.{list_all, list_any}
use Rattle.git_config_lite.specs.Texts.{is_decimal_digit}

-- equal but for the case of ASCII letters
abbrev pub is_equal_ignoring_ascii_case : List ℕ → List ℕ → Bool
is_equal_ignoring_ascii_case a b = bytes_eq (map to_ascii_lowercase a) (map to_ascii_lowercase b)

-- `yes`, `on` or `true`, in whatever case; a number that is true is none of these
abbrev pub is_true_word : List ℕ → Bool
is_true_word text = is_equal_ignoring_ascii_case text (codes "yes") || (is_equal_ignoring_ascii_case text (codes "on") || is_equal_ignoring_ascii_case text (codes "true"))

-- `no`, `off` or `false`, in whatever case, or the empty text; `0` is none of these
abbrev pub is_false_word : List ℕ → Bool
is_false_word text = is_equal_ignoring_ascii_case text (codes "no") || (is_equal_ignoring_ascii_case text (codes "off") || (is_equal_ignoring_ascii_case text (codes "false") || is_equal_ignoring_ascii_case text []))

-- a sign that may stand before the digits of a number
abbrev pub is_plus_or_minus : ℕ → Bool
is_plus_or_minus b = b == 43 || b == 45

-- a number without its sign; a second sign stays, so that the text is no number
abbrev pub without_leading_sign : List ℕ → List ℕ
without_leading_sign [] = []
without_leading_sign (b ∷ bytes) = if is_plus_or_minus b then bytes else b ∷ bytes

-- `k`, `m` or `g`
abbrev pub is_number_suffix : ℕ → Bool
is_number_suffix b = b == 107 || (b == 75 || (b == 109 || (b == 77 || (b == 103 || b == 71))))

-- the byte is there and is `k`, `m` or `g` in either case
abbrev pub is_optional_byte_number_suffix : Option ℕ → Bool
is_optional_byte_number_suffix None = false
is_optional_byte_number_suffix (Some b) = is_number_suffix b

-- a number without one unit at its end; the unit does not change whether the number is 0
abbrev pub without_number_suffix : List ℕ → List ℕ
without_number_suffix text = if is_optional_byte_number_suffix (slice_get text (length text - 1)) then take (length text - 1) text else text

-- whether some digit is not 0, where these are digits
abbrev pub truth_of_decimal_digits : List ℕ → Option Bool
truth_of_decimal_digits [] = None
truth_of_decimal_digits (d ∷ digits) = if list_all is_decimal_digit (d ∷ digits) then Some (list_any (λ b. not (b == 48)) (d ∷ digits)) else None

-- what a text says as a boolean; none where it is no boolean
abbrev pub parse_boolean : List ℕ → Option Bool
parse_boolean text =
    if is_true_word text then Some true
    else if is_false_word text then Some false
    else truth_of_decimal_digits (without_number_suffix (without_leading_sign text))
