-- The depth limit of a setup.
use Rattle.std.specs.Prelude.{ℕ, ◌+◌, ◌-◌, ◌*◌, List, [], ◌∷◌, nat_le, ◌==◌, ◌&&◌, if◌then◌else◌, codes, Option, Some, None}
use Rattle.std.specs.Str.{bytes_eq}
use Rattle.gitbase_core.specs.Steps.{◌>>=◌}

-- a decimal digit
abbrev pub parse_decimal_digit : ℕ → Option ℕ
parse_decimal_digit b = if nat_le 48 b && nat_le b 57 then Some (b - 48) else None

-- the first digit of a number of several
abbrev pub parse_nonzero_digit : ℕ → Option ℕ
parse_nonzero_digit b = if b == 48 then None else parse_decimal_digit b

-- a number of two digits, and one of three
abbrev pub parse_two_digits : ℕ → ℕ → Option ℕ
parse_two_digits a b = do
  tens ← parse_nonzero_digit a
  ones ← parse_decimal_digit b
  Some (10 * tens + ones)

-- a number from 100 to 999
abbrev pub parse_three_digits : ℕ → ℕ → ℕ → Option ℕ
parse_three_digits a b c = do
  front ← parse_two_digits a b
  ones ← parse_decimal_digit c
  Some (10 * front + ones)

-- a decimal number from 0 to 1000, without zeros in front
abbrev pub parse_depth_limit : List ℕ → Option ℕ
parse_depth_limit (a ∷ []) = parse_decimal_digit a
parse_depth_limit (a ∷ b ∷ []) = parse_two_digits a b
parse_depth_limit (a ∷ b ∷ c ∷ []) = parse_three_digits a b c
parse_depth_limit (a ∷ b ∷ c ∷ d ∷ []) = if bytes_eq (a ∷ b ∷ c ∷ d ∷ []) (codes "1000") then Some 1000 else None
parse_depth_limit _ = None
