-- A port that is read digit by digit.
use Rattle.std.specs.Prelude.{ℕ, ◌+◌, ◌*◌, ◌-◌, List, [], ◌∷◌, nat_le, ◌&&◌, Option, Some, None, option_and_then, if◌then◌else◌}
use Rattle.git_config_lite.specs.Texts.{is_decimal_digit}

-- a number with one more digit behind it; none where that byte is no digit, or the number is too great for a port
abbrev pub port_with_digit_appended : ℕ → ℕ → Option ℕ
port_with_digit_appended n d = if is_decimal_digit d && nat_le (n * 10 + (d - 48)) 65535 then Some (n * 10 + (d - 48)) else None

-- what a number is with more digits behind it, if each of them may follow
abbrev pub parse_port_number_after : ℕ → List ℕ → Option ℕ
parse_port_number_after n [] = Some n
parse_port_number_after n (d ∷ digits) = option_and_then (λ m. parse_port_number_after m digits) (port_with_digit_appended n d)
