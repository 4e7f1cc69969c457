-- A port that is read digit by digit is the number of its digits, where that is small enough.
use Rattle.std.proofs.Common.{◌≡◌, ℕ, ◌+◌, ◌*◌, ◌-◌, ◌≤◌, Bool, true, false, cond, List, [], ◌∷◌, Option, Some, None, option_and_then, refl, arith}
use Rattle.std.specs.Prelude.{◌&&◌, nat_le}
use Rattle.std.specs.List.{list_all}
use Rattle.std.proofs.lemmas.Bool.Decides.{nat_tests}
use Rattle.git_config_lite.specs.Texts.{is_decimal_digit}
use Rattle.submodule.specs.Urls.{decimal_number_after}
use Rattle.submodule.specs.Digits.{parse_port_number_after}

grows : (n : ℕ) (text : List ℕ) → n ≤ decimal_number_after n text
grows n [] = omega arith
grows n (d ∷ digits) = omega (arith, grows (n * 10 + (d - 48)) digits)

abbrev pub small_number : ℕ → List ℕ → Option ℕ
small_number n text = cond (list_all is_decimal_digit text && nat_le (decimal_number_after n text) 65535) (Some (decimal_number_after n text)) None

step : (digit fits all small : Bool) (m last : ℕ) (rest : ℕ → Option ℕ) → (fits ≡ true → rest m ≡ cond (all && small) (Some last) None)
    → (fits ≡ false → small ≡ false) → option_and_then rest (cond (digit && fits) (Some m) None) ≡ cond ((digit && all) && small) (Some last) None
step false fits all small m last rest h k = refl
step true true all small m last rest h k = h refl
step true false false small m last rest h k = refl
step true false true small m last rest h k = rw (k refl) refl

ends : (n : ℕ) → n ≤ 65535 → Some n ≡ cond (nat_le n 65535) (Some n) None
ends n fits = grind (arith, nat_tests)

too_great : (m last : ℕ) → m ≤ last → nat_le m 65535 ≡ false → nat_le last 65535 ≡ false
too_great m last more not_fits = grind (arith, nat_tests)

fits_in : (m : ℕ) → nat_le m 65535 ≡ true → m ≤ 65535
fits_in m yes_fits = grind (arith, nat_tests)

pub small_from-is : (n : ℕ) (text : List ℕ) → n ≤ 65535 → parse_port_number_after n text ≡ small_number n text
small_from-is n [] fits = ends n fits
small_from-is n (d ∷ digits) fits =
    let m : ℕ = n * 10 + (d - 48) in
    step (is_decimal_digit d) (nat_le m 65535) (list_all is_decimal_digit digits) (nat_le (decimal_number_after m digits) 65535) m (decimal_number_after m digits) (λ k. parse_port_number_after k digits)
    (λ small. small_from-is m digits (fits_in m small)) (λ great. too_great m (decimal_number_after m digits) (grows m digits) great)

pub whole : (text : List ℕ) → parse_port_number_after 0 text ≡ small_number 0 text
whole text = small_from-is 0 text (omega arith)
