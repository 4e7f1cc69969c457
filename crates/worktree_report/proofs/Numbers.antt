-- Decimal numbers, digit by digit.
use Rattle.std.proofs.Common.{◌≡◌, ◌≤◌, ◌<◌, ◌+◌, ◌*◌, ℕ, suc, List, [], ◌∷◌, drop, get_or, length, Option, Some, None, refl, ap, ◌∙◌, sym, arith, drop-cons, add-one}
use Rattle.std.specs.Prelude.{option_and_then}
use Rattle.std.proofs.lemmas.Bool.Decides.{nat_tests}
use Rattle.std.proofs.lemmas.List.{drop_all}
use Rattle.worktree_report.specs.SetupDepth.{parse_decimal_digit}
use Rattle.worktree_report.specs.Words.{parse_digits_behind_number, number_if_within_file_count_limit}

same : {n m : ℕ} → Some n ≡ Some m → n ≡ m
same e = cc

grows_by : (n : ℕ) (m : ℕ) (digit : Option ℕ) (rest : ℕ → Option ℕ) → ((k : ℕ) → rest k ≡ Some m → k ≤ m)
    → option_and_then (λ (d : ℕ). rest (10 * n + d)) digit ≡ Some m → n ≤ m
grows_by n m None rest grows e = absurd cc
grows_by n m (Some d) rest grows e = omega (arith, grows (10 * n + d) e)

-- a number grows with more digits
grows : (n : ℕ) (bytes : List ℕ) (m : ℕ) → parse_digits_behind_number n bytes ≡ Some m → n ≤ m
unfolding parse_digits_behind_number
grows n [] m e = omega (arith, same e)
grows n (b ∷ bytes) m e = grows_by n m (parse_decimal_digit b) (λ (k : ℕ). parse_digits_behind_number k bytes) (λ k. grows k bytes m) e

none_of : (m : ℕ) → 100000 < m → number_if_within_file_count_limit m ≡ None
none_of m great = grind (arith, nat_tests)

some_of : (m : ℕ) → m ≤ 100000 → number_if_within_file_count_limit m ≡ Some m
some_of m few = grind (arith, nat_tests)

too_many_of : (n : ℕ) (r : Option ℕ) → ((m : ℕ) → r ≡ Some m → n ≤ m) → 100000 < n → option_and_then number_if_within_file_count_limit r ≡ None
too_many_of n None grows great = refl
too_many_of n (Some m) grows great = none_of m (omega (arith, grows m refl, great))

-- so one that is too great stays so
too_many : (n : ℕ) (bytes : List ℕ) → 100000 < n → option_and_then number_if_within_file_count_limit (parse_digits_behind_number n bytes) ≡ None
too_many n bytes great = too_many_of n (parse_digits_behind_number n bytes) (λ m. grows n bytes m) great

at_end : (n : ℕ) (digits : List ℕ) → digits ≡ [] → parse_digits_behind_number n digits ≡ Some n
unfolding parse_digits_behind_number
at_end n digits past = rw past refl

by_digit : (n : ℕ) (b : ℕ) (bytes : List ℕ) → parse_digits_behind_number n (b ∷ bytes) ≡ option_and_then (λ (d : ℕ). parse_digits_behind_number (10 * n + d) bytes) (parse_decimal_digit b)
unfolding parse_digits_behind_number
by_digit n b bytes = refl

-- a number, where so many digits are read and are not too many
module _ (digits : List ℕ) (n i : ℕ) (rest : parse_digits_behind_number n (drop i digits) ≡ parse_digits_behind_number 0 digits) where
  step : i < length digits → parse_digits_behind_number 0 digits ≡ option_and_then (λ (d : ℕ). parse_digits_behind_number (10 * n + d) (drop (suc i) digits)) (parse_decimal_digit (get_or digits i 0))
  step within = sym rest ∙ ap (parse_digits_behind_number n) (drop-cons digits i 0 within) ∙ by_digit n (get_or digits i 0) (drop (suc i) digits)

  pub no_digit : i < length digits → parse_decimal_digit (get_or digits i 0) ≡ None → None ≡ option_and_then number_if_within_file_count_limit (parse_digits_behind_number 0 digits)
  no_digit within none = sym (ap (option_and_then number_if_within_file_count_limit) (step within ∙ ap (option_and_then (λ (d : ℕ). parse_digits_behind_number (10 * n + d) (drop (suc i) digits))) none))

  pub one_more : (d : ℕ) → i < length digits → parse_decimal_digit (get_or digits i 0) ≡ Some d → parse_digits_behind_number (10 * n + d) (drop (i + 1) digits) ≡ parse_digits_behind_number 0 digits
  one_more d within some = rw add-one (sym (step within ∙ ap (option_and_then (λ (d : ℕ). parse_digits_behind_number (10 * n + d) (drop (suc i) digits))) some))

  pub past_limit : (d : ℕ) → i < length digits → parse_decimal_digit (get_or digits i 0) ≡ Some d → 100000 < 10 * n + d → None ≡ option_and_then number_if_within_file_count_limit (parse_digits_behind_number 0 digits)
  past_limit d within some great = sym (too_many (10 * n + d) (drop (i + 1) digits) great) ∙ ap (option_and_then number_if_within_file_count_limit) (one_more d within some)

  pub all_read : length digits ≤ i → n ≤ 100000 → Some n ≡ option_and_then number_if_within_file_count_limit (parse_digits_behind_number 0 digits)
  all_read past few = sym (ap (option_and_then number_if_within_file_count_limit) (sym rest ∙ at_end n (drop i digits) (drop_all i digits past)) ∙ some_of n few)
