-- The bits of the flags of an entry.
use Rattle.std.proofs.Common.{◌≡◌, refl, arith, ℕ, zero, suc, eqb-true, ◌+◌, ◌*◌, ◌/◌, ◌%◌, ◌==◌, ◌≤◌, ◌<◌, ◌^◌, Bool, true, false, eq-eqb, ne_eqb}
use Rattle.git_index.specs.Written.{worth_if_flag_set}
use Rattle.git_index.specs.Head.{is_assume_valid_set, is_extended_flag_set, stage_from_flags, path_length_from_flags}
use Rattle.git_index.specs.More.{has_only_known_bits}
use Rattle.git_index.proofs.Steps.{and_first, and_second}

pub record AreBits (a e : Bool) (s l f : ℕ) : Type 0 where
  pub assumed : is_assume_valid_set f ≡ a
  pub extended : is_extended_flag_set f ≡ e
  pub stage : stage_from_flags f ≡ s
  pub length : path_length_from_flags f ≡ l
  pub small : f < 256 ^ 2

pub bits : (a e : Bool) (s l : ℕ) → s < 4 → l ≤ 4095 → AreBits a e s l (worth_if_flag_set a 32768 + worth_if_flag_set e 16384 + s * 4096 + l)
bits true true s l hs hl = record { assumed = eq-eqb _ _ (omega (arith, hs, hl)); extended = eq-eqb _ _ (omega (arith, hs, hl)); stage = omega (arith, hs, hl); length = omega (arith, hs, hl); small = omega (arith, hs, hl) }
bits true false s l hs hl = record { assumed = eq-eqb _ _ (omega (arith, hs, hl)); extended = ne_eqb _ _ (omega (arith, hs, hl)); stage = omega (arith, hs, hl); length = omega (arith, hs, hl); small = omega (arith, hs, hl) }
bits false true s l hs hl = record { assumed = ne_eqb _ _ (omega (arith, hs, hl)); extended = eq-eqb _ _ (omega (arith, hs, hl)); stage = omega (arith, hs, hl); length = omega (arith, hs, hl); small = omega (arith, hs, hl) }
bits false false s l hs hl = record { assumed = ne_eqb _ _ (omega (arith, hs, hl)); extended = ne_eqb _ _ (omega (arith, hs, hl)); stage = omega (arith, hs, hl); length = omega (arith, hs, hl); small = omega (arith, hs, hl) }

-- ---- the second pair

pub record AreSecond (skipped intent_to_add : Bool) (f : ℕ) : Type 0 where
  pub is : has_only_known_bits f ≡ true
  pub skips : (f / 16384 % 2 == 1) ≡ skipped
  pub intends : (f / 8192 % 2 == 1) ≡ intent_to_add
  pub small : f < 256 ^ 2

pub second_bits : (skipped intent_to_add : Bool) → AreSecond skipped intent_to_add (worth_if_flag_set skipped 16384 + worth_if_flag_set intent_to_add 8192)
second_bits true true = record { is = refl; skips = refl; intends = refl; small = omega arith }
second_bits true false = record { is = refl; skips = refl; intends = refl; small = omega arith }
second_bits false true = record { is = refl; skips = refl; intends = refl; small = omega arith }
second_bits false false = record { is = refl; skips = refl; intends = refl; small = omega arith }

-- ---- back

-- a bit of a number, as the number that it is worth
bit_worth : (q worth : ℕ) → q < 2 → worth_if_flag_set (q == 1) worth ≡ q * worth
bit_worth zero worth h = omega arith
bit_worth (suc zero) worth h = omega arith
bit_worth (suc (suc q)) worth h = absurd (omega (arith, h))

pub flags_back : (f l : ℕ) → f < 65536 → l ≡ f % 4096 → worth_if_flag_set (is_assume_valid_set f) 32768 + worth_if_flag_set (is_extended_flag_set f) 16384 + stage_from_flags f * 4096 + l ≡ f
flags_back f l h same =
    let high = bit_worth (f / 32768 % 2) 32768 (omega arith) in
    let next = bit_worth (f / 16384 % 2) 16384 (omega arith) in
    omega (arith, h, same, high, next)

pub more_back : (f : ℕ) → f < 65536 → has_only_known_bits f ≡ true → worth_if_flag_set (f / 16384 % 2 == 1) 16384 + worth_if_flag_set (f / 8192 % 2 == 1) 8192 ≡ f
more_back f h is =
    let top : f / 32768 ≡ 0 = eqb-true (f / 32768) 0 (and_first (f / 32768 == 0) (f % 8192 == 0) is) in
    let low : f % 8192 ≡ 0 = eqb-true (f % 8192) 0 (and_second (f / 32768 == 0) (f % 8192 == 0) is) in
    let high = bit_worth (f / 16384 % 2) 16384 (omega arith) in
    let next = bit_worth (f / 8192 % 2) 8192 (omega arith) in
    omega (arith, h, top, low, high, next)
