-- How a text is read that spells some bytes as hexadecimal digits.
use Rattle.std.proofs.Common.{◌≡◌, ◌≢◌, ◌≤◌, ℕ, zero, suc, List, [], ◌∷◌, ◌++◌, length, drop, true, false, ◌==◌, Some, None, option_map, refl, sym, ap, ◌∙◌, arith, append-nil}
use Rattle.std.proofs.lemmas.Bool.Decides.{nat_tests}
use Rattle.worktree_report.specs.Escapes.{byte_from_two_hex_digits, unescape_after_skipping, unescape_path}
use Rattle.worktree_report.specs.Spelled.{SpellsLeadingByte}

pub unescaped_from-skip : (n : ℕ) (bytes : List ℕ) → unescape_after_skipping n bytes ≡ unescape_path (drop n bytes)
unfolding unescape_after_skipping
unescaped_from-skip zero [] = refl
unescaped_from-skip (suc n) [] = refl
unescaped_from-skip zero (b ∷ bytes) = refl
unescaped_from-skip (suc n) (b ∷ bytes) = unescaped_from-skip n bytes

pub unescaped-nil : unescape_path [] ≡ Some []
unfolding unescape_after_skipping
unescaped-nil = refl

itself : (b : ℕ) (bytes : List ℕ) → (b == 92) ≡ false → unescape_path (b ∷ bytes) ≡ option_map (λ (more : List ℕ). b ∷ more) (unescape_path bytes)
unfolding unescape_after_skipping
itself b bytes other = rw other refl

-- a byte that is no backslash stands for itself
pub Spells-itself : (b : ℕ) (bytes : List ℕ) → b ≢ 92 → SpellsLeadingByte (record { byte = b; more = 0 }) b bytes
Spells-itself b bytes other = record { within = omega arith; means = itself b bytes (grind (arith, nat_tests)) }

hex : (b c : ℕ) (bytes : List ℕ) → (b == 92) ≡ true → byte_from_two_hex_digits bytes ≡ Some c → unescape_path (b ∷ bytes) ≡ option_map (λ (more : List ℕ). c ∷ more) (unescape_after_skipping 2 bytes)
unfolding unescape_after_skipping
hex b c bytes slash digits = rw (slash, digits) refl

two : (bytes : List ℕ) (c : ℕ) → byte_from_two_hex_digits bytes ≡ Some c → 2 ≤ length bytes
two [] c e = absurd (cc)
two (high ∷ []) c e = absurd (cc)
two (high ∷ low ∷ rest) c e = omega arith

-- a backslash and two digits stand for a byte
pub Spells-hex : (b c : ℕ) (bytes : List ℕ) → b ≡ 92 → byte_from_two_hex_digits bytes ≡ Some c → SpellsLeadingByte (record { byte = c; more = 2 }) b bytes
Spells-hex b c bytes slash digits =
    record {
      within = two bytes c digits;
      means = hex b c bytes (grind (arith, nat_tests)) digits ∙ ap (option_map (λ (more : List ℕ). c ∷ more)) (unescaped_from-skip 2 bytes);
    }

bad : (b : ℕ) (bytes : List ℕ) → (b == 92) ≡ true → byte_from_two_hex_digits bytes ≡ None → unescape_path (b ∷ bytes) ≡ None
unfolding unescape_after_skipping
bad b bytes slash digits = rw (slash, digits) refl

-- a backslash without them stands for nothing
pub unescaped-bad : (b : ℕ) (bytes : List ℕ) → b ≡ 92 → byte_from_two_hex_digits bytes ≡ None → unescape_path (b ∷ bytes) ≡ None
unescaped-bad b bytes slash digits = bad b bytes (grind (arith, nat_tests)) digits

-- where nothing is left, what was read is the whole
pub unescaped-read : (bytes rest text : List ℕ) → length rest ≡ 0 → option_map (λ (more : List ℕ). bytes ++ more) (unescape_path rest) ≡ unescape_path text → Some bytes ≡ unescape_path text
unescaped-read bytes [] text none same = ap Some (sym (append-nil bytes)) ∙ sym (ap (option_map (λ (more : List ℕ). bytes ++ more)) unescaped-nil) ∙ same
unescaped-read bytes (b ∷ rest) text none same = absurd (omega arith)
