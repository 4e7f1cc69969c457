-- Reading between quotes goes on behind what is read.
use Rattle.std.proofs.Common.{◌≡◌, ◌∙◌, ◌≤◌, ◌-◌, ◌==◌, ℕ, List, [], ◌∷◌, ◌++◌, zero, suc, false, Option, Some, None, ap, arith, drop, get_or, refl, sym}
use Rattle.std.specs.Prelude.{option_map, option_and_then}
use Rattle.std.proofs.lemmas.Bool.{cond-false, ne_eqb}
use Rattle.std.proofs.lemmas.List.{append_assoc}
use Rattle.check_ignore.specs.Unquoted.{decode_first_byte, unquote_c_style_after_opening_quote}
use Rattle.check_ignore.specs.declared.quotes.Meant.{Meant}

-- what is read, behind a text that stands before it
abbrev pub behind : List ℕ → Option (List ℕ) → Option (List ℕ)
behind text read = option_map (λ (more : List ℕ). text ++ more) read

-- what is skipped is dropped
skips : (n : ℕ) (bytes : List ℕ) → unquote_c_style_after_opening_quote n bytes ≡ unquote_c_style_after_opening_quote 0 (drop n bytes)
skips zero [] = refl
skips zero (b ∷ bytes) = refl
skips (suc n) [] = refl
skips (suc n) (b ∷ bytes) = skips n bytes

-- a byte more at the end of what stands before it
pushed : (text : List ℕ) (b : ℕ) (read : Option (List ℕ)) → behind (text ++ b ∷ []) read ≡ behind text (option_map (λ (more : List ℕ). b ∷ more) read)
pushed text b None = refl
pushed text b (Some more) = ap Some (append_assoc text (b ∷ []) more)

-- what follows a byte that is meant
abbrev go_on : List ℕ → Meant → Option (List ℕ)
go_on bytes m = option_map (λ (more : List ℕ). m.byte ∷ more) (unquote_c_style_after_opening_quote (m.length - 1) bytes)

opens : (b : ℕ) (bytes : List ℕ) (m : Meant) → (b == 34) ≡ false → decode_first_byte (b ∷ bytes) ≡ Some m → unquote_c_style_after_opening_quote 0 (b ∷ bytes) ≡ go_on bytes m
opens b bytes m stands is = cond-false (b == 34) _ _ stands ∙ ap (option_and_then (go_on bytes)) is

drop_past : (n b : ℕ) (bytes : List ℕ) → 1 ≤ n → drop n (b ∷ bytes) ≡ drop (n - 1) bytes
drop_past zero b bytes some = absurd (omega (arith, some))
drop_past (suc n) b bytes some =
    let e : n ≡ suc n - 1 = omega arith in
    ap (λ (k : ℕ). drop k bytes) e

pub one_more : (text rest : List ℕ) (m : Meant) → (get_or rest 0 0 ≡ 34 → ⊥) → decode_first_byte rest ≡ Some m → 1 ≤ m.length
    → behind (text ++ m.byte ∷ []) (unquote_c_style_after_opening_quote 0 (drop m.length rest)) ≡ behind text (unquote_c_style_after_opening_quote 0 rest)
one_more text [] m other is some = absurd cc
one_more text (b ∷ bytes) m other is some =
    ap (λ (left : List ℕ). behind (text ++ m.byte ∷ []) (unquote_c_style_after_opening_quote 0 left)) (drop_past m.length b bytes some)
    ∙ ap (behind (text ++ m.byte ∷ [])) (sym (skips (m.length - 1) bytes))
    ∙ pushed text m.byte (unquote_c_style_after_opening_quote (m.length - 1) bytes)
    ∙ ap (behind text) (sym (opens b bytes m (ne_eqb b 34 other) is))
