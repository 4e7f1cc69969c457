-- Numbers of so many bytes, and the bytes that they are written as.
use Rattle.std.proofs.Common.{◌≡◌, refl, sym, ap, ◌∙◌, subst, arith, ℕ, zero, suc, ◌+◌, ◌*◌, ◌/◌, ◌%◌, ◌^◌, ◌≤◌, ◌<◌, List, [], ◌∷◌, ◌++◌, length, take, drop, get_or, get_or-drop, length-drop, length-take-le, lit<}
use Rattle.byteorder.specs.Endian.{big_number, big_bytes}
use Rattle.byteorder.specs.Numbers.{big_from-take, big_from-lt}
use Rattle.git_index.proofs.Seams.{drop_exact}

-- bytes
pub record AreBytes (xs : List ℕ) : Type 0 where
  pub at : (i : ℕ) → get_or xs i 0 < 256

pub bytes_behind : (n : ℕ) (xs : List ℕ) → AreBytes xs → AreBytes (drop n xs)
bytes_behind n xs ok = record { at = λ i. subst (λ (k : ℕ). k < 256) (sym (get_or-drop n xs i 0)) (ok.at (n + i)) }

-- numbers of bytes are written as these bytes
four : (a b c d a1 b1 c1 d1 : ℕ) → a ≡ a1 → b ≡ b1 → c ≡ c1 → d ≡ d1 → (◌≡◌ {A = List ℕ} (a ∷ b ∷ c ∷ d ∷ []) (a1 ∷ b1 ∷ c1 ∷ d1 ∷ []))
four a b c d a1 b1 c1 d1 ea eb ec ed =
    ap (λ x. x ∷ b ∷ c ∷ d ∷ []) ea ∙ ap (λ x. a1 ∷ x ∷ c ∷ d ∷ []) eb ∙ ap (λ x. a1 ∷ b1 ∷ x ∷ d ∷ []) ec ∙ ap (λ x. a1 ∷ b1 ∷ c1 ∷ x ∷ []) ed

four_digits : (a b c d : ℕ) → a < 256 → b < 256 → c < 256 → d < 256 → big_bytes 4 (big_number 4 (a ∷ b ∷ c ∷ d ∷ [])) ≡ a ∷ b ∷ c ∷ d ∷ []
four_digits a b c d ha hb hc hd =
    let n = a * 16777216 + (b * 65536 + (c * 256 + (d * 1 + 0))) in
    let ea : n / 16777216 % 256 ≡ a = omega (arith, ha, hb, hc, hd) in
    let eb : n / 65536 % 256 ≡ b = omega (arith, ha, hb, hc, hd) in
    let ec : n / 256 % 256 ≡ c = omega (arith, ha, hb, hc, hd) in
    let ed : n % 256 ≡ d = omega (arith, ha, hb, hc, hd) in
    four (n / 16777216 % 256) (n / 65536 % 256) (n / 256 % 256) (n % 256) a b c d ea eb ec ed

two_digits : (a b : ℕ) → a < 256 → b < 256 → big_bytes 2 (big_number 2 (a ∷ b ∷ [])) ≡ a ∷ b ∷ []
two_digits a b ha hb =
    let n = a * 256 + (b * 1 + 0) in
    let ea : n / 256 % 256 ≡ a = omega (arith, ha, hb) in
    let eb : n % 256 ≡ b = omega (arith, ha, hb) in
    ap (λ x. x ∷ (n % 256) ∷ []) ea ∙ ap (λ x. a ∷ x ∷ []) eb

pub four_back : (xs : List ℕ) → length xs ≡ 4 → AreBytes xs → big_bytes 4 (big_number 4 xs) ≡ xs
four_back [] h ok = absurd (omega (arith, h))
four_back (a ∷ []) h ok = absurd (omega (arith, h))
four_back (a ∷ b ∷ []) h ok = absurd (omega (arith, h))
four_back (a ∷ b ∷ c ∷ []) h ok = absurd (omega (arith, h))
four_back (a ∷ b ∷ c ∷ d ∷ []) h ok = four_digits a b c d (ok.at 0) (ok.at 1) (ok.at 2) (ok.at 3)
four_back (a ∷ b ∷ c ∷ d ∷ e ∷ xs) h ok = absurd (omega (arith, h))

pub two_back : (xs : List ℕ) → length xs ≡ 2 → AreBytes xs → big_bytes 2 (big_number 2 xs) ≡ xs
two_back [] h ok = absurd (omega (arith, h))
two_back (a ∷ []) h ok = absurd (omega (arith, h))
two_back (a ∷ b ∷ []) h ok = two_digits a b (ok.at 0) (ok.at 1)
two_back (a ∷ b ∷ c ∷ xs) h ok = absurd (omega (arith, h))

-- a front of bytes is bytes
pub bytes_front : (n : ℕ) (xs : List ℕ) → AreBytes xs → AreBytes (take n xs)
bytes_front n xs ok = record { at = below n xs ok.at } where
  below : (n : ℕ) (xs : List ℕ) → ((i : ℕ) → get_or xs i 0 < 256) → (i : ℕ) → get_or (take n xs) i 0 < 256
  below zero xs h i = lit< tt
  below (suc n) [] h i = lit< tt
  below (suc n) (x ∷ xs) h zero = h 0
  below (suc n) (x ∷ xs) h (suc i) = below n xs (λ j. h (suc j)) i

pub bytes_tail : (xs ys : List ℕ) → AreBytes (xs ++ ys) → AreBytes ys
bytes_tail xs ys ok = subst AreBytes (drop_exact (length xs) xs ys refl) (bytes_behind (length xs) (xs ++ ys) ok)

pub number_small : (n : ℕ) (xs : List ℕ) → AreBytes xs → big_number n xs < 256 ^ n
number_small n xs ok = big_from-lt 0 n xs ok.at

-- the number of four bytes that stand behind others is written as these bytes
pub number_at : (k : ℕ) (xs : List ℕ) → k + 4 ≤ length xs → AreBytes xs → big_bytes 4 (big_number 4 (drop k xs)) ≡ take 4 (drop k xs)
number_at k xs fits ok =
    ap (big_bytes 4) (sym (big_from-take 0 4 4 (drop k xs) (omega arith)))
    ∙ four_back (take 4 (drop k xs)) (length-take-le 4 (drop k xs) (omega (arith, fits, length-drop k xs))) (bytes_front 4 (drop k xs) (bytes_behind k xs ok))
