-- Numbers of four bytes, one behind another.
use Rattle.std.proofs.Common.{◌≡◌, refl, sym, ap, ◌∙◌, arith, ℕ, zero, suc, ◌+◌, ◌*◌, ◌≤◌, ◌<◌, List, [], ◌∷◌, ◌++◌, length, take, drop, get_or, append_assoc, length-append, take-append-drop, drop-drop}
use Rattle.byteorder.specs.Endian.{big_number, big_bytes}
use Rattle.byteorder.specs.Numbers.{big_number-reads_back, length-bytes_high_first}
use Rattle.git_index.specs.Parts.{nth_big_endian_u32}
use Rattle.git_index.specs.Written.{AreFourByteNumbers, big_endian_bytes_of_words}
use Rattle.git_index.proofs.Numbers.{AreBytes, bytes_behind, number_at, number_small}
use Rattle.git_index.proofs.Seams.{drop_exact}

pub words_length : (ns : List ℕ) → length (big_endian_bytes_of_words ns) ≡ 4 * length ns
unfolding big_endian_bytes_of_words
words_length [] = refl
words_length (n ∷ ns) = omega (arith, length-append (big_bytes 4 n) (big_endian_bytes_of_words ns), length-bytes_high_first 4 n, words_length ns)

-- each number is read at its place
pub word_exact : (k : ℕ) (ns rest : List ℕ) → AreFourByteNumbers ns → k < length ns → nth_big_endian_u32 k (big_endian_bytes_of_words ns ++ rest) ≡ get_or ns k 0
unfolding big_endian_bytes_of_words
word_exact k [] rest ok h = absurd (omega (arith, h))
word_exact zero (n ∷ ns) rest ok h = ap (big_number 4) (append_assoc (big_bytes 4 n) (big_endian_bytes_of_words ns) rest) ∙ big_number-reads_back 4 n (big_endian_bytes_of_words ns ++ rest) ok.0
word_exact (suc k) (n ∷ ns) rest ok h =
    let all = big_bytes 4 n ++ (big_endian_bytes_of_words ns ++ rest) in
    let places : 4 * suc k ≡ 4 + 4 * k = omega arith in
    let behind : drop (4 * suc k) (big_endian_bytes_of_words (n ∷ ns) ++ rest) ≡ drop (4 * k) (big_endian_bytes_of_words ns ++ rest) =
    ap (drop (4 * suc k)) (append_assoc (big_bytes 4 n) (big_endian_bytes_of_words ns) rest) ∙ ap (λ j. drop j all) places ∙ sym (drop-drop (4 * k) 4 all)
    ∙ ap (drop (4 * k)) (drop_exact 4 (big_bytes 4 n) (big_endian_bytes_of_words ns ++ rest) (length-bytes_high_first 4 n)) in
    ap (big_number 4) behind ∙ word_exact k ns rest ok.1 (omega (arith, h))

-- ---- back

-- so many numbers from a place on
unfoldable pub words_at : ℕ → ℕ → List ℕ → List ℕ
words_at zero k bytes = []
words_at (suc n) k bytes = nth_big_endian_u32 k bytes ∷ words_at n (k + 1) bytes

pub words_small : (n k : ℕ) (bytes : List ℕ) → AreBytes bytes → AreFourByteNumbers (words_at n k bytes)
unfolding words_at
words_small zero k bytes ok = tt
words_small (suc n) k bytes ok = (number_small 4 (drop (4 * k) bytes) (bytes_behind (4 * k) bytes ok), words_small n (k + 1) bytes ok)

pub words_back : (n k : ℕ) (bytes : List ℕ) → 4 * (k + n) ≤ length bytes → AreBytes bytes → drop (4 * k) bytes ≡ big_endian_bytes_of_words (words_at n k bytes) ++ drop (4 * (k + n)) bytes
unfolding words_at big_endian_bytes_of_words
words_back zero k bytes h ok =
    let same : 4 * k ≡ 4 * (k + 0) = omega arith in
    ap (λ j. drop j bytes) same
words_back (suc n) k bytes h ok =
    let here = drop (4 * k) bytes in
    let next : 4 * k + 4 ≡ 4 * (k + 1) = omega arith in
    let last : 4 * (k + 1 + n) ≡ 4 * (k + suc n) = omega arith in
    let rest = big_endian_bytes_of_words (words_at n (k + 1) bytes) in
    let first : big_bytes 4 (nth_big_endian_u32 k bytes) ≡ take 4 here = number_at (4 * k) bytes (omega (arith, h)) ok in
    let behind : drop 4 here ≡ rest ++ drop (4 * (k + suc n)) bytes =
    drop-drop 4 (4 * k) bytes ∙ ap (λ j. drop j bytes) next ∙ words_back n (k + 1) bytes (omega (arith, h)) ok ∙ ap (λ j. rest ++ drop j bytes) last in
    sym (take-append-drop 4 here) ∙ ap (λ x. x ++ drop 4 here) (sym first) ∙ ap (λ x. big_bytes 4 (nth_big_endian_u32 k bytes) ++ x) behind
    ∙ sym (append_assoc (big_bytes 4 (nth_big_endian_u32 k bytes)) rest (drop (4 * (k + suc n)) bytes))
