-- What is spelled is read back: a path that the report escapes is itself where lines end in NULs.
use Rattle.std.proofs.Common.{◌≡◌, ◌≤◌, ◌<◌, ℕ, zero, suc, ◌+◌, ◌-◌, ◌*◌, ◌/◌, ◌%◌, List, [], ◌∷◌, ◌++◌, Bool, true, false, nat_lt, nat_le, ◌==◌, length, drop, Option, Some, None, cond, refl, sym, ap, ◌∙◌, arith, append-nil, append_assoc}
use Rattle.std.proofs.lemmas.Bool.Decides.{nat_tests}
use Rattle.worktree_report.specs.Escapes.{hex_digit, needs_escape, hex_escape_of_byte, byte_escaped_if_needed, path_escaped, value_of_hex_digit, byte_from_two_hex_digits}
use Rattle.command_line.specs.Unspelled.{byte_of_backslash_hex_escape, decoded_byte_or_itself_with_rest, decoded_bytes_after_skipping, bytes_with_hex_escapes_decoded}

-- ---- one step of reading

pub spelled-at : (b c : ℕ) (bytes : List ℕ) → byte_of_backslash_hex_escape b bytes ≡ Some c → bytes_with_hex_escapes_decoded (b ∷ bytes) ≡ c ∷ decoded_bytes_after_skipping 2 bytes
unfolding decoded_bytes_after_skipping
spelled-at b c bytes e = ap (λ (s : Option ℕ). decoded_byte_or_itself_with_rest s b (decoded_bytes_after_skipping 2 bytes) (decoded_bytes_after_skipping 0 bytes)) e

pub itself-at : (b : ℕ) (bytes : List ℕ) → byte_of_backslash_hex_escape b bytes ≡ None → bytes_with_hex_escapes_decoded (b ∷ bytes) ≡ b ∷ bytes_with_hex_escapes_decoded bytes
unfolding decoded_bytes_after_skipping
itself-at b bytes e = ap (λ (s : Option ℕ). decoded_byte_or_itself_with_rest s b (decoded_bytes_after_skipping 2 bytes) (decoded_bytes_after_skipping 0 bytes)) e

pub unspelled_from-skip : (n : ℕ) (bytes : List ℕ) → decoded_bytes_after_skipping n bytes ≡ bytes_with_hex_escapes_decoded (drop n bytes)
unfolding decoded_bytes_after_skipping
unspelled_from-skip zero [] = refl
unspelled_from-skip (suc n) [] = refl
unspelled_from-skip zero (b ∷ bytes) = refl
unspelled_from-skip (suc n) (b ∷ bytes) = unspelled_from-skip n bytes

pub unspelled-nil : bytes_with_hex_escapes_decoded [] ≡ []
unfolding decoded_bytes_after_skipping
unspelled-nil = refl

-- ---- two digits are read back

digit-low : (c n : ℕ) → c ≡ 48 + n → n < 10 → value_of_hex_digit c ≡ Some n
digit-low c n is below =
    let a : nat_le 48 c ≡ true = grind (arith, nat_tests) in
    let b : nat_le c 57 ≡ true = grind (arith, nat_tests) in
    let d : c - 48 ≡ n = omega arith in
    rw (a, b, d) refl

digit-high : (c n : ℕ) → c ≡ 87 + n → 10 ≤ n → n < 16 → value_of_hex_digit c ≡ Some n
digit-high c n is above below =
    let a : nat_le 48 c ≡ true = grind (arith, nat_tests) in
    let b : nat_le c 57 ≡ false = grind (arith, nat_tests) in
    let d : nat_le 97 c ≡ true = grind (arith, nat_tests) in
    let e : nat_le c 102 ≡ true = grind (arith, nat_tests) in
    let f : c - 87 ≡ n = omega arith in
    rw (a, b, d, e, f) refl

digit-back : (n : ℕ) → n < 16 → value_of_hex_digit (hex_digit n) ≡ Some n
digit-back n below = go (nat_lt n 10) refl
  where
    go : (is : Bool) → nat_lt n 10 ≡ is → value_of_hex_digit (cond is (48 + n) (87 + n)) ≡ Some n
    go true e = digit-low (48 + n) n refl (grind (arith, nat_tests))
    go false e = digit-high (87 + n) n refl (grind (arith, nat_tests)) below

hex-two : (x y h l : ℕ) (rest : List ℕ) → value_of_hex_digit x ≡ Some h → value_of_hex_digit y ≡ Some l → byte_from_two_hex_digits (x ∷ y ∷ rest) ≡ Some (16 * h + l)
hex-two x y h l rest high low = rw (high, low) refl

hex-back : (b : ℕ) (rest : List ℕ) → b < 128 → byte_from_two_hex_digits (hex_digit (b / 16) ∷ hex_digit (b % 16) ∷ rest) ≡ Some b
hex-back b rest below =
    hex-two (hex_digit (b / 16)) (hex_digit (b % 16)) (b / 16) (b % 16) rest (digit-back (b / 16) (omega arith)) (digit-back (b % 16) (omega arith))
    ∙ ap Some (omega arith)

-- ---- a byte, and a path

escaped-below : (b : ℕ) → needs_escape b ≡ true → b < 128
escaped-below b e = grind (arith, nat_tests)

plain-other : (b : ℕ) → needs_escape b ≡ false → (b == 92) ≡ false
plain-other b e = grind (arith, nat_tests)

plain-spelled : (b : ℕ) (bytes : List ℕ) → (b == 92) ≡ false → byte_of_backslash_hex_escape b bytes ≡ None
plain-spelled b bytes e = rw e refl

byte-back : (b : ℕ) (rest : List ℕ) → bytes_with_hex_escapes_decoded (byte_escaped_if_needed b ++ rest) ≡ b ∷ bytes_with_hex_escapes_decoded rest
byte-back b rest = go (needs_escape b) refl
  where
    go : (is : Bool) → needs_escape b ≡ is → bytes_with_hex_escapes_decoded (cond is (hex_escape_of_byte b) (b ∷ []) ++ rest) ≡ b ∷ bytes_with_hex_escapes_decoded rest
    go true e =
        spelled-at 92 b (hex_digit (b / 16) ∷ hex_digit (b % 16) ∷ rest) (hex-back b rest (escaped-below b e))
        ∙ ap (λ (more : List ℕ). b ∷ more) (unspelled_from-skip 2 (hex_digit (b / 16) ∷ hex_digit (b % 16) ∷ rest))
    go false e = itself-at b rest (plain-spelled b rest (plain-other b e))

-- what the report writes for a path is read back as the path
pub unspelled-escaped : (path : List ℕ) → bytes_with_hex_escapes_decoded (path_escaped path) ≡ path
unspelled-escaped [] = unspelled-nil
unspelled-escaped (b ∷ path) = byte-back b (path_escaped path) ∙ ap (λ (more : List ℕ). b ∷ more) (unspelled-escaped path)

-- ---- the loop that reads

pub step_spelled : (items rest whole new_items new_rest : List ℕ) (first byte : ℕ) (after : List ℕ)
    → rest ≡ first ∷ after → byte_of_backslash_hex_escape first after ≡ Some byte → new_items ≡ items ++ byte ∷ [] → new_rest ≡ drop 2 after
    → items ++ bytes_with_hex_escapes_decoded rest ≡ whole → new_items ++ bytes_with_hex_escapes_decoded new_rest ≡ whole
step_spelled items rest whole new_items new_rest first byte after split is pushed behind same =
    let read : bytes_with_hex_escapes_decoded rest ≡ byte ∷ bytes_with_hex_escapes_decoded (drop 2 after) =
    ap bytes_with_hex_escapes_decoded split ∙ spelled-at first byte after is ∙ ap (λ (more : List ℕ). byte ∷ more) (unspelled_from-skip 2 after) in
    rw (pushed, behind, append_assoc items (byte ∷ []) (bytes_with_hex_escapes_decoded (drop 2 after)), ← read) same

pub step_itself : (items rest whole new_items : List ℕ) (first : ℕ) (after : List ℕ)
    → rest ≡ first ∷ after → byte_of_backslash_hex_escape first after ≡ None → new_items ≡ items ++ first ∷ []
    → items ++ bytes_with_hex_escapes_decoded rest ≡ whole → new_items ++ bytes_with_hex_escapes_decoded after ≡ whole
step_itself items rest whole new_items first after split is pushed same =
    let read : bytes_with_hex_escapes_decoded rest ≡ first ∷ bytes_with_hex_escapes_decoded after = ap bytes_with_hex_escapes_decoded split ∙ itself-at first after is in
    rw (pushed, append_assoc items (first ∷ []) (bytes_with_hex_escapes_decoded after), ← read) same

pub step_done : (items rest whole : List ℕ) → length rest ≡ 0 → items ++ bytes_with_hex_escapes_decoded rest ≡ whole → items ≡ whole
step_done items [] whole none same = sym (append-nil items) ∙ ap (λ (more : List ℕ). items ++ more) (sym unspelled-nil) ∙ same
step_done items (b ∷ rest) whole none same = absurd (omega arith)
