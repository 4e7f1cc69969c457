-- The parts of an index file that are read are written.
use Rattle.std.proofs.Common.{◌≡◌, refl, sym, ap, ◌∙◌, subst, arith, ℕ, zero, suc, ◌+◌, ◌<◌, ◌≤◌, not, cond, nat_le, nat_lt, leb-true, ltb-true, eqb-true, Bool, true, false, ◌||◌, ◌==◌, List, [], ◌∷◌, ◌++◌, length, take, drop, replicate, length-take-le, take-append-drop, Some, None, position, if◌then◌else◌}
use Rattle.std.specs.List.{list_any, list_all, position_or_len}
use Rattle.gitbase_core.specs.declared.entry.Mode.{Mode}
use Rattle.gitbase_core.specs.Entry.{regular_file_mode, executable_file_mode, symlink_mode, gitlink_mode, sparse_directory_mode}
use Rattle.gitbase_core.specs.Text.{is_nul}
use Rattle.git_index.specs.Parts.{split_first_bytes, split_around_byte_at, text, PartAndRest}
use Rattle.git_index.specs.Head.{known_mode_of_bits, mode_with_bits}
use Rattle.git_index.proofs.Steps.{and_first, and_second, chosen, mapped, some_is}

pub record IsFront (n : ℕ) (bytes : List ℕ) (p : PartAndRest) : Type 0 where
  pub size : length p.part ≡ n
  pub whole : bytes ≡ p.part ++ p.rest
  pub part : p.part ≡ take n bytes
  pub rest : p.rest ≡ drop n bytes

pub from_front : (n : ℕ) (bytes : List ℕ) (p : PartAndRest) → split_first_bytes n bytes ≡ Some p → IsFront n bytes p
from_front n bytes p h =
    let found = chosen (nat_le n (length bytes)) (Some (record { part = take n bytes; rest = drop n bytes })) p h in
    let fits : n ≤ length bytes = leb-true n (length bytes) found.0 in
    let same : (◌≡◌ {A = PartAndRest} (record { part = take n bytes; rest = drop n bytes }) p) = some_is found.1 in
    let part : p.part ≡ take n bytes = sym (ap (λ (q : PartAndRest). q.part) same) in
    let rest : p.rest ≡ drop n bytes = sym (ap (λ (q : PartAndRest). q.rest) same) in
    record {
      size = ap length part ∙ length-take-le n bytes fits;
      whole = sym (take-append-drop n bytes) ∙ ap (λ x. x ++ drop n bytes) (sym part) ∙ ap (λ x. p.part ++ x) (sym rest);
      part = part;
      rest = rest;
    }

-- ---- a text that a NUL ends

pub record IsText (bytes : List ℕ) (p : PartAndRest) : Type 0 where
  pub whole : bytes ≡ p.part ++ 0 ∷ p.rest
  pub plain : list_any is_nul p.part ≡ false

record Splits (bytes : List ℕ) (at : ℕ) : Type 0 where
  whole : bytes ≡ take at bytes ++ 0 ∷ drop (suc at) bytes
  plain : list_any is_nul (take at bytes) ≡ false

splits : (bytes : List ℕ) (at : ℕ) → position_or_len is_nul bytes ≡ at → at < length bytes → Splits bytes at
splits [] at is h = absurd (omega (arith, h))
splits (b ∷ bytes) at is h = go (is_nul b) refl (λ h. splits bytes (position_or_len is_nul bytes) refl h) where
  go : (t : Bool) → is_nul b ≡ t → (position_or_len is_nul bytes < length bytes → Splits bytes (position_or_len is_nul bytes)) → Splits (b ∷ bytes) at
  go true e again =
      let none : 0 ≡ at = sym (ap (λ t. cond (not t) (1 + position_or_len is_nul bytes) 0) e) ∙ is in
      subst (Splits (b ∷ bytes)) none (record { whole = ap (λ x. x ∷ bytes) (eqb-true b 0 e); plain = refl })
  go false e again =
      let some : 1 + position_or_len is_nul bytes ≡ at = sym (ap (λ t. cond (not t) (1 + position_or_len is_nul bytes) 0) e) ∙ is in
      let next : suc (position_or_len is_nul bytes) ≡ at = omega (arith, some) in
      let rest = again (omega (arith, h, some)) in
      subst (Splits (b ∷ bytes)) next (record {
        whole = ap (λ (x : List ℕ). b ∷ x) rest.whole;
        plain = ap (λ t. t || list_any is_nul (take (position_or_len is_nul bytes) bytes)) e ∙ rest.plain;
      })

pub from_text : (bytes : List ℕ) (p : PartAndRest) → text bytes ≡ Some p → IsText bytes p
from_text bytes p h =
    let found = mapped (position is_nul bytes) (split_around_byte_at bytes) p h in
    let at = position_or_len is_nul bytes in
    let within = chosen (nat_lt at (length bytes)) (Some at) found.0 found.1 in
    let place : at ≡ found.0 = some_is within.1 in
    let split = splits bytes found.0 place (subst (λ (k : ℕ). k < length bytes) place (ltb-true at (length bytes) within.0)) in
    let part : p.part ≡ take found.0 bytes = sym (ap (λ (q : PartAndRest). q.part) found.2) in
    let one : found.0 + 1 ≡ suc found.0 = omega arith in
    let rest : p.rest ≡ drop (suc found.0) bytes = sym (ap (λ (q : PartAndRest). q.rest) found.2) ∙ ap (λ k. drop k bytes) one in
    record {
      whole = split.whole ∙ ap (λ x. x ++ 0 ∷ drop (suc found.0) bytes) (sym part) ∙ ap (λ x. p.part ++ 0 ∷ x) (sym rest);
      plain = ap (list_any is_nul) part ∙ split.plain;
    }

-- ---- NULs

pub nuls_back : (xs : List ℕ) → list_all is_nul xs ≡ true → xs ≡ replicate (length xs) 0
nuls_back [] h = refl
nuls_back (x ∷ xs) h =
    let first : x ≡ 0 = eqb-true x 0 (and_first (is_nul x) (list_all is_nul xs) h) in
    ap (λ y. y ∷ xs) first ∙ ap (λ (ys : List ℕ). 0 ∷ ys) (nuls_back xs (and_second (is_nul x) (list_all is_nul xs) h))

pub no_nul_front : (k : ℕ) (xs : List ℕ) → list_any is_nul xs ≡ false → list_any is_nul (take k xs) ≡ false
no_nul_front zero xs h = refl
no_nul_front (suc k) [] h = refl
no_nul_front (suc k) (x ∷ xs) h = go (is_nul x) h (λ r. no_nul_front k xs r) where
  go : (b : Bool) → (b || list_any is_nul xs) ≡ false → (list_any is_nul xs ≡ false → list_any is_nul (take k xs) ≡ false) → (b || list_any is_nul (take k xs)) ≡ false
  go true e again = absurd (cc)
  go false e again = again e

pub no_nul_joined : (xs ys : List ℕ) → list_any is_nul xs ≡ false → list_any is_nul ys ≡ false → list_any is_nul (xs ++ ys) ≡ false
no_nul_joined [] ys hx hy = hy
no_nul_joined (x ∷ xs) ys hx hy = go (is_nul x) hx (λ r. no_nul_joined xs ys r hy) where
  go : (b : Bool) → (b || list_any is_nul xs) ≡ false → (list_any is_nul xs ≡ false → list_any is_nul (xs ++ ys) ≡ false) → (b || list_any is_nul (xs ++ ys)) ≡ false
  go true e again = absurd (cc)
  go false e again = again e

-- ---- the mode

pub mode_back : (bits : ℕ) (m : Mode) → known_mode_of_bits bits ≡ Some m → m ≡ mode_with_bits bits
mode_back bits m h = one (bits == regular_file_mode) h where
  five : (b : Bool) → (if b then Some (mode_with_bits bits) else None) ≡ Some m → m ≡ mode_with_bits bits
  five true e = sym (some_is e)
  five false e = absurd (cc)

  four : (b : Bool) → (if b then Some (mode_with_bits bits) else (if bits == sparse_directory_mode then Some (mode_with_bits bits) else None)) ≡ Some m → m ≡ mode_with_bits bits
  four true e = sym (some_is e)
  four false e = five (bits == sparse_directory_mode) e

  three : (b : Bool) → (if b then Some (mode_with_bits bits) else (if bits == gitlink_mode then Some (mode_with_bits bits) else (if bits == sparse_directory_mode then Some (mode_with_bits bits) else None))) ≡ Some m → m ≡ mode_with_bits bits
  three true e = sym (some_is e)
  three false e = four (bits == gitlink_mode) e

  two : (b : Bool) → (if b then Some (mode_with_bits bits) else (if bits == symlink_mode then Some (mode_with_bits bits) else (if bits == gitlink_mode then Some (mode_with_bits bits) else (if bits == sparse_directory_mode then Some (mode_with_bits bits) else None)))) ≡ Some m → m ≡ mode_with_bits bits
  two true e = sym (some_is e)
  two false e = three (bits == symlink_mode) e

  one : (b : Bool) → (if b then Some (mode_with_bits bits) else (if bits == executable_file_mode then Some (mode_with_bits bits) else (if bits == symlink_mode then Some (mode_with_bits bits) else (if bits == gitlink_mode then Some (mode_with_bits bits) else (if bits == sparse_directory_mode then Some (mode_with_bits bits) else None))))) ≡ Some m → m ≡ mode_with_bits bits
  one true e = sym (some_is e)
  one false e = two (bits == executable_file_mode) e
