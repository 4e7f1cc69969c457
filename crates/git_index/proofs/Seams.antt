-- Where two lists are joined.
use Rattle.std.proofs.Common.{◌≡◌, refl, sym, ap, ◌∙◌, arith, ℕ, zero, suc, ◌+◌, ◌≤◌, ◌<◌, not, cond, nat_lt, lt-ltb, Bool, true, false, ◌||◌, List, [], ◌∷◌, ◌++◌, length, take, drop, replicate, Some, None, option_map, position, length-append, le-leb, if◌then◌else◌}
use Rattle.std.proofs.Math.Seq.{drop-append_seam, take-append_seam, drop-append-add}
use Rattle.std.specs.List.{list_any, list_all, position_or_len}
use Rattle.gitbase_core.specs.Text.{is_nul}
use Rattle.git_index.specs.Parts.{split_first_bytes, split_around_byte_at, text}

pub take_exact : (n : ℕ) (xs ys : List ℕ) → length xs ≡ n → take n (xs ++ ys) ≡ xs
take_exact n xs ys h = ap (λ k. take k (xs ++ ys)) (sym h) ∙ take-append_seam xs ys

pub drop_exact : (n : ℕ) (xs ys : List ℕ) → length xs ≡ n → drop n (xs ++ ys) ≡ ys
drop_exact n xs ys h = ap (λ k. drop k (xs ++ ys)) (sym h) ∙ drop-append_seam xs ys

pub front_exact : (n : ℕ) (xs ys : List ℕ) → length xs ≡ n → split_first_bytes n (xs ++ ys) ≡ Some (record { part = xs; rest = ys })
front_exact n xs ys h =
    let fits : n ≤ length (xs ++ ys) = omega (arith, h, length-append xs ys) in
    ap (λ b. if b then Some (record { part = take n (xs ++ ys); rest = drop n (xs ++ ys) }) else None) (le-leb _ _ fits)
    ∙ ap (λ (p : List ℕ). Some (record { part = p; rest = drop n (xs ++ ys) })) (take_exact n xs ys h)
    ∙ ap (λ (r : List ℕ). Some (record { part = xs; rest = r })) (drop_exact n xs ys h)

-- the first NUL behind bytes that are none
nul_place : (xs ys : List ℕ) → list_any is_nul xs ≡ false → position_or_len is_nul (xs ++ 0 ∷ ys) ≡ length xs
nul_place [] ys h = refl
nul_place (x ∷ xs) ys h = go (is_nul x) refl h (λ r. nul_place xs ys r) where
  go : (b : Bool) → is_nul x ≡ b → (b || list_any is_nul xs) ≡ false → (list_any is_nul xs ≡ false → position_or_len is_nul (xs ++ 0 ∷ ys) ≡ length xs) → cond (not (is_nul x)) (1 + position_or_len is_nul (xs ++ 0 ∷ ys)) 0 ≡ length (x ∷ xs)
  go true e h again = absurd (cc)
  go false e h again =
      let rest : position_or_len is_nul (xs ++ 0 ∷ ys) ≡ length xs = again h in
      ap (λ b. cond {A = ℕ} (not b) (1 + position_or_len is_nul (xs ++ 0 ∷ ys)) 0) e ∙ omega (arith, rest)

pub first_nul : (xs ys : List ℕ) → list_any is_nul xs ≡ false → position is_nul (xs ++ 0 ∷ ys) ≡ Some (length xs)
first_nul xs ys h =
    let fits : length xs < length (xs ++ 0 ∷ ys) = omega (arith, length-append xs (0 ∷ ys)) in
    ap (λ n. cond (nat_lt n (length (xs ++ 0 ∷ ys))) (Some n) None) (nul_place xs ys h)
    ∙ ap (λ b. cond b (Some (length xs)) None) (lt-ltb _ _ fits)

-- a text that a NUL ends
pub text_exact : (xs ys : List ℕ) → list_any is_nul xs ≡ false → text (xs ++ 0 ∷ ys) ≡ Some (record { part = xs; rest = ys })
text_exact xs ys h =
    let behind : drop (length xs + 1) (xs ++ 0 ∷ ys) ≡ ys = drop-append-add xs (0 ∷ ys) 1 in
    ap (option_map (split_around_byte_at (xs ++ 0 ∷ ys))) (first_nul xs ys h)
    ∙ ap (λ (p : List ℕ). Some (record { part = p; rest = drop (length xs + 1) (xs ++ 0 ∷ ys) })) (take-append_seam xs (0 ∷ ys))
    ∙ ap (λ (r : List ℕ). Some (record { part = xs; rest = r })) behind

pub all_nuls : (n : ℕ) → list_all is_nul (replicate n 0) ≡ true
all_nuls zero = refl
all_nuls (suc n) = all_nuls n

-- no NUL is behind the first bytes of a list without one
pub no_nul_behind : (k : ℕ) (xs : List ℕ) → list_any is_nul xs ≡ false → list_any is_nul (drop k xs) ≡ false
no_nul_behind zero xs h = h
no_nul_behind (suc k) [] h = refl
no_nul_behind (suc k) (x ∷ xs) h = go (is_nul x) h (λ r. no_nul_behind k xs r) where
  go : (b : Bool) → (b || list_any is_nul xs) ≡ false → (list_any is_nul xs ≡ false → list_any is_nul (drop k xs) ≡ false) → list_any is_nul (drop k xs) ≡ false
  go true e again = absurd (cc)
  go false e again = again e
