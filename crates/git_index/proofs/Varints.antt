-- Numbers of as many bytes as they need: what is written is read, and what is read is written.
use Rattle.std.proofs.Common.{◌≡◌, refl, sym, ap, ◌∙◌, subst, arith, ℕ, zero, suc, ◌+◌, ◌*◌, ◌/◌, ◌%◌, ◌^◌, ◌≤◌, ◌<◌, nat_lt, lt-ltb, le-ltb, ltb-true, ltb-false, Bool, true, false, List, [], ◌∷◌, ◌++◌, Some, None, append_assoc, if◌then◌else◌}
use Rattle.git_index.specs.Varint.{VarintAndRest, varint_leading_bytes, read_varint, read_varint_after_part, varint_bytes_of_number, varint_with_byte_added}
use Rattle.git_index.proofs.Numbers.{AreBytes, bytes_behind}
use Rattle.git_index.proofs.Steps.{some_is}

-- what so many bytes have room for
abbrev room : ℕ → ℕ
room zero = 1
room (suc k) = 128 * room k

none_left : (k : ℕ) → varint_leading_bytes k zero ≡ []
unfolding varint_leading_bytes
none_left zero = refl
none_left (suc k) = refl

less : (k m : ℕ) → suc m < room (suc k) → m / 128 < room k
less k m h = omega (arith, h)

-- more room makes no difference
enough : (j k m : ℕ) → m < room j → m < room k → varint_leading_bytes j m ≡ varint_leading_bytes k m
unfolding varint_leading_bytes
enough j k zero hj hk = none_left j ∙ sym (none_left k)
enough zero k (suc m) hj hk = absurd (omega (arith, hj))
enough (suc j) zero (suc m) hj hk = absurd (omega (arith, hk))
enough (suc j) (suc k) (suc m) hj hk = ap (λ x. x ++ (128 + m % 128) ∷ []) (enough j k (m / 128) (less j m hj) (less k m hk))

-- ---- what is written is read

-- one byte that is not the last
past_byte : (m b : ℕ) (ys : List ℕ) (so_far : ℕ) → varint_with_byte_added so_far b ≡ m → m < 2 ^ 32 → 128 ≤ b → read_varint_after_part so_far (b ∷ ys) ≡ read_varint_after_part (suc m) ys
past_byte m b ys so_far is small high =
    let one : m + 1 ≡ suc m = omega arith in
    ap (λ v. if nat_lt v (2 ^ 32) then (if nat_lt b 128 then Some (record { value = v; rest = ys }) else read_varint_after_part (v + 1) ys) else None) is
    ∙ ap (λ t. if t then (if nat_lt b 128 then Some (record { value = m; rest = ys }) else read_varint_after_part (m + 1) ys) else None) (lt-ltb _ _ small)
    ∙ ap (λ t. if t then Some (record { value = m; rest = ys }) else read_varint_after_part (m + 1) ys) (le-ltb _ _ high)
    ∙ ap (λ v. read_varint_after_part v ys) one

-- the last byte
last_byte : (m b : ℕ) (ys : List ℕ) (so_far : ℕ) → varint_with_byte_added so_far b ≡ m → m < 2 ^ 32 → b < 128 → read_varint_after_part so_far (b ∷ ys) ≡ Some (record { value = m; rest = ys })
last_byte m b ys so_far is small low =
    ap (λ v. if nat_lt v (2 ^ 32) then (if nat_lt b 128 then Some (record { value = v; rest = ys }) else read_varint_after_part (v + 1) ys) else None) is
    ∙ ap (λ t. if t then (if nat_lt b 128 then Some (record { value = m; rest = ys }) else read_varint_after_part (m + 1) ys) else None) (lt-ltb _ _ small)
    ∙ ap (λ t. if t then Some (record { value = m; rest = ys }) else read_varint_after_part (m + 1) ys) (lt-ltb _ _ low)

leading_exact : (k m : ℕ) (ys : List ℕ) → m < room k → m ≤ 2 ^ 32 → read_varint_after_part 0 (varint_leading_bytes k m ++ ys) ≡ read_varint_after_part m ys
unfolding varint_leading_bytes
leading_exact k zero ys h small = ap (λ x. read_varint_after_part 0 (x ++ ys)) (none_left k)
leading_exact zero (suc m) ys h small = absurd (omega (arith, h))
leading_exact (suc k) (suc m) ys h small =
    let b = 128 + m % 128 in
    let is : varint_with_byte_added (m / 128) b ≡ m = omega arith in
    ap (read_varint_after_part 0) (append_assoc (varint_leading_bytes k (m / 128)) (b ∷ []) ys)
    ∙ leading_exact k (m / 128) (b ∷ ys) (less k m h) (omega (arith, small))
    ∙ past_byte m b ys (m / 128) is (omega (arith, small)) (omega arith)

pub number_exact : (n : ℕ) (ys : List ℕ) → n < 2 ^ 32 → read_varint (varint_bytes_of_number n ++ ys) ≡ Some (record { value = n; rest = ys })
number_exact n ys small =
    let b = n % 128 in
    let is : varint_with_byte_added (n / 128) b ≡ n = omega arith in
    ap (read_varint_after_part 0) (append_assoc (varint_leading_bytes 5 (n / 128)) (b ∷ []) ys)
    ∙ leading_exact 5 (n / 128) (b ∷ ys) (omega (arith, small)) (omega (arith, small))
    ∙ last_byte n b ys (n / 128) is small (omega arith)

-- ---- what is read is written

pub record IsNumber (so_far : ℕ) (bytes : List ℕ) (n : VarintAndRest) : Type 0 where
  pub text : List ℕ
  pub whole : bytes ≡ text ++ n.rest
  pub small : n.value < 2 ^ 32
  pub is : varint_leading_bytes 5 so_far ++ text ≡ varint_bytes_of_number n.value

-- a byte that is not the last one leads
leads : (so_far b : ℕ) → 128 ≤ b → b < 256 → varint_with_byte_added so_far b < 2 ^ 32 → varint_leading_bytes 5 (varint_with_byte_added so_far b + 1) ≡ varint_leading_bytes 5 so_far ++ b ∷ []
unfolding varint_leading_bytes
leads so_far b high byte small =
    let v = varint_with_byte_added so_far b in
    let one : v + 1 ≡ suc v = omega arith in
    let over : v / 128 ≡ so_far = omega arith in
    let low : 128 + v % 128 ≡ b = omega (arith, high, byte) in
    ap (varint_leading_bytes 5) one
    ∙ ap (λ m. varint_leading_bytes 4 m ++ (128 + v % 128) ∷ []) over
    ∙ ap (λ d. varint_leading_bytes 4 so_far ++ d ∷ []) low
    ∙ ap (λ x. x ++ b ∷ []) (enough 4 5 so_far (omega (arith, small)) (omega (arith, small)))

-- the last one ends
ends : (so_far b : ℕ) → b < 128 → varint_leading_bytes 5 so_far ++ b ∷ [] ≡ varint_bytes_of_number (varint_with_byte_added so_far b)
ends so_far b low =
    let v = varint_with_byte_added so_far b in
    let over : so_far ≡ v / 128 = omega (arith, low) in
    let last : b ≡ v % 128 = omega (arith, low) in
    ap (λ m. varint_leading_bytes 5 m ++ b ∷ []) over ∙ ap (λ (d : ℕ). varint_leading_bytes 5 (v / 128) ++ d ∷ []) last

pub from_number : (so_far : ℕ) (bytes : List ℕ) (n : VarintAndRest) → AreBytes bytes → read_varint_after_part so_far bytes ≡ Some n → IsNumber so_far bytes n
from_number so_far [] n ok h = absurd (cc)
from_number so_far (b ∷ bytes) n ok h =
    go (nat_lt (varint_with_byte_added so_far b) (2 ^ 32)) refl (nat_lt b 128) refl h (λ r. from_number (varint_with_byte_added so_far b + 1) bytes n (bytes_behind 1 (b ∷ bytes) ok) r)
  where
    go : (t : Bool) → nat_lt (varint_with_byte_added so_far b) (2 ^ 32) ≡ t → (u : Bool) → nat_lt b 128 ≡ u
        → (if t then (if u then Some (record { value = varint_with_byte_added so_far b; rest = bytes }) else read_varint_after_part (varint_with_byte_added so_far b + 1) bytes) else None) ≡ Some n
        → (read_varint_after_part (varint_with_byte_added so_far b + 1) bytes ≡ Some n → IsNumber (varint_with_byte_added so_far b + 1) bytes n) → IsNumber so_far (b ∷ bytes) n
    go false e u f h again = absurd (cc)
    go true e true f h again =
        let same : (◌≡◌ {A = VarintAndRest} (record { value = varint_with_byte_added so_far b; rest = bytes }) n) = some_is h in
        subst (IsNumber so_far (b ∷ bytes)) same (record {
          text = b ∷ [];
          whole = refl;
          small = ltb-true (varint_with_byte_added so_far b) (2 ^ 32) e;
          is = ends so_far b (ltb-true b 128 f);
        })
    go true e false f h again =
        let rest = again h in
        record {
          text = b ∷ rest.text;
          whole = ap (λ (x : List ℕ). b ∷ x) rest.whole;
          small = rest.small;
          is = sym (append_assoc (varint_leading_bytes 5 so_far) (b ∷ []) rest.text)
              ∙ ap (λ x. x ++ rest.text) (sym (leads so_far b (ltb-false b 128 f) (ok.at 0) (ltb-true (varint_with_byte_added so_far b) (2 ^ 32) e)))
              ∙ rest.is;
        }
