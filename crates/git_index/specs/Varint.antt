-- Numbers of as many bytes as they need: seven bits a byte, the highest first, and the top bit of a byte says that more come. As
-- one is taken off before the bits are cut for each byte but the last, each number has one such text: 127 is the byte 127, 128 the
-- bytes 128 and 0, 16511 the bytes 255 and 127, and 16512 the bytes 128, 128 and 0.
use Rattle.std.specs.Prelude.{ℕ, zero, suc, ◌+◌, ◌*◌, ◌/◌, ◌%◌, ◌^◌, nat_lt, List, [], ◌∷◌, ◌++◌, Option, Some, None, if◌then◌else◌}

-- ---- as it is written

-- the bytes before the last one, where a number is left above that one's seven bits; five are more than 32 bits need
unfoldable pub varint_leading_bytes : ℕ → ℕ → List ℕ
varint_leading_bytes zero left = []
varint_leading_bytes (suc n) zero = []
varint_leading_bytes (suc n) (suc left) = varint_leading_bytes n (left / 128) ++ (128 + left % 128) ∷ []

-- the text of a number
abbrev pub varint_bytes_of_number : ℕ → List ℕ
varint_bytes_of_number n = varint_leading_bytes 5 (n / 128) ++ n % 128 ∷ []

-- ---- as it is read

-- a number, and what is behind it
pub record VarintAndRest : Type 0 where
  pub value : ℕ
  pub rest : List ℕ

-- the number with one byte more
abbrev pub varint_with_byte_added : ℕ → ℕ → ℕ
varint_with_byte_added so_far b = so_far * 128 + b % 128

-- the number of which so much is read; none where it does not end, or has more than 32 bits
abbrev pub read_varint_after_part : ℕ → List ℕ → Option VarintAndRest
read_varint_after_part so_far [] = None
read_varint_after_part so_far (b ∷ bytes) =
    if nat_lt (varint_with_byte_added so_far b) (2 ^ 32)
    then (if nat_lt b 128 then Some (record { value = varint_with_byte_added so_far b; rest = bytes }) else read_varint_after_part (varint_with_byte_added so_far b + 1) bytes)
    else None

-- the number in front; none where the bytes end within it, or it has more than 32 bits
abbrev pub read_varint : List ℕ → Option VarintAndRest
read_varint bytes = read_varint_after_part 0 bytes
