-- The parts of an index file: so many bytes, a text that a NUL ends, and numbers of four bytes one behind another.
use Rattle.std.specs.Prelude.{ℕ, ◌+◌, ◌*◌, nat_le, List, length, take, drop, position, Option, Some, None, option_map, if◌then◌else◌}
use Rattle.gitbase_core.specs.Text.{is_nul}
use Rattle.byteorder.specs.Endian.{big_number}

-- some bytes, and what is behind them
pub record PartAndRest : Type 0 where
  pub part : List ℕ
  pub rest : List ℕ

-- the first n bytes; none where there are fewer
abbrev pub split_first_bytes : ℕ → List ℕ → Option PartAndRest
split_first_bytes n bytes = if nat_le n (length bytes) then Some (record { part = take n bytes; rest = drop n bytes }) else None

-- what is before the byte at this place, and what is behind it; the byte itself is in neither
abbrev pub split_around_byte_at : List ℕ → ℕ → PartAndRest
split_around_byte_at bytes place = record { part = take place bytes; rest = drop (place + 1) bytes }

-- the bytes before the first NUL, and what is behind that; none where there is no NUL
abbrev pub text : List ℕ → Option PartAndRest
text bytes = option_map (split_around_byte_at bytes) (position is_nul bytes)

-- the number of four bytes at a place, where such numbers follow one another and the first has place 0
abbrev pub nth_big_endian_u32 : ℕ → List ℕ → ℕ
nth_big_endian_u32 place bytes = big_number 4 (drop (4 * place) bytes)
