-- The second pair of bytes of flags, which is there where the first says `extended`, from version 3 on. From the highest bit: 0, left
-- out of a sparse worktree, to be added, and thirteen that are 0.
use Rattle.std.specs.Prelude.{ℕ, ◌/◌, ◌%◌, Bool, false, not, ◌==◌, ◌&&◌, List, Option, Some, None, if◌then◌else◌}
use Rattle.byteorder.specs.Endian.{big_number}
use Rattle.gitbase_core.specs.Steps.{◌>>=◌}
use Rattle.git_index.specs.Parts.{split_first_bytes}

-- how many bytes it takes, what it says, and what is behind it
pub record ExtendedFlagsAndRest : Type 0 where
  pub size : ℕ
  pub is_skipped : Bool
  pub intent_to_add : Bool
  pub rest : List ℕ

-- the highest bit and the lowest thirteen are 0
abbrev pub has_only_known_bits : ℕ → Bool
has_only_known_bits bits = (bits / 32768 == 0) && (bits % 8192 == 0)

-- what the two bytes say; none where one of the bits is set that have to be 0
abbrev pub extended_flags_from_bits : ℕ → List ℕ → Option ExtendedFlagsAndRest
extended_flags_from_bits bits rest =
    if has_only_known_bits bits
    then Some (record { size = 2; is_skipped = bits / 16384 % 2 == 1; intent_to_add = bits / 8192 % 2 == 1; rest = rest })
    else None

-- the two bytes in front; none where there are fewer, or one of the bits is set that have to be 0
abbrev pub read_extended_flags : List ℕ → Option ExtendedFlagsAndRest
read_extended_flags bytes = do
  two ← split_first_bytes 2 bytes
  extended_flags_from_bits (big_number 2 two.part) two.rest

-- where they are not announced they take no byte, and both are unset; none where version 2 announces them
abbrev pub read_extended_flags_if_present : ℕ → Bool → List ℕ → Option ExtendedFlagsAndRest
read_extended_flags_if_present version extended bytes =
    if not extended then Some (record { size = 0; is_skipped = false; intent_to_add = false; rest = bytes })
    else if version == 2 then None
    else read_extended_flags bytes
