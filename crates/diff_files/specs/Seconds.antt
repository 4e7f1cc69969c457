-- The seconds of a time, as an index has them.
use Rattle.std.specs.Prelude.{ℕ, ℤ, ◌%◌, ◌^◌}
use Rattle.std.specs.Int.{cast_unsigned, w64}

-- of a time in seconds since 1970, before which it is negative, an index has the lowest 32 bits
abbrev pub seconds_wrapped_to_32_bits : ℤ → ℕ
seconds_wrapped_to_32_bits time = cast_unsigned w64 time % 2 ^ 32
