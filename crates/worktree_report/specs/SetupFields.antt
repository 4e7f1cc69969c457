-- The words of a line that spaces part.
use Rattle.std.specs.Prelude.{ℕ, ◌+◌, List, ◌==◌, Option, option_map, position, take, drop}

-- a word, and what is behind the space that ends it
pub record WordAndRest : Type 0 where
  pub word : List ℕ
  pub rest : List ℕ

-- the bytes before an index and those behind it; the byte at the index, the space, is in neither
abbrev pub word_and_rest_at_index : List ℕ → ℕ → WordAndRest
word_and_rest_at_index bytes place = record { word = take place bytes; rest = drop (place + 1) bytes }

-- the bytes before the first space, and those behind it; none where there is no space
abbrev pub split_at_first_space : List ℕ → Option WordAndRest
split_at_first_space bytes = option_map (word_and_rest_at_index bytes) (position (λ b. b == 32) bytes)
