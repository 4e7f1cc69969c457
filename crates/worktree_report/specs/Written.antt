-- What a sink was given.
use Rattle.std.specs.Prelude.{◌≡◌, ◌≢◌, ℕ, List, [], ◌++◌, Option, option_map}

-- the bytes stand behind what was written before, where that is told
abbrev pub AppendsWholeBytes : Option (List ℕ) → Option (List ℕ) → List ℕ → Type 0
AppendsWholeBytes before after bytes = after ≡ option_map (λ written. written ++ bytes) before

-- a front of the bytes was written, and not all
pub record AppendsFrontOfBytes (before after : Option (List ℕ)) (bytes : List ℕ) : Type 0 where
  pub front : List ℕ
  pub rest : List ℕ
  pub parts : bytes ≡ front ++ rest
  pub left : rest ≢ []
  pub written : AppendsWholeBytes before after front
