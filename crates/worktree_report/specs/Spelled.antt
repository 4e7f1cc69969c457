-- How a byte is spelled at the beginning of a text.
use Rattle.std.specs.Prelude.{◌≡◌, ◌≤◌, ℕ, List, ◌∷◌, length, drop, Option, Some, None, option_map}
use Rattle.worktree_report.specs.declared.escape.Spelled.{Spelled}
use Rattle.worktree_report.specs.Escapes.{unescape_path}

-- the first byte and some more of the rest stand for a byte, and what is left for what follows it
pub record SpellsLeadingByte (s : Spelled) (first : ℕ) (rest : List ℕ) : Type 0 where
  pub within : s.more ≤ length rest
  pub means : unescape_path (first ∷ rest) ≡ option_map (λ (more : List ℕ). s.byte ∷ more) (unescape_path (drop s.more rest))

-- a text begins with a byte that is spelled, or stands for nothing
abbrev pub BeginsWithSpelledByte : Option Spelled → ℕ → List ℕ → Type 0
BeginsWithSpelledByte None first rest = unescape_path (first ∷ rest) ≡ None
BeginsWithSpelledByte (Some s) first rest = SpellsLeadingByte s first rest
