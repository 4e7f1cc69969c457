-- The ignore rules that words give.
--
-- For example `-X a --exclude-standard -X b -x '*.o'` gives the pattern `*.o`, the weaker file `a` and the stronger file `b`: git asks the
-- pattern first, then the rules of directories, then `b`, then `info/exclude` and the user's file, and last `a`.
use Rattle.std.specs.Prelude.{ℕ, ◌-◌, List, [], ◌∷◌, ◌++◌, length, drop}
use Rattle.command_line.specs.declared.rules_given.Ruling.{Ruling}
use Rattle.command_line.specs.declared.rules_given.Ruling.TheVariants as rulings

-- Patterns, and the names of files of rules: those before the last `--exclude-standard` are weaker than its rules.
pub record RulesGiven : Type 0 where
  pub patterns : List (List ℕ)
  pub weaker : List (List ℕ)
  pub stronger : List (List ℕ)

-- no ignore rules are given
abbrev pub no_rules_given : RulesGiven
no_rules_given = record { patterns = []; weaker = []; stronger = [] }

-- the last bytes of a word, as many as are said
abbrev pub last_bytes_of_word : ℕ → List ℕ → List ℕ
last_bytes_of_word left word = drop (length word - left) word

-- these and what one more word says: a pattern, a file, or that the standard rules are asked above all files so far
abbrev pub with_ruling_of_word : Ruling → List ℕ → RulesGiven → RulesGiven
with_ruling_of_word (rulings.Pattern left) word rules = record rules { patterns = rules.patterns ++ last_bytes_of_word left word ∷ [] }
with_ruling_of_word (rulings.File left) word rules = record rules { stronger = rules.stronger ++ last_bytes_of_word left word ∷ [] }
with_ruling_of_word rulings.Standard word rules = record rules { weaker = rules.weaker ++ rules.stronger; stronger = [] }
