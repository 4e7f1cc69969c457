-- The words of a command, one after the other.
use Rattle.std.specs.Prelude.{ℕ, List, [], ◌∷◌, ◌++◌, codes}
use Rattle.command_line.specs.declared.draft.Draft.{Draft}
use Rattle.command_line.specs.declared.misuse.Wrong.{Wrong}
use Rattle.command_line.specs.declared.misuse.Wrong.TheVariants.{NoValue, NoSwitchValue}
use Rattle.command_line.specs.declared.read.Read.{Read}
use Rattle.command_line.specs.declared.read.Read.TheVariants as reads
use Rattle.command_line.specs.declared.step.Next.{Next}
use Rattle.command_line.specs.declared.step.Next.TheVariants as nexts
use Rattle.command_line.specs.declared.step.Step.{Step}
use Rattle.command_line.specs.declared.step.Step.TheVariants as steps
use Rattle.command_line.specs.declared.verb.Verb.{Verb}
use Rattle.command_line.specs.Drafts.{default_draft}
use Rattle.command_line.specs.RulesGiven.{RulesGiven, no_rules_given, with_ruling_of_word}
use Rattle.command_line.specs.Steps.{step_of_word}

-- what the options say, the paths as they are written, and the rules; or the first word that is wrong, and how
pub data CommandWordsReading : Type 0 where
  said : Draft → List (List ℕ) → RulesGiven → CommandWordsReading
  wrong : Wrong → List ℕ → CommandWordsReading

-- what was read of the words, as contracts see it
abbrev pub seen : Read → CommandWordsReading
seen (reads.Said draft paths rules) = said draft paths.items rules
seen (reads.Wrong how word) = wrong how word

-- no more words: an option may want a value still
abbrev pub finish_reading_or_missing_value : Draft → Next → List (List ℕ) → RulesGiven → CommandWordsReading
finish_reading_or_missing_value draft nexts.Any paths rules = said draft paths rules
finish_reading_or_missing_value draft nexts.Paths paths rules = said draft paths rules
finish_reading_or_missing_value draft nexts.Depth paths rules = wrong NoValue (codes "--depth")
finish_reading_or_missing_value draft nexts.Pattern paths rules = wrong NoValue (codes "--exclude")
finish_reading_or_missing_value draft (nexts.LetterPattern letter) paths rules = wrong (NoSwitchValue letter) (45 ∷ letter ∷ [])
finish_reading_or_missing_value draft nexts.File paths rules = wrong NoValue (codes "--exclude-from")
finish_reading_or_missing_value draft (nexts.LetterFile letter) paths rules = wrong (NoSwitchValue letter) (45 ∷ letter ∷ [])

-- what is said with one more word: it says something, it is a path, it says something of rules, or it is wrong
abbrev pub reading_after_step : Step → List ℕ → (Draft → Next → List (List ℕ) → RulesGiven → CommandWordsReading) → Draft → Next → List (List ℕ) → RulesGiven → CommandWordsReading
reading_after_step (steps.Said now then) word onward draft next paths rules = onward now then paths rules
reading_after_step steps.Path word onward draft next paths rules = onward draft next (paths ++ word ∷ []) rules
reading_after_step (steps.Rules now ruling) word onward draft next paths rules = onward now nexts.Any paths (with_ruling_of_word ruling word rules)
reading_after_step (steps.Wrong how) word onward draft next paths rules = wrong how word

-- the words left, by what was said before them
unfoldable pub read_remaining_words : Verb → List (List ℕ) → Draft → Next → List (List ℕ) → RulesGiven → CommandWordsReading
read_remaining_words verb [] draft next paths rules = finish_reading_or_missing_value draft next paths rules
read_remaining_words verb (word ∷ words) draft next paths rules =
    reading_after_step (step_of_word verb next word draft) word (λ d n p q. read_remaining_words verb words d n p q) draft next paths rules

-- what the words of a command say together
abbrev pub read_command_words : Verb → List (List ℕ) → CommandWordsReading
read_command_words verb words = read_remaining_words verb words default_draft nexts.Any [] no_rules_given
