-- What is said of words that ask for nothing.
use Rattle.std.specs.Prelude.{ℕ, List, [], ◌∷◌, ◌++◌, codes}
use Rattle.worktree_report.specs.Escapes.{path_escaped}
use Rattle.command_line.specs.declared.misuse.Misuse.{Misuse}
use Rattle.command_line.specs.declared.misuse.Misuse.TheVariants as refused
use Rattle.command_line.specs.declared.misuse.Wrong.{Wrong}
use Rattle.command_line.specs.declared.misuse.Wrong.TheVariants as wrongs
use Rattle.command_line.specs.declared.verb.Topic.{Topic}
use Rattle.command_line.specs.Helps.{usage_line_of_topic}

-- what stands before the word
abbrev pub error_text_before_wrong_word : Wrong → List ℕ
error_text_before_wrong_word wrongs.NoCommand = codes "error: no command is given"
error_text_before_wrong_word wrongs.UnknownCommand = codes "error: unknown command `"
error_text_before_wrong_word wrongs.UnknownOption = codes "error: unknown option `"
error_text_before_wrong_word (wrongs.UnknownSwitch letter) = codes "error: unknown switch `"
error_text_before_wrong_word wrongs.NoValue = codes "error: option `"
error_text_before_wrong_word (wrongs.NoSwitchValue letter) = codes "error: switch `"
error_text_before_wrong_word wrongs.TakesNoValue = codes "error: option `"
error_text_before_wrong_word wrongs.UnknownValue = codes "error: option `"
error_text_before_wrong_word wrongs.NotADepth = codes "error: `"
error_text_before_wrong_word wrongs.SecondDirectory = codes "error: option `"
error_text_before_wrong_word wrongs.Paths = codes "error: `"
error_text_before_wrong_word wrongs.Undashed = codes "error: `"
error_text_before_wrong_word wrongs.Pattern = codes "error: the pattern in `"
error_text_before_wrong_word wrongs.Left = codes "error: option `"
error_text_before_wrong_word (wrongs.LeftSwitch letter) = codes "error: switch `"

-- what stands behind it
abbrev pub error_text_after_wrong_word : Wrong → List ℕ
error_text_after_wrong_word wrongs.NoCommand = codes "\n"
error_text_after_wrong_word wrongs.UnknownCommand = codes "'\n"
error_text_after_wrong_word wrongs.UnknownOption = codes "'\n"
error_text_after_wrong_word (wrongs.UnknownSwitch letter) = codes "'\n"
error_text_after_wrong_word wrongs.NoValue = codes "' requires a value\n"
error_text_after_wrong_word (wrongs.NoSwitchValue letter) = codes "' requires a value\n"
error_text_after_wrong_word wrongs.TakesNoValue = codes "' takes no value\n"
error_text_after_wrong_word wrongs.UnknownValue = codes "' has a value that is not known\n"
error_text_after_wrong_word wrongs.NotADepth = codes "' is no depth, which is a number from 0 to 1000\n"
error_text_after_wrong_word wrongs.SecondDirectory = codes "' stands more than once\n"
error_text_after_wrong_word wrongs.Paths = codes "' is a path, and this command takes none\n"
error_text_after_wrong_word wrongs.Undashed = codes "' may be a revision; write `--' before paths\n"
error_text_after_wrong_word wrongs.Pattern = codes "' has a line feed, or a blank or carriage return at its end\n"
error_text_after_wrong_word wrongs.Left = codes "' is git's, and is not answered here\n"
error_text_after_wrong_word (wrongs.LeftSwitch letter) = codes "' is git's, and is not answered here\n"

-- the word, or the letter in it that is wrong, with control bytes escaped
abbrev pub escaped_wrong_word_or_letter : Wrong → List ℕ → List ℕ
escaped_wrong_word_or_letter (wrongs.UnknownSwitch letter) word = path_escaped (letter ∷ [])
escaped_wrong_word_or_letter (wrongs.NoSwitchValue letter) word = path_escaped (letter ∷ [])
escaped_wrong_word_or_letter (wrongs.LeftSwitch letter) word = path_escaped (letter ∷ [])
escaped_wrong_word_or_letter other word = path_escaped word

-- the line of a word that is wrong, and the usage
abbrev pub message_and_usage_of_wrong_word : Topic → Wrong → List ℕ → List ℕ
message_and_usage_of_wrong_word topic wrong word = error_text_before_wrong_word wrong ++ escaped_wrong_word_or_letter wrong word ++ error_text_after_wrong_word wrong ++ usage_line_of_topic topic

-- the lines on standard error for words that are wrong
abbrev pub message_of_misuse : Misuse → List ℕ
message_of_misuse (refused.Word topic wrong word) = message_and_usage_of_wrong_word topic wrong word
message_of_misuse refused.OutOfMemory = codes "fatal: out of memory\n"
