-- Which words there are not: git-check-ignore(1), "OPTIONS".
use Rattle.std.specs.Prelude.{ℕ, List, not, ◌&&◌, ◌==◌, nat_lt, Option, Some, None, codes, if◌then◌else◌}
use Rattle.std.specs.Option.{option_or}
use Rattle.check_ignore.specs.declared.options.Checking.{Checking}
use Rattle.check_ignore.specs.declared.wrong.WrongCheck.{WrongCheck}
use Rattle.check_ignore.specs.declared.wrong.WrongCheck.TheVariants as wrongs

-- git's words for options that do not go together
abbrev pub message_of_wrong_check : WrongCheck → List ℕ
message_of_wrong_check wrongs.PathsWithStdin = codes "cannot specify pathnames with --stdin"
message_of_wrong_check wrongs.NulWithoutStdin = codes "-z only makes sense with --stdin"
message_of_wrong_check wrongs.NoPath = codes "no path specified"
message_of_wrong_check wrongs.QuietOfMany = codes "--quiet is only valid with a single pathname"
message_of_wrong_check wrongs.QuietAndVerbose = codes "cannot have both --quiet and --verbose"
message_of_wrong_check wrongs.NonMatchingAlone = codes "--non-matching is only valid with --verbose"

-- paths come from the words, or from the standard input, where a NUL may end them
abbrev pub stdin_or_path_count_error : Checking → ℕ → Option WrongCheck
stdin_or_path_count_error c count =
    if c.stdin then (if nat_lt 0 count then Some wrongs.PathsWithStdin else None)
    else if c.ends_in_nul then Some wrongs.NulWithoutStdin
    else if count == 0 then Some wrongs.NoPath
    else None

-- what is quiet has one path and writes nothing
abbrev pub output_option_error : Checking → ℕ → Option WrongCheck
output_option_error c count =
    if c.quiet && nat_lt 1 count then Some wrongs.QuietOfMany
    else if c.quiet && c.verbose then Some wrongs.QuietAndVerbose
    else if c.non_matching && not c.verbose then Some wrongs.NonMatchingAlone
    else None

-- the first that is wrong, in the order in which git looks
abbrev pub first_option_error : Checking → ℕ → Option WrongCheck
first_option_error c count = option_or (stdin_or_path_count_error c count) (output_option_error c count)
