-- The paths of an input, and what is answered of them: git-check-ignore(1), "--stdin", "-z".
use Rattle.std.specs.Prelude.{ℕ, List, [], ◌∷◌, ◌==◌, ◌-◌, length, slice_index, take, Option, Some, None, Result, Ok, Err, if◌then◌else◌}
use Rattle.std.specs.List.{before_first, slice_split}
use Rattle.gitbase_core.specs.Steps.{and_then}
use Rattle.gitbase_core.specs.declared.entry.IndexEntry.{IndexEntry}
use Rattle.gitbase_core.specs.Text.{is_nul}
use Rattle.worktree_fs.specs.Tree.{Names}
use Rattle.check_ignore.specs.Checked.{check_ignore_answer, empty_answer, answer_with_other_appended}
use Rattle.check_ignore.specs.Lines.{byte_or_nul_if_z}
use Rattle.check_ignore.specs.Unquoted.{unquote_c_style_after_opening_quote}
use Rattle.check_ignore.specs.declared.answer.Answered.{Answered}
use Rattle.check_ignore.specs.declared.options.Checking.{Checking}
use Rattle.check_ignore.specs.declared.options.OuterRules.{OuterRules}
use Rattle.check_ignore.specs.declared.stop.Stop.{Stop}
use Rattle.check_ignore.specs.declared.stop.Stop.TheVariants as stops

-- ---- its lines

-- a line ends in a line feed; with `-z` in a NUL
abbrev pub line_feed_or_nul_if_z : Checking → ℕ
line_feed_or_nul_if_z c = byte_or_nul_if_z c 10

-- an input without the byte that ends its last line, if it is there
abbrev pub without_last_terminator : ℕ → List ℕ → List ℕ
without_last_terminator end bytes = if slice_index bytes (length bytes - 1) == end then take (length bytes - 1) bytes else bytes

-- what stands between the bytes that are `end`; one piece more than there are such bytes
abbrev pub split_at_byte : ℕ → List ℕ → List (List ℕ)
split_at_byte end bytes = slice_split (λ b. b == end) bytes

-- the lines of an input; none where it is empty
abbrev pub input_lines : ℕ → List ℕ → List (List ℕ)
input_lines end [] = []
input_lines end (b ∷ bytes) = split_at_byte end (without_last_terminator end (b ∷ bytes))

-- ---- their paths

-- a NUL ends a path
abbrev pub bytes_before_nul : List ℕ → List ℕ
bytes_before_nul bytes = before_first is_nul bytes

-- what quotes gave, up to a NUL in it; quotes that are not closed, or an escape that means nothing, are refused
abbrev pub path_or_bad_quotes_error : Option (List ℕ) → Result (List ℕ) Stop
path_or_bad_quotes_error None = Err stops.BadQuotes
path_or_bad_quotes_error (Some path) = Ok (bytes_before_nul path)

-- a path that begins with a double quote stands in quotes
abbrev pub parse_maybe_quoted_path : List ℕ → Result (List ℕ) Stop
parse_maybe_quoted_path [] = Ok []
parse_maybe_quoted_path (b ∷ bytes) = if b == 34 then path_or_bad_quotes_error (unquote_c_style_after_opening_quote 0 bytes) else Ok (b ∷ bytes)

-- with `-z` a line is its path, as it stands
abbrev pub parse_path_of_input_line : Checking → List ℕ → Result (List ℕ) Stop
parse_path_of_input_line c line = if c.ends_in_nul then Ok line else parse_maybe_quoted_path (bytes_before_nul line)

-- ---- what is answered

-- of a line: that of its path alone
abbrev pub answer_of_input_line : Names → List ℕ → List ℕ → List IndexEntry → OuterRules → Checking → List ℕ → Result Answered Stop
answer_of_input_line t root prefix index outer c line =
    and_then (λ (path : List ℕ). check_ignore_answer t root prefix index outer c (path ∷ [])) (parse_path_of_input_line c line)

-- of some lines behind others, or the first refusal
abbrev pub append_answers_of_lines : Names → List ℕ → List ℕ → List IndexEntry → OuterRules → Checking → Answered → List (List ℕ) → Result Answered Stop
append_answers_of_lines t root prefix index outer c done [] = Ok done
append_answers_of_lines t root prefix index outer c done (line ∷ lines) =
    and_then (λ now. append_answers_of_lines t root prefix index outer c (answer_with_other_appended done now) lines) (answer_of_input_line t root prefix index outer c line)

-- of an input
abbrev pub answer_of_whole_input : Names → List ℕ → List ℕ → List IndexEntry → OuterRules → Checking → List ℕ → Result Answered Stop
answer_of_whole_input t root prefix index outer c input = append_answers_of_lines t root prefix index outer c empty_answer (input_lines (line_feed_or_nul_if_z c) input)

-- What is answered in the directory `prefix` of the work tree at `root`: of the paths of the words, or, with `--stdin`, of those of the
-- input.
abbrev pub answer_of_paths_or_stdin : Names → List ℕ → List ℕ → List IndexEntry → OuterRules → Checking → List (List ℕ) → List ℕ → Result Answered Stop
answer_of_paths_or_stdin t root prefix index outer c texts input =
    if c.stdin then answer_of_whole_input t root prefix index outer c input else check_ignore_answer t root prefix index outer c texts
