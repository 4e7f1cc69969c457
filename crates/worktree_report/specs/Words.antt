-- The words of the command line.
use Rattle.std.specs.Prelude.{ℕ, ◌+◌, ◌*◌, List, [], ◌∷◌, Bool, not, nat_le, ◌==◌, ◌&&◌, if◌then◌else◌, codes, Option, Some, None, option_and_then, option_map}
use Rattle.std.specs.Str.{bytes_eq}
use Rattle.worktree_fs.specs.Tree.{is_absolute}
use Rattle.worktree_fs.specs.Paths.{is_dot_or_dot_dot}
use Rattle.std.specs.List.{slice_split, list_all, list_any}
use Rattle.worktree_report.specs.SetupDepth.{parse_decimal_digit}

-- an absolute path without `.` and `..` among the pieces between its slashes
abbrev pub is_absolute_without_dots : List ℕ → Bool
is_absolute_without_dots path = is_absolute path && list_all (λ piece. not (is_dot_or_dot_dot piece)) (slice_split (λ b. b == 47) path)

-- and without NUL
abbrev pub is_absolute_without_dots_or_nul : List ℕ → Bool
is_absolute_without_dots_or_nul path = is_absolute_without_dots path && not (list_any (λ b. b == 0) path)

-- ---- a number of files

-- the number that digits write behind those of a number; none where a byte is no digit
unfoldable pub parse_digits_behind_number : ℕ → List ℕ → Option ℕ
parse_digits_behind_number n [] = Some n
parse_digits_behind_number n (b ∷ bytes) = option_and_then (λ (digit : ℕ). parse_digits_behind_number (10 * n + digit) bytes) (parse_decimal_digit b)

-- up to a hundred thousand
abbrev pub number_if_within_file_count_limit : ℕ → Option ℕ
number_if_within_file_count_limit n = if nat_le n 100000 then Some n else None

-- a decimal number from 1 to 100000, without zeros in front
abbrev pub parse_file_count : List ℕ → Option ℕ
parse_file_count [] = None
parse_file_count (b ∷ bytes) = if b == 48 then None else option_and_then number_if_within_file_count_limit (parse_digits_behind_number 0 (b ∷ bytes))

-- ---- what is asked for

-- where a command looks: the root of the work tree, and the path of the setup text
pub record RootAndSetupPaths : Type 0 where
  pub root : List ℕ
  pub setup : List ℕ

-- the report of the work tree at a root, by the setup at a path; or how much there is to report of so
-- many files in memory
pub data Command : Type 0 where
  report : RootAndSetupPaths → Command
  generate : ℕ → Command

-- the words behind this first one
abbrev pub words_behind_first_word : List ℕ → List (List ℕ) → Option (List (List ℕ))
words_behind_first_word name [] = None
words_behind_first_word name (word ∷ words) = if bytes_eq word name then Some words else None

-- the words of a command: `composed` stands before them exactly where the worktree composes names
abbrev pub words_behind_composed : Bool → List (List ℕ) → Option (List (List ℕ))
words_behind_composed composes words = if composes then words_behind_first_word (codes "composed") words else Some words

-- ROOT and SETUP, two plain paths
abbrev pub parse_root_and_setup_words : List (List ℕ) → Option RootAndSetupPaths
parse_root_and_setup_words (root ∷ setup ∷ []) =
    if is_absolute_without_dots_or_nul root && is_absolute_without_dots_or_nul setup then Some (record { root = root; setup = setup }) else None
parse_root_and_setup_words _ = None

-- the name of a command, ROOT and SETUP
unfoldable pub parse_places_of_command : List ℕ → Bool → List (List ℕ) → Option RootAndSetupPaths
parse_places_of_command name composes words = option_and_then parse_root_and_setup_words (option_and_then (words_behind_first_word name) (words_behind_composed composes words))

-- `generate N`
abbrev pub parse_generate_words : List (List ℕ) → Option ℕ
parse_generate_words (word ∷ number ∷ []) = if bytes_eq word (codes "generate") then parse_file_count number else None
parse_generate_words _ = None

-- `generate N` where the words are it, else the report; none where they are neither
abbrev generate_or_report_command : Option ℕ → Option RootAndSetupPaths → Option Command
generate_or_report_command (Some n) places = Some (generate n)
generate_or_report_command None places = option_map report places

-- The words are `generate N`, or `report ROOT SETUP`, with `composed` before it exactly where the worktree composes names.
-- Any other words ask for nothing.
unfoldable pub parse_command_words : Bool → List (List ℕ) → Option Command
parse_command_words composes words = generate_or_report_command (parse_generate_words words) (parse_places_of_command (codes "report") composes words)
