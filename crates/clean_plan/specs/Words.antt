-- The words of a command line that ask for a plan.
use Rattle.std.specs.Prelude.{ℕ, List, [], ◌∷◌, Bool, codes, Option, Some, None, option_and_then, if◌then◌else◌}
use Rattle.std.specs.Str.{bytes_eq}
use Rattle.worktree_report.specs.Words.{RootAndSetupPaths, words_behind_first_word, words_behind_composed, parse_root_and_setup_words}
use Rattle.clean_plan.specs.declared.what.Finding.{Finding}
use Rattle.clean_plan.specs.declared.what.Finding.TheVariants as finding
use Rattle.clean_plan.specs.declared.what.What.{What}
use Rattle.clean_plan.specs.declared.what.What.TheVariants as what

-- what may be removed, how repositories are looked for, and where
pub record Request : Type 0 where
  pub what : What
  pub finding : Finding
  pub places : RootAndSetupPaths

-- which paths
abbrev pub parse_what_to_remove : List ℕ → Option What
parse_what_to_remove word =
    if bytes_eq word (codes "untracked") then Some what.Untracked
    else if bytes_eq word (codes "all") then Some what.UntrackedAndIgnored
    else if bytes_eq word (codes "ignored") then Some what.IgnoredOnly
    else None

-- which repositories
abbrev pub parse_repository_finding : List ℕ → Option Finding
parse_repository_finding word =
    if bytes_eq word (codes "nonbare") then Some finding.NonBare
    else if bytes_eq word (codes "all") then Some finding.All
    else None

-- the request in some places, if they are named
abbrev request_with_optional_places : What → Finding → Option RootAndSetupPaths → Option Request
request_with_optional_places what finding None = None
request_with_optional_places what finding (Some places) = Some (record { what = what; finding = finding; places = places })

-- the request by a word that says how repositories are found
abbrev request_with_optional_finding : What → Option Finding → List (List ℕ) → Option Request
request_with_optional_finding what None words = None
request_with_optional_finding what (Some finding) words = request_with_optional_places what finding (parse_root_and_setup_words words)

-- the request by a word that says what may go
abbrev request_with_optional_what : Option What → List ℕ → List (List ℕ) → Option Request
request_with_optional_what None word words = None
request_with_optional_what (Some what) word words = request_with_optional_finding what (parse_repository_finding word) words

-- WHAT, FIND, ROOT and SETUP
unfoldable pub parse_request_operands : List (List ℕ) → Option Request
parse_request_operands (what ∷ finding ∷ words) = request_with_optional_what (parse_what_to_remove what) finding words
parse_request_operands (what ∷ []) = None
parse_request_operands [] = None

-- The words are `clean WHAT FIND ROOT SETUP`, with `composed` before them exactly where the worktree composes names. Any other words
-- ask for nothing.
unfoldable pub parse_clean_request : Bool → List (List ℕ) → Option Request
parse_clean_request composes words = option_and_then parse_request_operands (option_and_then (words_behind_first_word (codes "clean")) (words_behind_composed composes words))
