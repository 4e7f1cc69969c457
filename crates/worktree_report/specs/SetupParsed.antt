-- What reading a setup answers.
use Rattle.std.specs.Prelude.{◌≡◌, ℕ, List, [], Some, None, Result, Ok, Err}
use Rattle.worktree_report.specs.declared.setup.Setup.{Setup}
use Rattle.worktree_report.specs.declared.setup.SetupError.{SetupError}
use Rattle.worktree_report.specs.declared.setup.SetupError.TheVariants as errors
use Rattle.worktree_report.specs.SetupSaid.{SetupDraft}
use Rattle.worktree_report.specs.SetupText.{draft_of_lines, number_of_first_bad_line}

-- what the lines say, or the first of them outside the grammar
abbrev pub IsDraftOfLines : Result SetupDraft SetupError → List (List ℕ) → Type 0
IsDraftOfLines (Ok all) lines = (number_of_first_bad_line [] lines ≡ None) × (all ≡ draft_of_lines lines)
IsDraftOfLines (Err (errors.Line line)) lines = number_of_first_bad_line [] lines ≡ Some line
IsDraftOfLines (Err errors.OutOfMemory) lines = Unit {0}

-- an answer that is not want of memory is the one that the definition gives
abbrev pub IsParseResultUnlessMemory : Result Setup SetupError → Result Setup ℕ → Type 0
IsParseResultUnlessMemory (Ok setup) given = given ≡ Ok setup
IsParseResultUnlessMemory (Err (errors.Line line)) given = given ≡ Err line
IsParseResultUnlessMemory (Err errors.OutOfMemory) given = Unit {0}
