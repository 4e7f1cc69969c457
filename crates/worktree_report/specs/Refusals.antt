-- Why there is no report: the status and the line of each refusal.
use Rattle.std.specs.Prelude.{◌≡◌, ◌⊎◌, ℕ, List, [], ◌∷◌, ◌++◌, Bool, true, false, codes, decimal, Option, Some, None}
use Rattle.worktree_fs.specs.Causes.{CountIncrementedOrSaturated}
use Rattle.worktree_report.specs.declared.refusal.WalkWord.{WalkWord}
use Rattle.worktree_report.specs.declared.refusal.WalkWord.TheVariants as words
use Rattle.worktree_report.specs.declared.refusal.Misread.{Misread}
use Rattle.worktree_report.specs.declared.refusal.Misread.TheVariants as misread
use Rattle.worktree_report.specs.declared.refusal.Refusal.{Refusal}
use Rattle.worktree_report.specs.declared.refusal.Refusal.TheVariants as refusals
use Rattle.worktree_report.specs.Escapes.{path_escaped}
use Rattle.worktree_report.specs.Written.{AppendsWholeBytes, AppendsFrontOfBytes}

-- the status that the program ends with
abbrev pub status_of : Refusal → ℕ
status_of refusals.Interrupted = 1
status_of refusals.Usage = 2
status_of (refusals.Setup line) = 3
status_of (refusals.Walk word path) = 4
status_of (refusals.Misread which) = 5
status_of refusals.Fault = 6
status_of refusals.Output = 7
status_of refusals.OutOfMemory = 8

-- the word that stands behind `walk: ` on standard error and says why the walk was refused
abbrev pub bytes_of_walk_word : WalkWord → List ℕ
bytes_of_walk_word words.RootIsFile = codes "root-is-file"
bytes_of_walk_word words.OutsideRoot = codes "outside-root"
bytes_of_walk_word words.SymlinkInRoot = codes "symlink-in-root"
bytes_of_walk_word words.MissingRoot = codes "missing-root"
bytes_of_walk_word words.AbsentDirectory = codes "absent-directory"
bytes_of_walk_word words.NotADirectory = codes "not-a-directory"
bytes_of_walk_word words.RulesFile = codes "rules-file"
bytes_of_walk_word words.Blob = codes "blob"
bytes_of_walk_word words.Lookup = codes "lookup"
bytes_of_walk_word words.TooDeep = codes "too-deep"

-- what is outside its grammar, and where
abbrev pub line_of_misread : Misread → List ℕ
line_of_misread (misread.Config at line) = codes "config " ++ decimal at ++ codes ": line " ++ decimal line ++ 10 ∷ []
line_of_misread (misread.Modules line) = codes "modules: line " ++ decimal line ++ 10 ∷ []
line_of_misread (misread.ActiveSpec at) = codes "active: value " ++ decimal at ++ 10 ∷ []

-- the line on standard error, its line feed included; that of words that ask for nothing is the command's own
abbrev pub line_of_refusal : List ℕ → Refusal → List ℕ
line_of_refusal usage refusals.Interrupted = codes "interrupted\n"
line_of_refusal usage refusals.Usage = usage
line_of_refusal usage (refusals.Setup line) = codes "setup: line " ++ decimal line ++ 10 ∷ []
line_of_refusal usage (refusals.Misread which) = line_of_misread which
line_of_refusal usage (refusals.Walk word path) = codes "walk: " ++ bytes_of_walk_word word ++ 32 ∷ [] ++ path_escaped path ++ 10 ∷ []
line_of_refusal usage refusals.Fault = codes "worktree fault\n"
line_of_refusal usage refusals.Output = codes "output fault\n"
line_of_refusal usage refusals.OutOfMemory = codes "out of memory\n"

-- The line stands behind what was written before, where that is told, and no write was refused; or one was, behind a front of the line
-- that is not all of it.
abbrev pub WritesLineOrRefusedFront : Option (List ℕ) → Option (List ℕ) → ℕ → ℕ → List ℕ → Type 0
WritesLineOrRefusedFront before after refusals_before refusals_after line =
    (AppendsWholeBytes before after line × (refusals_after ≡ refusals_before))
    ⊎ (AppendsFrontOfBytes before after line × CountIncrementedOrSaturated refusals_before refusals_after)

-- whether the line of a refusal has to be made, which takes memory
abbrev pub takes_memory_for_line : Refusal → Bool
takes_memory_for_line (refusals.Setup line) = true
takes_memory_for_line (refusals.Misread which) = true
takes_memory_for_line (refusals.Walk word path) = true
takes_memory_for_line refusals.Interrupted = false
takes_memory_for_line refusals.Usage = false
takes_memory_for_line refusals.Fault = false
takes_memory_for_line refusals.Output = false
takes_memory_for_line refusals.OutOfMemory = false

-- the line, where it has to be made
abbrev pub IsLineIfTakesMemory : Option (List ℕ) → Refusal → Type 0
IsLineIfTakesMemory None refusal = takes_memory_for_line refusal ≡ false
IsLineIfTakesMemory (Some line) refusal = (line ≡ line_of_refusal [] refusal) × (takes_memory_for_line refusal ≡ true)
