-- What `git diff-files` prints, and why it is not told.
use Rattle.std.specs.Prelude.{◌≡◌, ℕ, List, [], Option, Some, None, Result, Ok, Err, IsErrOf, find}
use Rattle.gitbase_core.specs.Steps.{and_then}
use Rattle.gitbase_core.specs.declared.entry.IndexEntry.{IndexEntry}
use Rattle.gitbase_core.specs.Entry.{is_sparse_directory_entry}
use Rattle.git_index.specs.declared.stat.Detail.{Detail}
use Rattle.glob_rules.specs.PathSpec.{PathSpec}
use Rattle.worktree_fs.specs.declared.worktree.Worktree.{Ghosts as WorktreeOf}
use Rattle.worktree_fs.specs.Kept.{KeepsTreeAndListCounts}
use Rattle.diff_files.specs.declared.answer.Differences.{Differences}
use Rattle.diff_files.specs.declared.comparison.Comparison.{Comparison}
use Rattle.diff_files.specs.declared.error.DiffError.{DiffError}
use Rattle.diff_files.specs.declared.error.DiffError.TheVariants as errors
use Rattle.diff_files.specs.declared.error.Unanswered.{Unanswered}
use Rattle.diff_files.specs.declared.error.Unsupported.TheVariants as forms
use Rattle.diff_files.specs.declared.stats.Stats.{Ghosts as StatsOf}
use Rattle.diff_files.specs.KeptStats.{KeepsToldStats, CountsFaultInEither, KeepsFaultCounts, TreeAndStats, Tells}
use Rattle.diff_files.specs.Lines.{rows_text}
use Rattle.diff_files.specs.Rows.{ChangeRow, rows_of_remaining_entries}
use Rattle.diff_files.specs.Texts.{unanswered_form_of_entry}

-- the changes of the paths of an index, entry by entry; of a sparse index, in which an entry stands for a directory, none are told
abbrev rows_unless_sparse_index : Option IndexEntry → Result (List ChangeRow) Unanswered → Result (List ChangeRow) Unanswered
rows_unless_sparse_index None rows = rows
rows_unless_sparse_index (Some e) rows = Err (unanswered_form_of_entry forms.SparseIndex e)

-- the rows of all entries over a work tree, or the first form that is not answered
abbrev pub rows_of_index_changes : TreeAndStats → List ℕ → List IndexEntry → List Detail → Comparison → List PathSpec → Result (List ChangeRow) Unanswered
rows_of_index_changes s root entries details o specs = rows_unless_sparse_index (find is_sparse_directory_entry entries) (rows_of_remaining_entries s root o specs [] None entries details)

-- Their lines, or the first form that is not answered, with the path of the entry that has it.
abbrev pub diff_files_text : TreeAndStats → List ℕ → List IndexEntry → List Detail → Comparison → List PathSpec → Result (List ℕ) Unanswered
diff_files_text s root entries details o specs =
    and_then (λ (rows : List ChangeRow). Ok (rows_text o rows)) (rows_of_index_changes s root entries details o specs)

-- a form is refused where the definition does; want of memory and faults stand apart
abbrev pub IsUnsupportedAsDefined : {A : Type 0} → Result A Unanswered → DiffError → Type 0
IsUnsupportedAsDefined told (errors.Unsupported refused) = told ≡ Err refused
IsUnsupportedAsDefined told errors.Fault = Unit {0}
IsUnsupportedAsDefined told errors.OutOfMemory = Unit {0}

-- an answer is what a definition says: its value, or the form that is not answered; want of memory and faults stand apart
abbrev pub AnswersAsDefined : {A : Type 0} → Result A Unanswered → Result A DiffError → Type 0
AnswersAsDefined told (Ok given) = told ≡ Ok given
AnswersAsDefined told (Err e) = IsUnsupportedAsDefined told e

-- it holds, unless something outside is said to have failed
abbrev pub HoldsUnlessFault : {A : Type 0} → Result A DiffError → Type 0 → Type 0
HoldsUnlessFault (Ok given) Holds = Holds
HoldsUnlessFault (Err (errors.Unsupported refused)) Holds = Holds
HoldsUnlessFault (Err errors.Fault) Holds = Unit {0}
HoldsUnlessFault (Err errors.OutOfMemory) Holds = Holds

-- what goes to standard output, or the form that is not answered
abbrev pub differences_of_text : Result (List ℕ) Unanswered → Result Differences Unanswered
differences_of_text (Ok text) = Ok (record { out = text })
differences_of_text (Err refused) = Err refused

-- What is answered of a work tree, where it was `w0` and is `w1`, and what is asked for stats was `s0` and is `s1`.
pub record FindsDifferences {W S : Type 0} (w : WorktreeOf W) (s : StatsOf S) (w0 w1 : W) (s0 s1 : S) (root : List ℕ) (entries : List IndexEntry)
    (details : List Detail) (o : Comparison) (specs : List PathSpec) (answer : Result Differences DiffError) : Type 0 where
  -- Over a told tree and told stats it is exactly what `git diff-files` prints, or the form that is not answered.
  pub gives : (outside : TreeAndStats) → Tells (w.told w0) (s.told s0) outside → AnswersAsDefined (differences_of_text (diff_files_text outside root entries details o specs)) answer
  -- a fault is told only where one was counted
  pub cause : IsErrOf answer errors.Fault → CountsFaultInEither w s w0 w1 s0 s1
  -- and none was counted that is not told
  pub unfaulted : HoldsUnlessFault answer (KeepsFaultCounts w s w0 w1 s0 s1)
  pub worktree : KeepsTreeAndListCounts w w0 w1
  pub stats : KeepsToldStats s s0 s1
