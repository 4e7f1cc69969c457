-- What a call promises that asks a work tree what rules exclude.
use Rattle.std.specs.Prelude.{◌≡◌, ◌⊎◌, Result, Ok, Err, Some, IsErrOf, OnOk}
use Rattle.worktree_fs.specs.Causes.{CountIncreasedOrSaturated}
use Rattle.worktree_fs.specs.Kept.{KeepsTreeAndListCounts}
use Rattle.worktree_fs.specs.declared.answers.ReadError.{ReadError}
use Rattle.worktree_fs.specs.declared.answers.ReadError.TheVariants as reads
use Rattle.worktree_fs.specs.declared.worktree.Worktree.{Ghosts as WorktreeOf}
use Rattle.worktree_fs.specs.Tree.{Names}
use Rattle.ls_files.specs.declared.excluded_error.ExcludedError.{ExcludedError}
use Rattle.ls_files.specs.declared.excluded_error.ExcludedError.TheVariants as errors

-- the refusal that a refused look at the worktree is
abbrev pub excluded_error_of_read_error : ReadError → ExcludedError
excluded_error_of_read_error reads.Fault = errors.Fault
excluded_error_of_read_error reads.OutOfMemory = errors.OutOfMemory

-- an answer is what is to be found, a refusal of it too; the worktree may fail instead, and memory may be wanted
abbrev pub AnswersFoundUnlessFault : {A : Type 0} → Result A ExcludedError → Result A ExcludedError → Type 0
AnswersFoundUnlessFault (Ok answer) found = found ≡ Ok answer
AnswersFoundUnlessFault (Err e) found = (found ≡ Err e) ⊎ ((e ≡ errors.Fault) ⊎ (e ≡ errors.OutOfMemory))

-- over a told tree the answer is what is found in it; a fault has its cause, an answer hides none, and the worktree stays as it was
pub record FindsInWorktree {W A : Type 0} (w : WorktreeOf W) (before now : W) (found : Names → Result A ExcludedError) (result : Result A ExcludedError) : Type 0 where
  pub gives : (t : Names) → w.told before ≡ Some t → AnswersFoundUnlessFault result (found t)
  pub cause : IsErrOf result errors.Fault → CountIncreasedOrSaturated (w.faults before) (w.faults now)
  pub unfaulted : OnOk result (w.faults now ≡ w.faults before)
  pub keeps : KeepsTreeAndListCounts w before now
