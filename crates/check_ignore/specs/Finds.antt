-- What a call promises that asks a work tree of paths.
use Rattle.std.specs.Prelude.{◌≡◌, Result, Some, IsErrOf, OnOk}
use Rattle.worktree_fs.specs.Causes.{CountIncreasedOrSaturated}
use Rattle.worktree_fs.specs.Kept.{KeepsTreeAndListCounts}
use Rattle.worktree_fs.specs.declared.answers.ReadError.{ReadError}
use Rattle.worktree_fs.specs.declared.answers.ReadError.TheVariants as read
use Rattle.worktree_fs.specs.declared.worktree.Worktree.{Ghosts as WorktreeOf}
use Rattle.worktree_fs.specs.Tree.{Names}
use Rattle.git_places.specs.Answers.{IsFoundOrOutOfMemory, IsFoundOrFailed}
use Rattle.gitbase_core.specs.Steps.{and_then}
use Rattle.check_ignore.specs.declared.stop.Stop.{Stop}
use Rattle.check_ignore.specs.declared.stop.Stop.TheVariants as stops

-- an answer is what is to be found, a refusal of it too, but for want of memory; it is never that the worktree failed
abbrev pub AnswersUnlessOutOfMemory : {A : Type 0} → Result A Stop → Result A Stop → Type 0
AnswersUnlessOutOfMemory result found = IsFoundOrOutOfMemory stops.Fault stops.OutOfMemory result found

-- over a told tree the answer is what is found in it; a fault has its cause, an answer hides none, and the worktree stays as it was
pub record FindsInTree {W A : Type 0} (w : WorktreeOf W) (before now : W) (found : Names → Result A Stop) (result : Result A Stop) : Type 0 where
  pub gives : (t : Names) → w.told before ≡ Some t → IsFoundOrFailed stops.Fault stops.OutOfMemory result (found t)
  pub cause : IsErrOf result stops.Fault → CountIncreasedOrSaturated (w.faults before) (w.faults now)
  pub unfaulted : OnOk result (w.faults now ≡ w.faults before)
  pub keeps : KeepsTreeAndListCounts w before now

-- the refusal that a refused look at the worktree is
abbrev pub stop_of_read_error : ReadError → Stop
stop_of_read_error read.Fault = stops.Fault
stop_of_read_error read.OutOfMemory = stops.OutOfMemory

infixl 10 ◌>>=◌
-- a step, and the next where it gives something
abbrev pub ◌>>=◌ : {A B : Type 0} → Result A Stop → (A → Result B Stop) → Result B Stop
first >>= next = and_then next first
