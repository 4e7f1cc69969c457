-- What a step says that looks for what is answered of paths, over a worktree and then over owners too.
use Rattle.std.specs.Prelude.{◌≡◌, ◌⊎◌, Some, Result, Ok, Err, IfErr, IsErrOf, OnOk}
use Rattle.git_places.specs.Answers.{IsFoundOrFailed, HoldsUnlessFault}
use Rattle.worktree_fs.specs.declared.owners.Owners.{Ghosts as OwnersOf}
use Rattle.worktree_fs.specs.declared.worktree.Worktree.{Ghosts as WorktreeOf}
use Rattle.worktree_fs.specs.Causes.{CountIncreasedOrSaturated}
use Rattle.worktree_fs.specs.Kept.{KeepsTreeAndListCounts}
use Rattle.worktree_fs.specs.KeptOwners.{KeepsOwnershipAnswers}
use Rattle.worktree_fs.specs.Owners.{OwnershipByPath}
use Rattle.worktree_fs.specs.Tree.{Names}
use Rattle.tizhagor.specs.declared.refusal.CommandRefusal.{CommandRefusal}
use Rattle.tizhagor.specs.declared.reply.Reply.{Reply}
use Rattle.tizhagor.specs.Refusals.{fault, memory, MayComeBeforeSetupIsFound}

-- Over a told tree it is what is found there; where a fault is answered one was counted, and a reply hides none; and what stays.
pub record FindsReplyOverTree {W : Type 0} (w : WorktreeOf W) (w0 w1 : W) (found : Names → Result Reply CommandRefusal) (answer : Result Reply CommandRefusal) : Type 0 where
  pub gives : (t : Names) → w.told w0 ≡ Some t → IsFoundOrFailed fault memory answer (found t)
  pub cause : IsErrOf answer fault → CountIncreasedOrSaturated (w.faults w0) (w.faults w1)
  pub unfaulted : OnOk answer (w.faults w1 ≡ w.faults w0)
  pub keeps : KeepsTreeAndListCounts w w0 w1

-- The same over told owners too, with what the refusals are.
pub record FindsReplyOverTreeAndOwners {W O : Type 0} (w : WorktreeOf W) (o : OwnersOf O) (w0 w1 : W) (o0 o1 : O) (found : Names → OwnershipByPath → Result Reply CommandRefusal) (answer : Result Reply CommandRefusal) : Type 0 where
  pub gives : (t : Names) (owned : OwnershipByPath) → w.told w0 ≡ Some t → o.told o0 ≡ Some owned → IsFoundOrFailed fault memory answer (found t owned)
  pub of : IfErr answer MayComeBeforeSetupIsFound
  pub cause : IsErrOf answer fault → CountIncreasedOrSaturated (w.faults w0) (w.faults w1) ⊎ CountIncreasedOrSaturated (o.faults o0) (o.faults o1)
  pub unfaulted : OnOk answer (w.faults w1 ≡ w.faults w0)
  pub owners_unfaulted : HoldsUnlessFault fault answer (o.faults o1 ≡ o.faults o0)
  pub keeps : KeepsTreeAndListCounts w w0 w1
  pub owners : KeepsOwnershipAnswers o o0 o1

-- there is a reply
abbrev pub IsReplyNoRefusal : Result Reply CommandRefusal → Type 0
IsReplyNoRefusal (Ok reply) = Unit {0}
IsReplyNoRefusal (Err e) = ⊥
