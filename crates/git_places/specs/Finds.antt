-- What a call that asks a worktree, owners, or both promises: over any refusals, and over those of this crate.
use Rattle.std.specs.Prelude.{◌≡◌, ◌⊎◌, Result, Some, IsErrOf}
use Rattle.worktree_fs.specs.declared.worktree.Worktree.{Ghosts as WorktreeOf}
use Rattle.worktree_fs.specs.declared.owners.Owners.{Ghosts as OwnersOf}
use Rattle.worktree_fs.specs.Causes.{CountIncreasedOrSaturated}
use Rattle.worktree_fs.specs.Kept.{KeepsTreeAndListCounts}
use Rattle.worktree_fs.specs.KeptOwners.{KeepsOwnershipAnswers}
use Rattle.worktree_fs.specs.Owners.{OwnershipByPath}
use Rattle.worktree_fs.specs.Tree.{Names}
use Rattle.git_places.specs.Answers.{IsFoundOrFailed, HoldsUnlessFault}
use Rattle.git_places.specs.declared.error.PlacesError.{PlacesError}
use Rattle.git_places.specs.declared.error.PlacesError.TheVariants as errors

-- over a told tree the answer is what is found in it; a fault has its cause, no other answer hides one, and the worktree stays as it was
pub record FindsInTreeByErrors {W A E : Type 0} (w : WorktreeOf W) (before now : W) (fault memory : E) (found : Names → Result A E) (result : Result A E) : Type 0 where
  pub gives : (t : Names) → w.told before ≡ Some t → IsFoundOrFailed fault memory result (found t)
  pub cause : IsErrOf result fault → CountIncreasedOrSaturated (w.faults before) (w.faults now)
  pub unfaulted : HoldsUnlessFault fault result (w.faults now ≡ w.faults before)
  pub keeps : KeepsTreeAndListCounts w before now

-- the same over told owners
pub record FindsInOwnersByErrors {O A E : Type 0} (o : OwnersOf O) (before now : O) (fault memory : E) (found : OwnershipByPath → Result A E) (result : Result A E) : Type 0 where
  pub gives : (owned : OwnershipByPath) → o.told before ≡ Some owned → IsFoundOrFailed fault memory result (found owned)
  pub cause : IsErrOf result fault → CountIncreasedOrSaturated (o.faults before) (o.faults now)
  pub unfaulted : HoldsUnlessFault fault result (o.faults now ≡ o.faults before)
  pub keeps : KeepsOwnershipAnswers o before now

-- the same over both: where a fault is answered one of them failed
pub record FindsInTreeAndOwnersByErrors {W O A E : Type 0} (w : WorktreeOf W) (o : OwnersOf O) (w0 w1 : W) (o0 o1 : O) (fault memory : E) (found : Names → OwnershipByPath → Result A E) (result : Result A E) : Type 0 where
  pub gives : (t : Names) (owned : OwnershipByPath) → w.told w0 ≡ Some t → o.told o0 ≡ Some owned → IsFoundOrFailed fault memory result (found t owned)
  pub cause : IsErrOf result fault → CountIncreasedOrSaturated (w.faults w0) (w.faults w1) ⊎ CountIncreasedOrSaturated (o.faults o0) (o.faults o1)
  pub unfaulted : HoldsUnlessFault fault result (w.faults w1 ≡ w.faults w0)
  pub owners_unfaulted : HoldsUnlessFault fault result (o.faults o1 ≡ o.faults o0)
  pub keeps : KeepsTreeAndListCounts w w0 w1
  pub owners : KeepsOwnershipAnswers o o0 o1

-- ---- the refusals of this crate

-- a call that asks a worktree alone, with `Fault` of this crate where the worktree failed
abbrev pub FindsInTree : {W A : Type 0} → WorktreeOf W → W → W → (Names → Result A PlacesError) → Result A PlacesError → Type 0
FindsInTree w before now found result = FindsInTreeByErrors w before now errors.Fault errors.OutOfMemory found result

-- a call that asks owners alone, with `Fault` of this crate where they failed
abbrev pub FindsInOwners : {O A : Type 0} → OwnersOf O → O → O → (OwnershipByPath → Result A PlacesError) → Result A PlacesError → Type 0
FindsInOwners o before now found result = FindsInOwnersByErrors o before now errors.Fault errors.OutOfMemory found result

-- a call that asks both, with `Fault` of this crate where one of them failed
abbrev pub FindsInTreeAndOwners : {W O A : Type 0} → WorktreeOf W → OwnersOf O → W → W → O → O → (Names → OwnershipByPath → Result A PlacesError) → Result A PlacesError → Type 0
FindsInTreeAndOwners w o w0 w1 o0 o1 found result = FindsInTreeAndOwnersByErrors w o w0 w1 o0 o1 errors.Fault errors.OutOfMemory found result
