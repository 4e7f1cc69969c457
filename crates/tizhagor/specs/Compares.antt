-- What a step says that asks a worktree and what is asked for stats, and then owners too.
use Rattle.std.specs.Prelude.{◌≡◌, ◌⊎◌, Some, Result, IfErr, IsErrOf}
use Rattle.diff_files.specs.KeptStats.{KeepsToldStats, CountsFaultInEither}
use Rattle.diff_files.specs.Stats.{StatsByPath}
use Rattle.diff_files.specs.declared.stats.Stats.{Ghosts as StatsOf}
use Rattle.git_places.specs.Answers.{IsFoundOrFailed, HoldsUnlessFault}
use Rattle.worktree_fs.specs.declared.owners.Owners.{Ghosts as OwnersOf}
use Rattle.worktree_fs.specs.declared.worktree.Worktree.{Ghosts as WorktreeOf}
use Rattle.worktree_fs.specs.Causes.{CountIncreasedOrSaturated}
use Rattle.worktree_fs.specs.Kept.{KeepsTreeAndListCounts}
use Rattle.worktree_fs.specs.KeptOwners.{KeepsOwnershipAnswers}
use Rattle.worktree_fs.specs.Owners.{OwnershipByPath}
use Rattle.worktree_fs.specs.Tree.{Names}
use Rattle.tizhagor.specs.declared.refusal.CommandRefusal.{CommandRefusal}
use Rattle.tizhagor.specs.Refusals.{fault, memory, MayComeBeforeSetupIsFound}

-- Over a told tree and told stats it is what is found there; a fault was counted, and whatever else is answered none was; and what stays.
pub record FindsOverTreeAndStats {W D A : Type 0} (w : WorktreeOf W) (d : StatsOf D) (w0 w1 : W) (d0 d1 : D) (found : Names → StatsByPath → Result A CommandRefusal) (answer : Result A CommandRefusal) : Type 0 where
  pub gives : (t : Names) (told : StatsByPath) → w.told w0 ≡ Some t → d.told d0 ≡ Some told → IsFoundOrFailed fault memory answer (found t told)
  pub cause : IsErrOf answer fault → CountsFaultInEither w d w0 w1 d0 d1
  pub unfaulted : HoldsUnlessFault fault answer (w.faults w1 ≡ w.faults w0)
  pub stats_unfaulted : HoldsUnlessFault fault answer (d.faults d1 ≡ d.faults d0)
  pub keeps : KeepsTreeAndListCounts w w0 w1
  pub stats : KeepsToldStats d d0 d1

-- the worktree failed, the owners did, or what is asked for stats did
abbrev pub WorktreeOwnersOrStatsFail : {W O D : Type 0} → WorktreeOf W → OwnersOf O → StatsOf D → W → W → O → O → D → D → Type 0
WorktreeOwnersOrStatsFail w o d w0 w1 o0 o1 d0 d1 =
    CountIncreasedOrSaturated (w.faults w0) (w.faults w1) ⊎ (CountIncreasedOrSaturated (o.faults o0) (o.faults o1) ⊎ CountIncreasedOrSaturated (d.faults d0) (d.faults d1))

-- The same over told owners too, with what the refusals are.
pub record FindsOverTreeOwnersAndStats {W O D A : Type 0} (w : WorktreeOf W) (o : OwnersOf O) (d : StatsOf D) (w0 w1 : W) (o0 o1 : O) (d0 d1 : D) (found : Names → OwnershipByPath → StatsByPath → Result A CommandRefusal) (answer : Result A CommandRefusal) : Type 0 where
  pub gives : (t : Names) (owned : OwnershipByPath) (told : StatsByPath) → w.told w0 ≡ Some t → o.told o0 ≡ Some owned → d.told d0 ≡ Some told → IsFoundOrFailed fault memory answer (found t owned told)
  pub of : IfErr answer MayComeBeforeSetupIsFound
  pub cause : IsErrOf answer fault → WorktreeOwnersOrStatsFail w o d w0 w1 o0 o1 d0 d1
  pub unfaulted : HoldsUnlessFault fault answer (w.faults w1 ≡ w.faults w0)
  pub owners_unfaulted : HoldsUnlessFault fault answer (o.faults o1 ≡ o.faults o0)
  pub stats_unfaulted : HoldsUnlessFault fault answer (d.faults d1 ≡ d.faults d0)
  pub keeps : KeepsTreeAndListCounts w w0 w1
  pub owners : KeepsOwnershipAnswers o o0 o1
  pub stats : KeepsToldStats d d0 d1
