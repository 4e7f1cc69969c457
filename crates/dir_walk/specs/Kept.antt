-- What a walk leaves of the interrupt and of the delegate, and how it ends.
use Rattle.std.specs.Prelude.{◌≡◌, ◌≤◌, ◌-◌, true, Result, IfErr, OnOk}
use Rattle.gitbase_core.specs.declared.find.Find.{Ghosts as FindOf}
use Rattle.worktree_fs.specs.declared.interrupt.Interrupt.{Ghosts as InterruptOf}
use Rattle.worktree_fs.specs.declared.worktree.Worktree.{Ghosts as WorktreeOf}
use Rattle.worktree_fs.specs.Causes.{CountIncreasedOrSaturated, CountIncrementedOrSaturated, saturating_sum}
use Rattle.dir_classify.specs.declared.error.Error.{Error}
use Rattle.dir_classify.specs.declared.error.Error.TheVariants as errors
use Rattle.dir_classify.specs.declared.error.ReadWhy.TheVariants as reads
use Rattle.dir_classify.specs.Refused.{HoldsIfFaultError}
use Rattle.dir_walk.specs.declared.delegate.Delegate.{Ghosts as DelegateOf}
use Rattle.dir_walk.specs.declared.handed.Stop.{Stop}
use Rattle.dir_walk.specs.Given.{ExtendsEmissions, HoldsOfErrorIfRefused, HoldsIfBroken, HoldsUnlessRefused}

-- a worktree that was walked; no count of it falls
pub record KeepsWorktree {W : Type 0} (w : WorktreeOf W) (before now : W) : Type 0 where
  pub tree : w.told now ≡ w.told before
  pub faults : w.faults before ≤ w.faults now
  pub list_faults : w.list_faults before ≤ w.list_faults now
  pub reads : w.reads before ≤ w.reads now
  pub lists : w.lists before ≤ w.lists now
  pub precomposes : w.precomposes now ≡ w.precomposes before

-- an interrupt that was asked at least as often as it was raised
pub record AsksInterruptPerRaise {I : Type 0} (i : InterruptOf I) (before now : I) : Type 0 where
  pub questions : saturating_sum (i.questions before) (i.raised now - i.raised before) ≤ i.questions now
  pub raised : i.raised before ≤ i.raised now

-- a delegate that was given entries
pub record KeepsDelegateRunning {D : Type 0} (d : DelegateOf D) (before now : D) : Type 0 where
  pub default : d.is_default now ≡ d.is_default before
  pub given : ExtendsEmissions (d.given before) (d.given now)
  pub breaks : d.breaks before ≤ d.breaks now
  pub refusals : d.refusals before ≤ d.refusals now

-- A walk ends where the delegate answers Break, which it counted once and answered last, and only there is it broken off.
pub record HeedsDelegateBreak {D T : Type 0} (d : DelegateOf D) (before now : D) (result : Result T Stop) : Type 0 where
  pub broken : IfErr result (HoldsIfBroken (CountIncrementedOrSaturated (d.breaks before) (d.breaks now)))
  pub stopped : IfErr result (HoldsIfBroken (d.is_stopped now ≡ true))
  pub unbroken : IfErr result (HoldsOfErrorIfRefused (λ _. d.breaks now ≡ d.breaks before))
  pub kept_on : OnOk result (d.breaks now ≡ d.breaks before)

-- what holds where the interrupt was raised
abbrev pub HoldsIfInterrupted : Type 0 → Error → Type 0
HoldsIfInterrupted Raised errors.Interrupted = Raised
HoldsIfInterrupted Raised (errors.WorktreeRootIsFile root) = Unit {0}
HoldsIfInterrupted Raised (errors.NormalizeRoot root) = Unit {0}
HoldsIfInterrupted Raised (errors.SymlinkInRoot root worktree_root index) = Unit {0}
HoldsIfInterrupted Raised (errors.ExcludesAccess e) = Unit {0}
HoldsIfInterrupted Raised (errors.ReadDir path why) = Unit {0}
HoldsIfInterrupted Raised (errors.DirEntry path) = Unit {0}
HoldsIfInterrupted Raised (errors.SymlinkMetadata path why) = Unit {0}
HoldsIfInterrupted Raised (errors.TooDeep path) = Unit {0}
HoldsIfInterrupted Raised errors.OutOfMemory = Unit {0}

-- what holds where a listing failed
abbrev pub HoldsIfListingFault : Type 0 → Error → Type 0
HoldsIfListingFault Failed errors.Interrupted = Unit {0}
HoldsIfListingFault Failed (errors.WorktreeRootIsFile root) = Unit {0}
HoldsIfListingFault Failed (errors.NormalizeRoot root) = Unit {0}
HoldsIfListingFault Failed (errors.SymlinkInRoot root worktree_root index) = Unit {0}
HoldsIfListingFault Failed (errors.ExcludesAccess e) = Unit {0}
HoldsIfListingFault Failed (errors.ReadDir path reads.Absent) = Unit {0}
HoldsIfListingFault Failed (errors.ReadDir path reads.NotADirectory) = Unit {0}
HoldsIfListingFault Failed (errors.ReadDir path reads.Fault) = Failed
HoldsIfListingFault Failed (errors.DirEntry path) = Failed
HoldsIfListingFault Failed (errors.SymlinkMetadata path why) = Unit {0}
HoldsIfListingFault Failed (errors.TooDeep path) = Unit {0}
HoldsIfListingFault Failed errors.OutOfMemory = Unit {0}

-- Each refusal that a fault or the interrupt caused was counted by them; where there is none, neither a listing failed
-- nor was the interrupt raised.
pub record CountsCausesOfRefusals {W F I T : Type 0} (w : WorktreeOf W) (f : FindOf F) (i : InterruptOf I) (w0 w1 : W) (o0 o1 : F) (i0 i1 : I) (result : Result T Stop) : Type 0 where
  pub fault : IfErr result (HoldsOfErrorIfRefused (HoldsIfFaultError (CountIncreasedOrSaturated (w.faults w0) (w.faults w1)) (CountIncreasedOrSaturated (f.faults o0) (f.faults o1))))
  pub interrupt : IfErr result (HoldsOfErrorIfRefused (HoldsIfInterrupted (CountIncreasedOrSaturated (i.raised i0) (i.raised i1))))
  pub listing : IfErr result (HoldsOfErrorIfRefused (HoldsIfListingFault (CountIncreasedOrSaturated (w.list_faults w0) (w.list_faults w1))))
  pub listed : HoldsUnlessRefused result (w.list_faults w1 ≡ w.list_faults w0)
  pub calm : HoldsUnlessRefused result (i.raised i1 ≡ i.raised i0)

-- the one refusal that may come at any time
abbrev pub RefusesOnlyOutOfMemory : {T : Type 0} → Result T Stop → Type 0
RefusesOnlyOutOfMemory result = IfErr result (HoldsOfErrorIfRefused (λ e. e ≡ errors.OutOfMemory))
