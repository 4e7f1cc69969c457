-- What is counted where a directory is opened, and who counted the cause of a refusal.
use Rattle.std.specs.Prelude.{◌≡◌, ◌≤◌, ◌+◌, ℕ, List, Option, Result, IfErr, OnOk}
use Rattle.worktree_fs.specs.declared.interrupt.Interrupt.{Ghosts as InterruptOf}
use Rattle.worktree_fs.specs.declared.worktree.Worktree.{Ghosts as WorktreeOf}
use Rattle.worktree_fs.specs.Causes.{CountIncreasedOrSaturated}
use Rattle.worktree_stack.specs.Setup.{StackSetup}
use Rattle.dir_classify.specs.declared.error.Error.{Error}
use Rattle.dir_classify.specs.Refused.{HoldsIfFaultError}
use Rattle.dir_walk.specs.declared.outcome.Outcome.{Outcome}
use Rattle.dir_walk.specs.Emissions.{Emission}
use Rattle.dir_walk.specs.Emits.{AddsEmissionsAndCounts}
use Rattle.dir_walk.specs.Kept.{HoldsIfInterrupted, HoldsIfListingFault}
use Rattle.dir_walk.specs.Opens.{CountsOpenedAndTooDeep}
use Rattle.dir_walk.specs.Refused.{IsWalkErrorWithinLimit}
use Rattle.dir_walk.specs.Report.{count_components}
use Rattle.dir_walk.specs.Unopened.{count_too_deep_error, count_unlisted_error}

-- One directory is counted as entered, and nothing as given or seen; the worktree counts it as listed, at most once, and reads nothing.
-- Where it is refused, it is counted so where its listing was asked for.
pub record CountsOpeningDirectory {W I T : Type 0} (w : WorktreeOf W) (i : InterruptOf I) (w0 w1 : W) (i0 i1 : I) (start stop : Outcome) (result : Result T Error) : Type 0 where
  pub counted : (given : Option (List Emission)) → OnOk result (AddsEmissionsAndCounts given given start stop (λ p. 0) 0 1)
  pub returned : stop.returned_entries ≡ start.returned_entries
  pub seen : stop.seen_entries ≡ start.seen_entries
  pub opens : OnOk result (CountsOpenedAndTooDeep w i w0 w1 i0 i1 start stop 1 0)
  pub tried : IfErr result (λ e. CountsOpenedAndTooDeep w i w0 w1 i0 i1 start stop (count_unlisted_error e) (count_too_deep_error e))
  pub once : w.lists w1 ≤ w.lists w0 + 1
  pub reads : w.reads w1 ≡ w.reads w0

-- A refusal is about this directory; the worktree counted a fault, and one of a listing, or the interrupt that it was raised. Where the
-- directory is opened, no listing failed and the interrupt was not raised.
pub record CausesOfOpeningRefusal {W I T : Type 0} (w : WorktreeOf W) (i : InterruptOf I) (w0 w1 : W) (i0 i1 : I) (root path : List ℕ) (result : Result T Error) : Type 0 where
  pub about : (made : Option StackSetup) (limit : ℕ) → count_components path ≤ limit → IfErr result (IsWalkErrorWithinLimit made root limit)
  pub fault : (before now : ℕ) → IfErr result (HoldsIfFaultError (CountIncreasedOrSaturated (w.faults w0) (w.faults w1)) (CountIncreasedOrSaturated before now))
  pub raised : IfErr result (HoldsIfInterrupted (CountIncreasedOrSaturated (i.raised i0) (i.raised i1)))
  pub listing : IfErr result (HoldsIfListingFault (CountIncreasedOrSaturated (w.list_faults w0) (w.list_faults w1)))
  pub listed : OnOk result (w.list_faults w1 ≡ w.list_faults w0)
  pub calm : OnOk result (i.raised i1 ≡ i.raised i0)
