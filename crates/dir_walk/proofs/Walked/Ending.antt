-- How a call ends that goes on behind another one.
use Rattle.std.proofs.Common.{◌≡◌, ◌≤◌, ℕ, Result, Ok, Err, refl, ◌∙◌, arith, subst}
use Rattle.gitbase_core.specs.declared.find.Find.{Ghosts as FindOf}
use Rattle.worktree_fs.specs.declared.interrupt.Interrupt.{Ghosts as InterruptOf}
use Rattle.worktree_fs.specs.declared.worktree.Worktree.{Ghosts as WorktreeOf}
use Rattle.worktree_fs.specs.Causes.{CountIncreasedOrSaturated}
use Rattle.dir_classify.specs.declared.error.Error.{Error}
use Rattle.dir_classify.specs.Refused.{HoldsIfFaultError}
use Rattle.dir_walk.specs.declared.handed.Stop.{Stop}
use Rattle.dir_walk.specs.declared.handed.Stop.TheVariants.{Refused, Broken}
use Rattle.dir_walk.specs.Given.{HoldsUnlessRefused}
use Rattle.dir_walk.specs.Kept.{CountsCausesOfRefusals, HoldsIfInterrupted, HoldsIfListingFault, RefusesOnlyOutOfMemory}
use Rattle.dir_walk.proofs.Refused.Refusals.{memory-only}

fault-later : (a b c k l m : ℕ) (e : Error) → a ≤ b → k ≤ l → HoldsIfFaultError (CountIncreasedOrSaturated b c) (CountIncreasedOrSaturated l m) e → HoldsIfFaultError (CountIncreasedOrSaturated a c) (CountIncreasedOrSaturated k m) e
fault-later a b c k l m e one two h = grind arith

interrupt-later : (a b c : ℕ) (e : Error) → a ≤ b → HoldsIfInterrupted (CountIncreasedOrSaturated b c) e → HoldsIfInterrupted (CountIncreasedOrSaturated a c) e
interrupt-later a b c e one h = grind arith

pub always : {T : Type 0} {P : Type 0} (result : Result T Stop) → P → HoldsUnlessRefused result P
always (Ok done) p = p
always (Err Broken) p = p
always (Err (Refused e)) p = tt

module _ {W F I T : Type 0} {w : WorktreeOf W} {f : FindOf F} {i : InterruptOf I} where
  -- what was before raised no count that a refusal names
  pub Caused-later : {w0 w1 w2 : W} {o0 o1 o2 : F} {i0 i1 i2 : I} (result : Result T Stop) → w.faults w0 ≤ w.faults w1 → f.faults o0 ≤ f.faults o1 → i.raised i1 ≡ i.raised i0
      → w.list_faults w1 ≡ w.list_faults w0 → CountsCausesOfRefusals w f i w1 w2 o1 o2 i1 i2 result → CountsCausesOfRefusals w f i w0 w2 o0 o2 i0 i2 result
  Caused-later (Ok done) faults stores raised lists later = record { fault = tt; interrupt = tt; listing = tt; listed = later.listed ∙ lists; calm = later.calm ∙ raised }
  Caused-later (Err Broken) faults stores raised lists later = record { fault = tt; interrupt = tt; listing = tt; listed = later.listed ∙ lists; calm = later.calm ∙ raised }
  Caused-later {w0} {w1} {w2} {o0} {o1} {o2} {i0} {i1} {i2} (Err (Refused e)) faults stores raised lists later =
      record {
        fault = fault-later (w.faults w0) (w.faults w1) (w.faults w2) (f.faults o0) (f.faults o1) (f.faults o2) e faults stores later.fault;
        interrupt = interrupt-later (i.raised i0) (i.raised i1) (i.raised i2) e (omega (arith, raised)) later.interrupt;
        listing = subst (λ (n : ℕ). HoldsIfListingFault (CountIncreasedOrSaturated n (w.list_faults w2)) e) lists later.listing;
        listed = tt;
        calm = tt;
      }

  -- where only memory may be wanted
  pub Caused-memory : {w0 : W} {o0 : F} {i0 : I} (result : Result T Stop) → RefusesOnlyOutOfMemory result → CountsCausesOfRefusals w f i w0 w0 o0 o0 i0 i0 result
  Caused-memory result memory = record { fault = memory-only result _ tt memory; interrupt = memory-only result _ tt memory; listing = memory-only result _ tt memory; listed = always result refl; calm = always result refl }
