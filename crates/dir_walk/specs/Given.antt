-- What a delegate was given and answered, and how a walk ends before it is done.
use Rattle.std.specs.Prelude.{◌≡◌, ℕ, Bool, true, false, List, [], ◌∷◌, ◌++◌, Option, Some, None, Result, Ok, Err, is_some}
use Rattle.worktree_fs.specs.Causes.{CountIncrementedOrSaturated}
use Rattle.dir_classify.specs.declared.error.Error.{Error}
use Rattle.dir_walk.specs.declared.delegate.Action.{Action}
use Rattle.dir_walk.specs.declared.delegate.Action.TheVariants.{Continue, Break}
use Rattle.dir_walk.specs.declared.handed.Stop.{Stop}
use Rattle.dir_walk.specs.declared.handed.Stop.TheVariants.{Refused, Broken}
use Rattle.dir_walk.specs.Emissions.{Emission}

-- what was given, and one more, where that is told
abbrev pub append_emission_if_told : Option (List Emission) → Emission → Option (List Emission)
append_emission_if_told None emission = None
append_emission_if_told (Some emissions) emission = Some (emissions ++ emission ∷ [])

-- what was given, where that is told; nothing where it is not
abbrev pub emissions_or_empty : Option (List Emission) → List Emission
emissions_or_empty None = []
emissions_or_empty (Some emissions) = emissions

-- what was given before stands in front of what was given since
pub record ExtendsEmissions (before after : Option (List Emission)) : Type 0 where
  pub same : is_some after ≡ is_some before
  pub front : (emissions : List Emission) → before ≡ Some emissions → (more : List Emission) × (after ≡ Some (emissions ++ more))

-- ---- answers

-- what holds where a delegate answered Break
abbrev pub HoldsIfBreak : {E : Type 0} → Result Action E → Type 0 → Type 0
HoldsIfBreak (Ok Break) Holds = Holds
HoldsIfBreak (Ok Continue) Holds = Unit {0}
HoldsIfBreak (Err e) Holds = Unit {0}

-- and what holds where it did not
abbrev pub HoldsUnlessBreak : {E : Type 0} → Result Action E → Type 0 → Type 0
HoldsUnlessBreak (Ok Break) Holds = Unit {0}
HoldsUnlessBreak (Ok Continue) Holds = Holds
HoldsUnlessBreak (Err e) Holds = Holds

-- and where it answered Continue
abbrev pub HoldsIfContinue : {E : Type 0} → Result Action E → Type 0 → Type 0
HoldsIfContinue (Ok Break) Holds = Unit {0}
HoldsIfContinue (Ok Continue) Holds = Holds
HoldsIfContinue (Err e) Holds = Unit {0}

-- ---- recursion

-- Whether a delegate looks into a path whose status says the one or the other, and its refusals before and afterwards: it counts one
-- where it answers no and its status says yes, and none otherwise.
abbrev pub CountsRecursionRefusal : Bool → Bool → ℕ → ℕ → Type 0
CountsRecursionRefusal true false before after = CountIncrementedOrSaturated before after
CountsRecursionRefusal true true before after = after ≡ before
CountsRecursionRefusal false answer before after = after ≡ before

-- ---- ends

-- what holds of the refusal where a walk was refused
abbrev pub HoldsOfErrorIfRefused : (Error → Type 0) → Stop → Type 0
HoldsOfErrorIfRefused Holds (Refused error) = Holds error
HoldsOfErrorIfRefused Holds Broken = Unit {0}

-- what holds where a delegate broke it off
abbrev pub HoldsIfBroken : Type 0 → Stop → Type 0
HoldsIfBroken Holds (Refused error) = Unit {0}
HoldsIfBroken Holds Broken = Holds

-- what holds where it was not refused
abbrev pub HoldsUnlessRefused : {T : Type 0} → Result T Stop → Type 0 → Type 0
HoldsUnlessRefused (Ok done) Holds = Holds
HoldsUnlessRefused (Err Broken) Holds = Holds
HoldsUnlessRefused (Err (Refused error)) Holds = Unit {0}
