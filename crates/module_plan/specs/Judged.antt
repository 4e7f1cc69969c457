-- The submodules once each has its verdict, in the order of their names.
use Rattle.std.specs.Prelude.{◌≡◌, ℕ, List, [], ◌∷◌, ◌++◌, Bool, Option, Result, Ok}
use Rattle.worktree_fs.specs.Tree.{Names}
use Rattle.submodule.specs.Names.{submodule_names_of_gitmodules}
use Rattle.module_plan.specs.declared.error.ModuleError.{ModuleError}
use Rattle.module_plan.specs.declared.error.ModuleError.TheVariants as errors
use Rattle.module_plan.specs.declared.step.ModulePlan.{ModulePlan}
use Rattle.module_plan.specs.declared.step.Verdict.{Verdict}
use Rattle.module_plan.specs.declared.step.Why.{Why}
use Rattle.module_plan.specs.declared.wanted.Wanted.{Wanted}
use Rattle.module_plan.specs.Wanted.{PlanInput, step_wanted_by_submodule}
use Rattle.module_plan.specs.Ways.{IsLookedAtUnlessTaken}
use Rattle.module_plan.specs.Verdicts.{AreVerdictsOnNames, is_path_wanted_by_any, steps_of_verdicts, skipped_of_verdicts}

-- a plan with a verdict more
pub record AddsVerdictToPlan (plan : ModulePlan) (v : Verdict) (more : ModulePlan) : Type 0 where
  pub steps : more.steps.items ≡ plan.steps.items ++ steps_of_verdicts (v ∷ [])
  pub skipped : more.skipped.items ≡ plan.skipped.items ++ skipped_of_verdicts (v ∷ [])

-- a plan has what these verdicts say, in their order
pub record IsPlanOfVerdicts (vs : List Verdict) (plan : ModulePlan) : Type 0 where
  pub steps : plan.steps.items ≡ steps_of_verdicts vs
  pub skipped : plan.skipped.items ≡ skipped_of_verdicts vs

-- each name of `.gitmodules` has its verdict
pub record HasVerdictForEachName (told : Option Names) (root : List ℕ) (asked : PlanInput) (plan : ModulePlan) : Type 0 where
  pub verdicts : List Verdict
  pub are : AreVerdictsOnNames told root asked [] (submodule_names_of_gitmodules asked.modules) verdicts
  pub holds : IsPlanOfVerdicts verdicts plan

-- why a submodule has no verdict: the worktree failed at a path that is looked at for its step
abbrev pub FailsLookingForSubmoduleStep : Option Names → List ℕ → Result Wanted Why → (List ℕ → Bool) → Type 0 → ModuleError → Type 0
FailsLookingForSubmoduleStep told root given is_taken Failed (errors.ActiveSpec value) = ⊥
FailsLookingForSubmoduleStep told root given is_taken Failed (errors.Fault path) =
    Failed × ((w : Wanted) × (given ≡ Ok w) × IsLookedAtUnlessTaken told root w (is_taken w.path) path)
FailsLookingForSubmoduleStep told root given is_taken Failed errors.OutOfMemory = Unit {0}

-- A path that is looked at for the step that a submodule asks for: on the way to its path, where no submodule of an
-- earlier name asks for a step there too.
pub record IsLookedAtForAnySubmodule (told : Option Names) (root : List ℕ) (asked : PlanInput) (path : List ℕ) : Type 0 where
  pub earlier : List (List ℕ)
  pub name : List ℕ
  pub later : List (List ℕ)
  pub is_name : submodule_names_of_gitmodules asked.modules ≡ earlier ++ name ∷ later
  pub w : Wanted
  pub wants_it : step_wanted_by_submodule asked name ≡ Ok w
  pub looks : IsLookedAtUnlessTaken told root w (is_path_wanted_by_any asked earlier w.path) path

-- why some module has none
abbrev pub FailsLookingForAnySubmodule : Option Names → List ℕ → PlanInput → Type 0 → ModuleError → Type 0
FailsLookingForAnySubmodule told root asked Failed (errors.ActiveSpec value) = ⊥
FailsLookingForAnySubmodule told root asked Failed (errors.Fault path) = Failed × IsLookedAtForAnySubmodule told root asked path
FailsLookingForAnySubmodule told root asked Failed errors.OutOfMemory = Unit {0}
