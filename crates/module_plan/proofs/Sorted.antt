-- The plan, once each submodule has its verdict and the steps are sorted.
use Rattle.std.proofs.Common.{◌≡◌, ℕ, List, [], Bool, Option, Some, Ok, IsPermutation, sym, ap, ◌∙◌, subst}
use Rattle.git_config_lite.specs.Sections.{Configuration}
use Rattle.glob_rules.specs.PathSpec.{PathSpec}
use Rattle.worktree_fs.specs.Tree.{Names}
use Rattle.submodule.specs.Active.{active_specs_or_error_of_config}
use Rattle.submodule.specs.Names.{submodule_names_of_gitmodules}
use Rattle.module_plan.specs.declared.step.ModulePlan.{ModulePlan}
use Rattle.module_plan.specs.declared.step.Step.{Step}
use Rattle.module_plan.specs.declared.step.Verdict.{Verdict}
use Rattle.module_plan.specs.Judged.{HasVerdictForEachName}
use Rattle.module_plan.specs.Plans.{HasNoObstacles, HasOnlySafeSteps, HaveDistinctPaths, IsSortedPlanOfVerdicts, IsPlanOfPossibleVerdicts, verdicts_on_all_submodules}
use Rattle.module_plan.specs.Verdicts.{steps_of_verdicts}
use Rattle.module_plan.specs.Wanted.{PlanInput, plan_input_of_configs, specs_unless_refused}
use Rattle.module_plan.proofs.Distinct.{distinct-steps, verdicts-told}
use Rattle.module_plan.proofs.Safe.{open-plan, safe-plan}

abbrev pub asked_with : Configuration → Configuration → Option (List PathSpec) → PlanInput
asked_with modules config specs = record { modules = modules.sections; config = config.sections; specs = specs }

pub asked-is : (fold : Bool) (modules config : Configuration) (specs : Option (List PathSpec)) → active_specs_or_error_of_config fold config.sections ≡ Ok specs
    → asked_with modules config specs ≡ plan_input_of_configs fold modules config
asked-is fold modules config specs e = ap (λ r. asked_with modules config (specs_unless_refused r)) (sym e)

module _ (told : Option Names) (root : List ℕ) (by asked : PlanInput) (same : by ≡ asked) (judged : ModulePlan) (are : HasVerdictForEachName told root by judged) where
  pub distinct-judged : HaveDistinctPaths judged.steps.items
  distinct-judged =
      subst HaveDistinctPaths (sym are.holds.steps) (distinct-steps told root by (submodule_names_of_gitmodules by.modules) are.verdicts are.are)

  module _ (sorted : ModulePlan) (moved : IsPermutation judged.steps.items sorted.steps.items) (kept : sorted.skipped.items ≡ judged.skipped.items) where
    moved-steps : IsPermutation (steps_of_verdicts are.verdicts) sorted.steps.items
    moved-steps = subst (λ (steps : List Step). IsPermutation steps sorted.steps.items) are.holds.steps moved

    plan-is : IsSortedPlanOfVerdicts are.verdicts sorted
    plan-is = record { steps = moved-steps; skipped = kept ∙ are.holds.skipped }

    pub planned-possible : IsPlanOfPossibleVerdicts told root asked sorted
    planned-possible =
        subst (λ (a : PlanInput). IsPlanOfPossibleVerdicts told root a sorted) same (record { verdicts = are.verdicts; are = are.are; plan_is = plan-is })

    pub planned-told : (t : Names) → told ≡ Some t → IsSortedPlanOfVerdicts (verdicts_on_all_submodules t root asked) sorted
    planned-told t tells =
        subst (λ (a : PlanInput). IsSortedPlanOfVerdicts (verdicts_on_all_submodules t root a) sorted) same
        (subst (λ (vs : List Verdict). IsSortedPlanOfVerdicts vs sorted) (verdicts-told told t root by [] (submodule_names_of_gitmodules by.modules) are.verdicts tells are.are) plan-is)

    pub planned-safe : HasOnlySafeSteps asked sorted
    planned-safe =
        subst (λ (a : PlanInput). HasOnlySafeSteps a sorted) same
        (safe-plan told root by (submodule_names_of_gitmodules by.modules) are.verdicts sorted.steps.items are.are moved-steps)

    pub planned-open : (t : Names) → told ≡ Some t → HasNoObstacles t root sorted
    planned-open t tells = open-plan told t root by (submodule_names_of_gitmodules by.modules) are.verdicts sorted.steps.items tells are.are moved-steps
