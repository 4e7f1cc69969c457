-- The plan of an update.
use Rattle.std.specs.Prelude.{◌≡◌, ℕ, List, [], ◌∷◌, map, true, false, Option, Some, None, Result, Ok, Err, IsPermutation, bytes_eq}
use Rattle.std.specs.Cmp.Lexicographic.{slice_cmp}
use Rattle.std.specs.List.{All, IsDistinct, list_any}
use Rattle.std.specs.List.Sorted.{IsStrictlySortedBy}
use Rattle.std.specs.Ordering.{nat_cmp}
use Rattle.gitbase_core.specs.Path.{components, is_empty, normalized}
use Rattle.git_config_lite.specs.declared.metadata.Source.{Source}
use Rattle.glob_rules.specs.PathSpec.{PathSpec}
use Rattle.worktree_fs.specs.Tree.{Names}
use Rattle.submodule.specs.Access.{update_value_and_source, is_valid_submodule_path, path}
use Rattle.submodule.specs.Names.{is_gitmodules_source, submodule_names_of_gitmodules}
use Rattle.submodule.specs.declared.path.Error.{Error as PathError}
use Rattle.submodule.specs.declared.is_active_platform.Error.{Error as ActiveError}
use Rattle.submodule.specs.declared.is_active_platform.Error.TheVariants as active_errors
use Rattle.module_plan.specs.declared.error.ModuleError.{ModuleError}
use Rattle.module_plan.specs.declared.error.ModuleError.TheVariants as errors
use Rattle.module_plan.specs.declared.step.ModulePlan.{ModulePlan}
use Rattle.module_plan.specs.declared.step.Step.{Step}
use Rattle.module_plan.specs.declared.step.StepKind.{StepKind}
use Rattle.module_plan.specs.declared.step.StepKind.TheVariants as kinds
use Rattle.module_plan.specs.declared.step.Verdict.{Verdict}
use Rattle.module_plan.specs.Judged.{IsLookedAtForAnySubmodule}
use Rattle.module_plan.specs.Verdicts.{AreVerdictsOnNames, verdicts_on_names_after_earlier, steps_of_verdicts, skipped_of_verdicts}
use Rattle.gitbase_core.specs.Text.{is_dot_git_ignoring_case}
use Rattle.module_plan.specs.Wanted.{PlanInput}
use Rattle.module_plan.specs.Ways.{first_obstacle_on_way}

-- What becomes of each submodule that `.gitmodules` names, in the order of the names.
abbrev pub verdicts_on_all_submodules : Names → List ℕ → PlanInput → List Verdict
verdicts_on_all_submodules t root asked = verdicts_on_names_after_earlier t root asked [] (submodule_names_of_gitmodules asked.modules)

-- A plan of these verdicts: their steps in the order of the paths, and what is left out in the order in which `.gitmodules` first tells
-- the names.
pub record IsSortedPlanOfVerdicts (vs : List Verdict) (plan : ModulePlan) : Type 0 where
  pub steps : IsPermutation (steps_of_verdicts vs) plan.steps.items
  pub skipped : plan.skipped.items ≡ skipped_of_verdicts vs

-- where the worktree tells nothing too, each name has one verdict, open but for what bars the way
pub record IsPlanOfPossibleVerdicts (told : Option Names) (root : List ℕ) (asked : PlanInput) (plan : ModulePlan) : Type 0 where
  pub verdicts : List Verdict
  pub are : AreVerdictsOnNames told root asked [] (submodule_names_of_gitmodules asked.modules) verdicts
  pub plan_is : IsSortedPlanOfVerdicts verdicts plan

-- the path of a step
abbrev pub path_of_step : Step → List ℕ
path_of_step step = step.path

-- the paths ascend strictly, byte by byte
abbrev pub IsStrictlySortedByPath : List Step → Type 0
IsStrictlySortedByPath steps = IsStrictlySortedBy (slice_cmp nat_cmp) (map path_of_step steps)

-- a command is what a section other than those of `.gitmodules` says behind a `!`, and that section decides
abbrev pub IsCommandNotFromGitmodules : Option (List ℕ × Source) → StepKind → Type 0
IsCommandNotFromGitmodules found (kinds.Command command) = (source : Source) × (found ≡ Some (33 ∷ command, source)) × (is_gitmodules_source source ≡ false)
IsCommandNotFromGitmodules found kinds.Checkout = Unit {0}
IsCommandNotFromGitmodules found kinds.Rebase = Unit {0}
IsCommandNotFromGitmodules found kinds.Merge = Unit {0}

-- a path that is what a text leads to, without empty components, `.` and `..`; the text is not absolute and does not lead out
pub record IsNormalizedInsidePath (given : Result (List ℕ) PathError) (path : List ℕ) : Type 0 where
  pub text : List ℕ
  pub is_given : given ≡ Ok text
  pub is_inside : is_valid_submodule_path text ≡ true
  pub leads_to : normalized text ≡ Some path

-- a step that may be taken: inside the root and below it, nowhere in a git directory, and by no command that came with the
-- repository
pub record IsSafeStep (asked : PlanInput) (step : Step) : Type 0 where
  pub inside : IsNormalizedInsidePath (path step.name asked.modules) step.path
  pub below : is_empty step.path ≡ false
  pub no_git : list_any is_dot_git_ignoring_case (components step.path) ≡ false
  pub command : IsCommandNotFromGitmodules (update_value_and_source step.name asked.modules) step.kind

-- each step is safe over the tree
abbrev pub HasOnlySafeSteps : PlanInput → ModulePlan → Type 0
HasOnlySafeSteps asked plan = All (IsSafeStep asked) plan.steps.items

-- no link is on the way to a step's path or there, and no other node that is not a directory
abbrev pub HasNoObstacles : Names → List ℕ → ModulePlan → Type 0
HasNoObstacles t root plan = All (λ step. first_obstacle_on_way t root (components step.path) ≡ None) plan.steps.items

-- ---- refusals

-- the number of the value of `submodule.active` that is refused, if one is
abbrev pub index_of_refused_active_value : Result (Option (List PathSpec)) ActiveError → Option ℕ
index_of_refused_active_value (Ok specs) = None
index_of_refused_active_value (Err (active_errors.ParsePattern value at)) = Some value
index_of_refused_active_value (Err (active_errors.NormalizePattern value)) = Some value
index_of_refused_active_value (Err active_errors.OutOfMemory) = None

-- why there is no plan: a value of `submodule.active` is refused; or none is, and the worktree failed at a path that is
-- looked at
abbrev pub RefusesPlanWithCause : Option Names → List ℕ → PlanInput → Option ℕ → Type 0 → ModuleError → Type 0
RefusesPlanWithCause told root asked refused Failed (errors.ActiveSpec value) = refused ≡ Some value
RefusesPlanWithCause told root asked refused Failed (errors.Fault path) = (refused ≡ None) × Failed × IsLookedAtForAnySubmodule told root asked path
RefusesPlanWithCause told root asked refused Failed errors.OutOfMemory = Unit {0}

-- the value is the one that is refused; want of memory is free
abbrev pub RefusesActiveValue : Option ℕ → ModuleError → Type 0
RefusesActiveValue refused (errors.ActiveSpec value) = refused ≡ Some value
RefusesActiveValue refused (errors.Fault path) = ⊥
RefusesActiveValue refused errors.OutOfMemory = Unit {0}

-- no two steps have one path
abbrev pub HaveDistinctPaths : List Step → Type 0
HaveDistinctPaths steps = IsDistinct bytes_eq (map path_of_step steps)
