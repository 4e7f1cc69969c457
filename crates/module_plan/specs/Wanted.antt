-- What a submodule asks for, by `.gitmodules` and the configuration: a step at a path, or why there is none.
use Rattle.std.specs.Prelude.{ℕ, List, Bool, true, false, Option, Some, None, Result, Ok, Err, is_err, if◌then◌else◌}
use Rattle.std.specs.List.{list_any}
use Rattle.gitbase_core.specs.Path.{is_empty, components, normalized}
use Rattle.gitbase_core.specs.Text.{is_dot_git_ignoring_case}
use Rattle.git_config_lite.specs.Sections.{Section, Configuration}
use Rattle.glob_rules.specs.PathSpec.{PathSpec}
use Rattle.submodule.specs.Access.{path, update, url}
use Rattle.submodule.specs.Active.{is_active, active_specs_or_error_of_config}
use Rattle.submodule.specs.declared.is_active_platform.Error.{Error as ActiveError}
use Rattle.submodule.specs.declared.path.Error.{Error as PathError}
use Rattle.submodule.specs.declared.update.Update.{Update}
use Rattle.submodule.specs.declared.update.Update.TheVariants as updates
use Rattle.submodule.specs.declared.update.Error.{Error as UpdateError}
use Rattle.submodule.specs.declared.update.Error.TheVariants as update_errors
use Rattle.module_plan.specs.declared.inputs.Asking.{Asking}
use Rattle.module_plan.specs.declared.step.StepKind.{StepKind}
use Rattle.module_plan.specs.declared.step.StepKind.TheVariants as kinds
use Rattle.module_plan.specs.declared.step.Why.{Why}
use Rattle.module_plan.specs.declared.step.Why.TheVariants as whys
use Rattle.module_plan.specs.declared.wanted.Wanted.{Wanted}

-- what a plan is made from: the sections of `.gitmodules` and its overrides, those of the configuration, and the path
-- specs of `submodule.active`, if it has values
pub record PlanInput : Type 0 where
  pub modules : List Section
  pub config : List Section
  pub specs : Option (List PathSpec)

-- what is asked of a plan, with these path specs
abbrev pub plan_input_of_asking : Asking → Option (List PathSpec) → PlanInput
plan_input_of_asking asking specs = record { modules = asking.modules.now.sections; config = asking.config.now.sections; specs = specs }

-- the specs, where they are not refused
abbrev pub specs_unless_refused : Result (Option (List PathSpec)) ActiveError → Option (List PathSpec)
specs_unless_refused (Ok specs) = specs
specs_unless_refused (Err e) = None

-- what a plan is made from, by the files; `fold` says whether letters fold in path specs
abbrev pub plan_input_of_configs : Bool → Configuration → Configuration → PlanInput
plan_input_of_configs fold modules config =
    record { modules = modules.sections; config = config.sections; specs = specs_unless_refused (active_specs_or_error_of_config fold config.sections) }

-- a submodule is not active, or what says whether it is is no boolean
abbrev pub reason_if_inactive : Result Bool (List ℕ) → Option Why
reason_if_inactive (Ok true) = None
reason_if_inactive (Ok false) = Some whys.Inactive
reason_if_inactive (Err text) = Some whys.BadActive

-- a path without empty components, `.` and `..`: it is not that of the root, and no component is `.git`
abbrev pub path_or_why_left_out : Option (List ℕ) → Result (List ℕ) Why
path_or_why_left_out None = Err whys.BadPath
path_or_why_left_out (Some path) =
    if is_empty path then Err whys.Root
    else if list_any is_dot_git_ignoring_case (components path) then Err whys.DotGit
    else Ok path

-- the path of a submodule below the root, or why it has none
abbrev pub submodule_path_or_why : Result (List ℕ) PathError → Result (List ℕ) Why
submodule_path_or_why (Ok path) = path_or_why_left_out (normalized path)
submodule_path_or_why (Err e) = Err whys.BadPath

-- the commit is checked out where nothing is said
abbrev pub step_kind_of_update : Option Update → Result StepKind Why
step_kind_of_update None = Ok kinds.Checkout
step_kind_of_update (Some updates.Checkout) = Ok kinds.Checkout
step_kind_of_update (Some updates.Rebase) = Ok kinds.Rebase
step_kind_of_update (Some updates.Merge) = Ok kinds.Merge
step_kind_of_update (Some (updates.Command command)) = Ok (kinds.Command command)
step_kind_of_update (Some updates.None) = Err whys.NoUpdate

-- the kind of step that a submodule asks for, or why there is none
abbrev pub kind : Result (Option Update) UpdateError → Result StepKind Why
kind (Ok update) = step_kind_of_update update
kind (Err (update_errors.Invalid name text)) = Err whys.BadUpdate
kind (Err (update_errors.CommandForbiddenInModulesConfiguration name command)) = Err whys.SharedCommand
kind (Err update_errors.OutOfMemory) = Err whys.BadUpdate

-- a submodule at this path, brought there by this kind of step
abbrev pub wanted_step_of_parts : List ℕ → StepKind → Wanted
wanted_step_of_parts path kind = record { path = path; kind = kind }

-- The first that fits says why there is no step: the submodule is not active, it has no path below the root, it has no way
-- to be updated, it has no url. Else there is one.
abbrev pub first_reason_or_wanted : Option Why → Result (List ℕ) Why → Result StepKind Why → Bool → Result Wanted Why
first_reason_or_wanted (Some why) path kind no_url = Err why
first_reason_or_wanted None (Err why) kind no_url = Err why
first_reason_or_wanted None (Ok path) (Err why) no_url = Err why
first_reason_or_wanted None (Ok path) (Ok kind) true = Err whys.BadUrl
first_reason_or_wanted None (Ok path) (Ok kind) false = Ok (wanted_step_of_parts path kind)

-- What the submodule of a name asks for.
abbrev pub step_wanted_by_submodule : PlanInput → List ℕ → Result Wanted Why
step_wanted_by_submodule asked name =
    first_reason_or_wanted (reason_if_inactive (is_active asked.specs asked.config name)) (submodule_path_or_why (path name asked.modules))
    (kind (update name asked.modules)) (is_err (url name asked.modules))
