-- Steps that may be taken.
use Rattle.std.proofs.Common.{◌≡◌, ℕ, List, [], ◌∷◌, ◌++◌, ◌==◌, Bool, true, false, bytes_eq, Option, Some, None, Result, Ok, Err, refl, sym, ap, ◌∙◌, subst, IsPermutation}
use Rattle.std.specs.Prelude.{codes, is_err, if◌then◌else◌}
use Rattle.std.specs.List.{All, AllByRecursion, list_any}
use Rattle.std.proofs.lemmas.Bool.{eqb-true}
use Rattle.std.proofs.lemmas.List.Elements.{All-from_recursion}
use Rattle.std.proofs.lemmas.List.Sorted.{All-permutation}
use Rattle.gitbase_core.specs.Path.{components, is_empty, normalized}
use Rattle.git_config_lite.specs.declared.metadata.Source.{Source}
use Rattle.worktree_fs.specs.Tree.{Names}
use Rattle.submodule.specs.Access.{update_unless_gitmodules_command, update_value_and_source, update_of_optional_value, update_allowed_or_error, update_result_as_some}
use Rattle.submodule.specs.Access as access
use Rattle.submodule.specs.Active.{is_active}
use Rattle.submodule.specs.Names.{is_gitmodules_source}
use Rattle.submodule.specs.Overrides.{value}
use Rattle.submodule.specs.Updates.{parse_update_command, parse_update}
use Rattle.submodule.specs.declared.path.Error.{Error as PathError}
use Rattle.submodule.specs.declared.update.Error.TheVariants as update_errors
use Rattle.submodule.specs.declared.update.Update.{Update}
use Rattle.submodule.specs.declared.update.Update.TheVariants as updates
use Rattle.module_plan.specs.declared.step.Step.{Step}
use Rattle.module_plan.specs.declared.step.StepKind.{StepKind}
use Rattle.module_plan.specs.declared.step.StepKind.TheVariants as kinds
use Rattle.module_plan.specs.declared.step.Verdict.{Verdict}
use Rattle.module_plan.specs.declared.step.Why.{Why}
use Rattle.module_plan.specs.declared.step.Why.TheVariants as whys
use Rattle.module_plan.specs.declared.wanted.Wanted.{Wanted}
use Rattle.module_plan.specs.Plans.{IsCommandNotFromGitmodules, IsSafeStep}
use Rattle.module_plan.specs.Verdicts.{AreVerdictsOnNames, is_path_wanted_by_any, steps_of_verdicts}
use Rattle.gitbase_core.specs.Text.{is_dot_git_ignoring_case}
use Rattle.module_plan.specs.Wanted.{PlanInput, first_reason_or_wanted, kind, submodule_path_or_why, path_or_why_left_out, step_wanted_by_submodule, reason_if_inactive, wanted_step_of_parts}
use Rattle.module_plan.specs.Ways.{first_obstacle_on_way}
use Rattle.module_plan.proofs.Distinct.{by-verdict}

ok-is : {X E : Type 0} {x y : X} → ◌≡◌ {A = Result X E} (Ok x) (Ok y) → x ≡ y
ok-is e = cc

-- what is asked for has its path and its kind from their values
from-wish : (inactive : Option Why) (path : Result (List ℕ) Why) (step : Result StepKind Why) (no_url : Bool) (w : Wanted) → first_reason_or_wanted inactive path step no_url ≡ Ok w
    → (path ≡ Ok w.path) × (step ≡ Ok w.kind)
from-wish (Some why) path step no_url w e = absurd (cc e)
from-wish None (Err why) step no_url w e = absurd (cc e)
from-wish None (Ok path) (Err why) no_url w e = absurd (cc e)
from-wish None (Ok path) (Ok step) true w e = absurd (cc e)
from-wish None (Ok path) (Ok step) false w e =
    let is : wanted_step_of_parts path step ≡ w = cc in
    (ap (λ (x : Wanted). Ok x.path) is, ap (λ (x : Wanted). Ok x.kind) is)

record IsBelow (normal : Option (List ℕ)) (path : List ℕ) : Type 0 where
  is_normal : normal ≡ Some path
  some : is_empty path ≡ false
  no_git : list_any is_dot_git_ignoring_case (components path) ≡ false

below-from : (normal : Option (List ℕ)) (path : List ℕ) → path_or_why_left_out normal ≡ Ok path → IsBelow normal path
below-from None path e = absurd (cc e)
below-from (Some text) path e = by (is_empty text) (list_any is_dot_git_ignoring_case (components text)) refl refl e
  where
    by : (a b : Bool) → is_empty text ≡ a → list_any is_dot_git_ignoring_case (components text) ≡ b
        → (if a then Err whys.Root else if b then Err whys.DotGit else Ok text) ≡ Ok path → IsBelow (Some text) path
    by true b f g h = absurd (cc h)
    by false true f g h = absurd (cc h)
    by false false f g h = subst (IsBelow (Some text)) (ok-is h) (record { is_normal = refl; some = f; no_git = g })

record IsPlace (given : Result (List ℕ) PathError) (path : List ℕ) : Type 0 where
  text : List ℕ
  is_given : given ≡ Ok text
  is_below : IsBelow (normalized text) path

below-place : (given : Result (List ℕ) PathError) (path : List ℕ) → submodule_path_or_why given ≡ Ok path → IsPlace given path
below-place (Err e) path is = absurd (cc is)
below-place (Ok text) path is = record { text = text; is_given = refl; is_below = below-from (normalized text) path is }

-- a path that is given is one that may be
path-may-be : (name : List ℕ) (value : Option (List ℕ)) (text : List ℕ) → access.path_of_optional_value name value ≡ Ok text → access.is_valid_submodule_path text ≡ true
path-may-be name None text e = absurd (cc e)
path-may-be name (Some said) text e = by (access.is_valid_submodule_path said) refl e
  where
    by : (b : Bool) → access.is_valid_submodule_path said ≡ b → (if b then Ok said else Err (access.path_error_of_value name said)) ≡ Ok text → access.is_valid_submodule_path text ≡ true
    by true is f = ap access.is_valid_submodule_path (sym (ok-is f)) ∙ is
    by false is f = absurd (cc f)

-- a command is what stands behind a `!`
command-behind : (text command : List ℕ) → parse_update_command text ≡ Some (updates.Command command) → text ≡ 33 ∷ command
command-behind [] command e = absurd (cc e)
command-behind (b ∷ text) command e = by (b == 33) refl e
  where
    by : (marked : Bool) → (b == 33) ≡ marked → (if marked then Some (updates.Command text) else None) ≡ Some (updates.Command command) → b ∷ text ≡ 33 ∷ command
    by false is f = absurd (cc f)
    by true is f =
        let same : text ≡ command = cc in
        ap (λ (x : ℕ). x ∷ text) (eqb-true b 33 is) ∙ ap (λ (t : List ℕ). 33 ∷ t) same

command-text : (text command : List ℕ) → parse_update text ≡ Some (updates.Command command) → text ≡ 33 ∷ command
command-text text command e =
    by (bytes_eq text (codes "checkout")) (bytes_eq text (codes "rebase")) (bytes_eq text (codes "merge")) (bytes_eq text (codes "none")) e
  where
    by : (a b c d : Bool)
        → (if a then Some updates.Checkout else if b then Some updates.Rebase else if c then Some updates.Merge else if d then Some updates.None else parse_update_command text)
        ≡ Some (updates.Command command) → text ≡ 33 ∷ command
    by true b c d f = absurd (cc f)
    by false true c d f = absurd (cc f)
    by false false true d f = absurd (cc f)
    by false false false true f = absurd (cc f)
    by false false false false f = command-behind text command f

plain : (found : Option (List ℕ × Source)) (is step : StepKind) → ◌≡◌ {A = Result StepKind Why} (Ok is) (Ok step) → IsCommandNotFromGitmodules found is → IsCommandNotFromGitmodules found step
plain found is step e allowed_is = subst (IsCommandNotFromGitmodules found) (ok-is e) allowed_is

command-from : (name text : List ℕ) (source : Source) (command : List ℕ) (step : StepKind) → parse_update text ≡ Some (updates.Command command)
    → kind (update_result_as_some (update_unless_gitmodules_command name source (updates.Command command))) ≡ Ok step → IsCommandNotFromGitmodules (Some (text, source)) step
command-from name text source command step is e = by (is_gitmodules_source source) refl e
  where
    by : (shared : Bool) → is_gitmodules_source source ≡ shared
        → kind (update_result_as_some (if shared then Err (update_errors.CommandForbiddenInModulesConfiguration name command) else Ok (updates.Command command))) ≡ Ok step
        → IsCommandNotFromGitmodules (Some (text, source)) step
    by true same f = absurd (cc f)
    by false same f =
        plain (Some (text, source)) (kinds.Command command) step f
        (source, ap (λ (t : List ℕ). Some (t, source)) (command-text text command is), same)

step-from : (name text : List ℕ) (source : Source) (step : StepKind) (update : Option Update) → parse_update text ≡ update
    → kind (update_result_as_some (update_allowed_or_error name text source update)) ≡ Ok step → IsCommandNotFromGitmodules (Some (text, source)) step
step-from name text source step None is e = absurd (cc e)
step-from name text source step (Some updates.Checkout) is e = plain (Some (text, source)) kinds.Checkout step e tt
step-from name text source step (Some updates.Rebase) is e = plain (Some (text, source)) kinds.Rebase step e tt
step-from name text source step (Some updates.Merge) is e = plain (Some (text, source)) kinds.Merge step e tt
step-from name text source step (Some (updates.Command command)) is e = command-from name text source command step is e
step-from name text source step (Some updates.None) is e = absurd (cc e)

allowed-step : (name : List ℕ) (found : Option (List ℕ × Source)) (step : StepKind) → kind (update_of_optional_value name found) ≡ Ok step → IsCommandNotFromGitmodules found step
allowed-step name None step e = plain None kinds.Checkout step e tt
allowed-step name (Some (text, source)) step e = step-from name text source step (parse_update text) refl e

safe-wanted : (asked : PlanInput) (name : List ℕ) (w : Wanted) → step_wanted_by_submodule asked name ≡ Ok w → IsSafeStep asked (record { name = name; path = w.path; kind = w.kind })
safe-wanted asked name w e =
    let parts = from-wish (reason_if_inactive (is_active asked.specs asked.config name)) (submodule_path_or_why (access.path name asked.modules)) (kind (access.update name asked.modules))
    (is_err (access.url name asked.modules)) w e in
    let at = below-place (access.path name asked.modules) w.path parts.0 in
    record {
      inside = record {
        text = at.text;
        is_given = at.is_given;
        is_inside = path-may-be name (value name (codes "path") asked.modules) at.text at.is_given;
        leads_to = at.is_below.is_normal;
      };
      below = at.is_below.some;
      no_git = at.is_below.no_git;
      command = allowed-step name (update_value_and_source name asked.modules) w.kind parts.1;
    }

safe-verdicts : (told : Option Names) (root : List ℕ) (asked : PlanInput) (earlier names : List (List ℕ)) (vs : List Verdict) → AreVerdictsOnNames told root asked earlier names vs
    → AllByRecursion (IsSafeStep asked) (steps_of_verdicts vs)
safe-verdicts told root asked earlier [] vs are = subst (λ (l : List Verdict). AllByRecursion (IsSafeStep asked) (steps_of_verdicts l)) (sym are) tt
safe-verdicts told root asked earlier (name ∷ names) [] are = absurd are
safe-verdicts told root asked earlier (name ∷ names) (v ∷ vs) are =
    let more = safe-verdicts told root asked (earlier ++ name ∷ []) names vs are.1 in
    by-verdict (AllByRecursion (IsSafeStep asked) (steps_of_verdicts (v ∷ vs))) told root name (step_wanted_by_submodule asked name) (is_path_wanted_by_any asked earlier) v are.0
    (λ why e. subst (λ (u : Verdict). AllByRecursion (IsSafeStep asked) (steps_of_verdicts (u ∷ vs))) (sym e) more)
    (λ w wants_it free clear e. subst (λ (u : Verdict). AllByRecursion (IsSafeStep asked) (steps_of_verdicts (u ∷ vs))) (sym e) (safe-wanted asked name w wants_it, more))

pub safe-plan : (told : Option Names) (root : List ℕ) (asked : PlanInput) (names : List (List ℕ)) (vs : List Verdict) (steps : List Step) → AreVerdictsOnNames told root asked [] names vs
    → IsPermutation (steps_of_verdicts vs) steps → All (IsSafeStep asked) steps
safe-plan told root asked names vs steps are moved =
    All-permutation (IsSafeStep asked) (steps_of_verdicts vs) steps moved
    (All-from_recursion (IsSafeStep asked) (steps_of_verdicts vs) (safe-verdicts told root asked [] names vs are))

-- ---- a told tree

clear-verdicts : (told : Option Names) (t : Names) (root : List ℕ) (asked : PlanInput) (earlier names : List (List ℕ)) (vs : List Verdict) → told ≡ Some t
    → AreVerdictsOnNames told root asked earlier names vs → AllByRecursion (λ step. first_obstacle_on_way t root (components step.path) ≡ None) (steps_of_verdicts vs)
clear-verdicts told t root asked earlier [] vs tells are =
    subst (λ (l : List Verdict). AllByRecursion (λ step. first_obstacle_on_way t root (components step.path) ≡ None) (steps_of_verdicts l)) (sym are) tt
clear-verdicts told t root asked earlier (name ∷ names) [] tells are = absurd are
clear-verdicts told t root asked earlier (name ∷ names) (v ∷ vs) tells are =
    let more = clear-verdicts told t root asked (earlier ++ name ∷ []) names vs tells are.1 in
    by-verdict (AllByRecursion (λ step. first_obstacle_on_way t root (components step.path) ≡ None) (steps_of_verdicts (v ∷ vs))) told root name (step_wanted_by_submodule asked name) (is_path_wanted_by_any asked earlier) v are.0
    (λ why e. subst (λ (u : Verdict). AllByRecursion (λ step. first_obstacle_on_way t root (components step.path) ≡ None) (steps_of_verdicts (u ∷ vs))) (sym e) more)
    (λ w wants_it free clear e.
    subst (λ (u : Verdict). AllByRecursion (λ step. first_obstacle_on_way t root (components step.path) ≡ None) (steps_of_verdicts (u ∷ vs))) (sym e) (clear t tells, more))

pub open-plan : (told : Option Names) (t : Names) (root : List ℕ) (asked : PlanInput) (names : List (List ℕ)) (vs : List Verdict) (steps : List Step) → told ≡ Some t
    → AreVerdictsOnNames told root asked [] names vs → IsPermutation (steps_of_verdicts vs) steps → All (λ step. first_obstacle_on_way t root (components step.path) ≡ None) steps
open-plan told t root asked names vs steps tells are moved =
    All-permutation (λ step. first_obstacle_on_way t root (components step.path) ≡ None) (steps_of_verdicts vs) steps moved
    (All-from_recursion (λ step. first_obstacle_on_way t root (components step.path) ≡ None) (steps_of_verdicts vs) (clear-verdicts told t root asked [] names vs tells are))
