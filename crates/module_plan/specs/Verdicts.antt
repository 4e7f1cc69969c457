-- What becomes of each submodule: it is updated, or left out for the first reason that fits.
use Rattle.std.specs.Prelude.{◌≡◌, ℕ, List, [], ◌∷◌, ◌++◌, Bool, true, false, bytes_eq, Option, Some, None, Result, Ok, Err}
use Rattle.std.specs.List.{list_any}
use Rattle.gitbase_core.specs.Path.{components}
use Rattle.worktree_fs.specs.Tree.{Names}
use Rattle.module_plan.specs.declared.step.Step.{Step}
use Rattle.module_plan.specs.declared.step.Skipped.{Skipped}
use Rattle.module_plan.specs.declared.step.Verdict.{Verdict}
use Rattle.module_plan.specs.declared.step.Verdict.TheVariants as verdicts
use Rattle.module_plan.specs.declared.step.Why.{Why}
use Rattle.module_plan.specs.declared.step.Why.TheVariants as whys
use Rattle.module_plan.specs.declared.wanted.Wanted.{Wanted}
use Rattle.module_plan.specs.Wanted.{PlanInput, step_wanted_by_submodule}
use Rattle.module_plan.specs.Ways.{first_obstacle_on_way, IsNoneLinkOrNonDirectory}

-- a submodule is left out, and why
abbrev pub leave_out_verdict : List ℕ → Why → Verdict
leave_out_verdict name why = verdicts.LeaveOut (record { name = name; why = why })

-- a submodule is updated as it is wanted
abbrev pub update : List ℕ → Wanted → Verdict
update name w = verdicts.Update (record { name = name; path = w.path; kind = w.kind })

-- what is asked for stands at this path
abbrev pub wants_step_at_path : List ℕ → Result Wanted Why → Bool
wants_step_at_path path (Err why) = false
wants_step_at_path path (Ok w) = bytes_eq path w.path

-- one of these names asks for a step at the path
abbrev pub is_path_wanted_by_any : PlanInput → List (List ℕ) → List ℕ → Bool
is_path_wanted_by_any asked names path = list_any (λ name. wants_step_at_path path (step_wanted_by_submodule asked name)) names

-- ---- over a told tree

-- by what bars the way to its path
abbrev pub update_unless_obstacle : List ℕ → Wanted → Option Why → Verdict
update_unless_obstacle name w (Some why) = leave_out_verdict name why
update_unless_obstacle name w None = update name w

-- by whether an earlier one asks for its path
abbrev pub update_unless_path_taken : List ℕ → Wanted → Bool → Option Why → Verdict
update_unless_path_taken name w true barred = leave_out_verdict name whys.SamePath
update_unless_path_taken name w false barred = update_unless_obstacle name w barred

-- the verdict of a submodule by what is wanted: its path may be taken, or something be in its way
abbrev pub verdict_on_wanted_result : Names → List ℕ → List ℕ → (List ℕ → Bool) → Result Wanted Why → Verdict
verdict_on_wanted_result t root name is_taken (Err why) = leave_out_verdict name why
verdict_on_wanted_result t root name is_taken (Ok w) = update_unless_path_taken name w (is_taken w.path) (first_obstacle_on_way t root (components w.path))

-- What becomes of the submodule of a name, behind earlier names.
abbrev pub verdict_on_submodule : Names → List ℕ → PlanInput → List (List ℕ) → List ℕ → Verdict
verdict_on_submodule t root asked earlier name = verdict_on_wanted_result t root name (is_path_wanted_by_any asked earlier) (step_wanted_by_submodule asked name)

-- of each of some names, behind earlier ones
unfoldable pub verdicts_on_names_after_earlier : Names → List ℕ → PlanInput → List (List ℕ) → List (List ℕ) → List Verdict
verdicts_on_names_after_earlier t root asked earlier [] = []
verdicts_on_names_after_earlier t root asked earlier (name ∷ names) =
    verdict_on_submodule t root asked earlier name ∷ verdicts_on_names_after_earlier t root asked (earlier ++ name ∷ []) names

-- ---- over any worktree

-- what may bar the way, and does over a told tree
pub record IsPossibleObstacle (told : Option Names) (root : List ℕ) (w : Wanted) (barred : Option Why) : Type 0 where
  pub is : IsNoneLinkOrNonDirectory barred
  pub exact : (t : Names) → told ≡ Some t → barred ≡ first_obstacle_on_way t root (components w.path)

-- the same over a worktree that may tell no tree: what is in the way is what stands there
abbrev pub IsVerdictOnWantedStep : Option Names → List ℕ → List ℕ → Wanted → Bool → Verdict → Type 0
IsVerdictOnWantedStep told root name w true v = v ≡ leave_out_verdict name whys.SamePath
IsVerdictOnWantedStep told root name w false v = (barred : Option Why) × IsPossibleObstacle told root w barred × (v ≡ update_unless_obstacle name w barred)

-- the verdict by what is wanted, over a worktree that may tell no tree
abbrev pub IsVerdictOnWantedResult : Option Names → List ℕ → List ℕ → Result Wanted Why → (List ℕ → Bool) → Verdict → Type 0
IsVerdictOnWantedResult told root name (Err why) is_taken v = v ≡ leave_out_verdict name why
IsVerdictOnWantedResult told root name (Ok w) is_taken v = IsVerdictOnWantedStep told root name w (is_taken w.path) v

-- What may become of each of some names behind earlier ones, one verdict a name: where the worktree tells nothing, it is
-- open what bars the way to a path.
abbrev pub AreVerdictsOnNames : Option Names → List ℕ → PlanInput → List (List ℕ) → List (List ℕ) → List Verdict → Type 0
AreVerdictsOnNames told root asked earlier [] vs = vs ≡ []
AreVerdictsOnNames told root asked earlier (name ∷ names) [] = ⊥
AreVerdictsOnNames told root asked earlier (name ∷ names) (v ∷ vs) =
    IsVerdictOnWantedResult told root name (step_wanted_by_submodule asked name) (is_path_wanted_by_any asked earlier) v × AreVerdictsOnNames told root asked (earlier ++ name ∷ []) names vs

-- ---- what of them is done, and what is left out

-- the steps of verdicts, in their order
abbrev pub steps_of_verdicts : List Verdict → List Step
steps_of_verdicts [] = []
steps_of_verdicts (verdicts.Update step ∷ vs) = step ∷ steps_of_verdicts vs
steps_of_verdicts (verdicts.LeaveOut one ∷ vs) = steps_of_verdicts vs

-- the submodules that verdicts leave out, in their order
abbrev pub skipped_of_verdicts : List Verdict → List Skipped
skipped_of_verdicts [] = []
skipped_of_verdicts (verdicts.Update step ∷ vs) = skipped_of_verdicts vs
skipped_of_verdicts (verdicts.LeaveOut one ∷ vs) = one ∷ skipped_of_verdicts vs
