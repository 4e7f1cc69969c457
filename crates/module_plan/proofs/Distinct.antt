-- No two steps have one path, and a told tree leaves one verdict a name.
use Rattle.std.proofs.Common.{◌≡◌, ℕ, List, [], ◌∷◌, ◌++◌, Bool, true, false, ◌||◌, bytes_eq, map, Option, Some, None, Result, Ok, Err, refl, sym, ap, ◌∙◌, subst}
use Rattle.std.specs.List.{AllByRecursion, IsDistinct, list_any}
use Rattle.std.proofs.lemmas.Cmp.{nat_list_eq_equiv}
use Rattle.std.proofs.lemmas.List.Folds.{list_any-append}
use Rattle.gitbase_core.specs.Path.{components}
use Rattle.worktree_fs.specs.Tree.{Names}
use Rattle.module_plan.specs.declared.step.Step.{Step}
use Rattle.module_plan.specs.declared.step.Verdict.{Verdict}
use Rattle.module_plan.specs.declared.step.Why.{Why}
use Rattle.module_plan.specs.declared.step.Why.TheVariants as whys
use Rattle.module_plan.specs.declared.wanted.Wanted.{Wanted}
use Rattle.module_plan.specs.Plans.{path_of_step, HaveDistinctPaths}
use Rattle.module_plan.specs.Verdicts.{AreVerdictsOnNames, IsPossibleObstacle, IsVerdictOnWantedResult, IsVerdictOnWantedStep, is_path_wanted_by_any, verdict_on_wanted_result, leave_out_verdict, steps_of_verdicts, update_unless_obstacle, update_unless_path_taken, update, verdict_on_submodule, verdicts_on_names_after_earlier, wants_step_at_path}
use Rattle.module_plan.specs.Wanted.{PlanInput, step_wanted_by_submodule}
use Rattle.module_plan.specs.Ways.{first_obstacle_on_way}

-- what becomes of a submodule: it is left out, or updated at a path that it asks for and no earlier one does
pub by-verdict : (C : Type 0) (told : Option Names) (root name : List ℕ) (given : Result Wanted Why) (taken : List ℕ → Bool) (v : Verdict)
    → IsVerdictOnWantedResult told root name given taken v
    → ((why : Why) → v ≡ leave_out_verdict name why → C)
    → ((w : Wanted) → given ≡ Ok w → taken w.path ≡ false → ((t : Names) → told ≡ Some t → first_obstacle_on_way t root (components w.path) ≡ None) → v ≡ update name w → C)
    → C
by-verdict C told root name (Err why) taken v is out done = out why is
by-verdict C told root name (Ok w) taken v is out done = by (taken w.path) refl is
  where
    barred_by : (barred : Option Why) → IsPossibleObstacle told root w barred → taken w.path ≡ false → v ≡ update_unless_obstacle name w barred → C
    barred_by None bars free e = done w refl free (λ t tells. sym (bars.exact t tells)) e
    barred_by (Some why) bars free e = out why e

    by : (b : Bool) → taken w.path ≡ b → IsVerdictOnWantedStep told root name w b v → C
    by true there h = out whys.SamePath h
    by false free h = barred_by h.0 h.1 free h.2

or-false : (a b : Bool) → (a || b) ≡ false → (a ≡ false) × (b ≡ false)
or-false true b e = absurd (cc e)
or-false false b e = (refl, e)

all-both : (P Q R : List ℕ → Type 0) (xs : List (List ℕ)) → ((x : List ℕ) → P x → Q x) → AllByRecursion P xs → AllByRecursion Q xs
all-both P Q R [] f all = tt
all-both P Q R (x ∷ xs) f all = (f x all.0, all-both P Q R xs f all.1)

-- no path that an earlier one asks for, and none twice
abbrev IsFresh : PlanInput → List (List ℕ) → List Step → Type 0
IsFresh asked earlier steps = AllByRecursion (λ path. is_path_wanted_by_any asked earlier path ≡ false) (map path_of_step steps) × HaveDistinctPaths steps

no-steps : (asked : PlanInput) (earlier : List (List ℕ)) → IsFresh asked earlier []
unfolding IsDistinct
no-steps asked earlier = (tt, tt)

-- behind one name more there are fewer fresh paths
narrower : (asked : PlanInput) (earlier : List (List ℕ)) (name path : List ℕ) → is_path_wanted_by_any asked (earlier ++ name ∷ []) path ≡ false
    → (is_path_wanted_by_any asked earlier path ≡ false) × (wants_step_at_path path (step_wanted_by_submodule asked name) ≡ false)
narrower asked earlier name path e =
    let parts = or-false (is_path_wanted_by_any asked earlier path) (list_any (λ n. wants_step_at_path path (step_wanted_by_submodule asked n)) (name ∷ []))
    (sym (list_any-append (λ n. wants_step_at_path path (step_wanted_by_submodule asked n)) earlier (name ∷ [])) ∙ e) in
    (parts.0, (or-false (wants_step_at_path path (step_wanted_by_submodule asked name)) false parts.1).0)

fresh-out : (asked : PlanInput) (earlier : List (List ℕ)) (name : List ℕ) (steps : List Step) → IsFresh asked (earlier ++ name ∷ []) steps → IsFresh asked earlier steps
fresh-out asked earlier name steps fresh = (
  all-both (λ path. is_path_wanted_by_any asked (earlier ++ name ∷ []) path ≡ false) (λ path. is_path_wanted_by_any asked earlier path ≡ false) (λ path. Unit {0}) (map path_of_step steps)
      (λ path e. (narrower asked earlier name path e).0) fresh.0,
  fresh.1,
)

fresh-done : (asked : PlanInput) (earlier : List (List ℕ)) (name : List ℕ) (w : Wanted) (step : Step) (steps : List Step) → step_wanted_by_submodule asked name ≡ Ok w → is_path_wanted_by_any asked earlier w.path ≡ false
    → step.path ≡ w.path → IsFresh asked (earlier ++ name ∷ []) steps → IsFresh asked earlier (step ∷ steps)
unfolding IsDistinct
fresh-done asked earlier name w step steps wants_it free at fresh = (
  (ap (is_path_wanted_by_any asked earlier) at ∙ free, (fresh-out asked earlier name steps fresh).0),
  (
    all-both (λ path. is_path_wanted_by_any asked (earlier ++ name ∷ []) path ≡ false) (λ path. bytes_eq step.path path ≡ false) (λ path. Unit {0}) (map path_of_step steps)
        (λ path e.
        ap (λ (p : List ℕ). bytes_eq p path) at
        ∙ nat_list_eq_equiv.symm w.path path
        ∙ sym (ap (wants_step_at_path path) wants_it)
        ∙ (narrower asked earlier name path e).1) fresh.0,
    fresh.1,
  ),
)

fresh : (told : Option Names) (root : List ℕ) (asked : PlanInput) (earlier names : List (List ℕ)) (vs : List Verdict) → AreVerdictsOnNames told root asked earlier names vs → IsFresh asked earlier (steps_of_verdicts vs)
fresh told root asked earlier [] vs are = subst (λ (l : List Verdict). IsFresh asked earlier (steps_of_verdicts l)) (sym are) (no-steps asked earlier)
fresh told root asked earlier (name ∷ names) [] are = absurd are
fresh told root asked earlier (name ∷ names) (v ∷ vs) are =
    let more = fresh told root asked (earlier ++ name ∷ []) names vs are.1 in
    by-verdict (IsFresh asked earlier (steps_of_verdicts (v ∷ vs))) told root name (step_wanted_by_submodule asked name) (is_path_wanted_by_any asked earlier) v are.0
    (λ why e. subst (λ (u : Verdict). IsFresh asked earlier (steps_of_verdicts (u ∷ vs))) (sym e) (fresh-out asked earlier name (steps_of_verdicts vs) more))
    (λ w wants_it free clear e.
    subst (λ (u : Verdict). IsFresh asked earlier (steps_of_verdicts (u ∷ vs))) (sym e)
    (fresh-done asked earlier name w (record { name = name; path = w.path; kind = w.kind }) (steps_of_verdicts vs) wants_it free refl more))

pub distinct-steps : (told : Option Names) (root : List ℕ) (asked : PlanInput) (names : List (List ℕ)) (vs : List Verdict) → AreVerdictsOnNames told root asked [] names vs → HaveDistinctPaths (steps_of_verdicts vs)
distinct-steps told root asked names vs are = (fresh told root asked [] names vs are).1

-- ---- a told tree

judged-told : (told : Option Names) (t : Names) (root name : List ℕ) (given : Result Wanted Why) (taken : List ℕ → Bool) (v : Verdict) → told ≡ Some t
    → IsVerdictOnWantedResult told root name given taken v → v ≡ verdict_on_wanted_result t root name taken given
judged-told told t root name (Err why) taken v tells is = is
judged-told told t root name (Ok w) taken v tells is = by (taken w.path) is
  where
    by : (b : Bool) → IsVerdictOnWantedStep told root name w b v → v ≡ update_unless_path_taken name w b (first_obstacle_on_way t root (components w.path))
    by true h = h
    by false h = h.2 ∙ ap (update_unless_obstacle name w) (h.1.exact t tells)

pub verdicts-told : (told : Option Names) (t : Names) (root : List ℕ) (asked : PlanInput) (earlier names : List (List ℕ)) (vs : List Verdict) → told ≡ Some t
    → AreVerdictsOnNames told root asked earlier names vs → vs ≡ verdicts_on_names_after_earlier t root asked earlier names
unfolding verdicts_on_names_after_earlier
verdicts-told told t root asked earlier [] vs tells are = are
verdicts-told told t root asked earlier (name ∷ names) [] tells are = absurd are
verdicts-told told t root asked earlier (name ∷ names) (v ∷ vs) tells are =
    let first : v ≡ verdict_on_submodule t root asked earlier name = judged-told told t root name (step_wanted_by_submodule asked name) (is_path_wanted_by_any asked earlier) v tells are.0 in
    let rest = verdicts-told told t root asked (earlier ++ name ∷ []) names vs tells are.1 in
    ap (λ (u : Verdict). u ∷ vs) first ∙ ap (λ (l : List Verdict). verdict_on_submodule t root asked earlier name ∷ l) rest
