-- Verdicts name by name.
use Rattle.std.proofs.Common.{rules, ◌≡◌, ℕ, List, [], ◌∷◌, ◌++◌, Bool, true, false, ◌||◌, Option, Result, Ok, Err, refl, sym, ap, ◌∙◌, subst, append_assoc}
use Rattle.std.proofs.lemmas.List.{append-nil}
use Rattle.std.proofs.lemmas.List.Folds.{list_any-append}
use Rattle.worktree_fs.specs.Kept.{KeepsTreeAndListCounts}
use Rattle.worktree_fs.specs.Tree.{Names}
use Rattle.worktree_fs.specs.declared.worktree.Worktree.{Ghosts as WorktreeOf}
use Rattle.submodule.specs.Names.{is_text_in_list, submodule_names_of_gitmodules}
use Rattle.module_plan.specs.declared.error.ModuleError.{ModuleError}
use Rattle.module_plan.specs.declared.error.ModuleError.TheVariants as errors
use Rattle.module_plan.specs.declared.step.ModulePlan.{ModulePlan}
use Rattle.module_plan.specs.declared.step.Skipped.{Skipped}
use Rattle.module_plan.specs.declared.step.Step.{Step}
use Rattle.module_plan.specs.declared.step.Verdict.{Verdict}
use Rattle.module_plan.specs.declared.step.Verdict.TheVariants as verdicts
use Rattle.module_plan.specs.declared.step.Why.{Why}
use Rattle.module_plan.specs.declared.wanted.Wanted.{Wanted}
use Rattle.module_plan.specs.Judged.{AddsVerdictToPlan, HasVerdictForEachName, IsPlanOfVerdicts, FailsLookingForSubmoduleStep, FailsLookingForAnySubmodule}
use Rattle.module_plan.specs.Verdicts.{AreVerdictsOnNames, IsVerdictOnWantedResult, IsVerdictOnWantedStep, is_path_wanted_by_any, skipped_of_verdicts, steps_of_verdicts, wants_step_at_path}
use Rattle.module_plan.specs.Wanted.{PlanInput, step_wanted_by_submodule}
use Rattle.module_plan.specs.Ways.{IsLookedAtUnlessTaken, HoldsUnlessFault}

verdicts-snoc : (told : Option Names) (root : List ℕ) (asked : PlanInput) (earlier names : List (List ℕ)) (name : List ℕ) (vs : List Verdict) (v : Verdict)
    → AreVerdictsOnNames told root asked earlier names vs
    → IsVerdictOnWantedResult told root name (step_wanted_by_submodule asked name) (is_path_wanted_by_any asked (earlier ++ names)) v
    → AreVerdictsOnNames told root asked earlier (names ++ name ∷ []) (vs ++ v ∷ [])
verdicts-snoc told root asked earlier [] name vs v are is =
    subst (λ (l : List Verdict). AreVerdictsOnNames told root asked earlier (name ∷ []) (l ++ v ∷ [])) (sym are)
    (subst (λ (l : List (List ℕ)). IsVerdictOnWantedResult told root name (step_wanted_by_submodule asked name) (is_path_wanted_by_any asked l) v) (append-nil earlier) is, refl)
verdicts-snoc told root asked earlier (n ∷ names) name [] v are is = absurd are
verdicts-snoc told root asked earlier (n ∷ names) name (u ∷ vs) v are is = (
  are.0,
  verdicts-snoc told root asked (earlier ++ n ∷ []) names name vs v are.1
      (subst (λ (l : List (List ℕ)). IsVerdictOnWantedResult told root name (step_wanted_by_submodule asked name) (is_path_wanted_by_any asked l) v) (sym (append_assoc earlier (n ∷ []) names)) is),
)

steps-append : (vs us : List Verdict) → steps_of_verdicts (vs ++ us) ≡ steps_of_verdicts vs ++ steps_of_verdicts us
steps-append [] us = refl
steps-append (verdicts.Update step ∷ vs) us = ap (λ (l : List Step). step ∷ l) (steps-append vs us)
steps-append (verdicts.LeaveOut one ∷ vs) us = steps-append vs us

skipped-append : (vs us : List Verdict) → skipped_of_verdicts (vs ++ us) ≡ skipped_of_verdicts vs ++ skipped_of_verdicts us
skipped-append [] us = refl
skipped-append (verdicts.Update step ∷ vs) us = skipped-append vs us
skipped-append (verdicts.LeaveOut one ∷ vs) us = ap (λ (l : List Skipped). one ∷ l) (skipped-append vs us)

judged-same : (told : Option Names) (root name : List ℕ) (given : Result Wanted Why) (f g : List ℕ → Bool) (v : Verdict)
    → ((path : List ℕ) → f path ≡ g path) → IsVerdictOnWantedResult told root name given f v → IsVerdictOnWantedResult told root name given g v
judged-same told root name (Err why) f g v same is = is
judged-same told root name (Ok w) f g v same is = subst (λ (b : Bool). IsVerdictOnWantedStep told root name w b v) (same w.path) is

or-end : (a b : Bool) → (a || b) ≡ (b || (a || false))
or-end true true = refl
or-end true false = refl
or-end false true = refl
or-end false false = refl

-- what an error but a fault says, it says later too
pub unless-later : (Then Later : Type 0) (e : ModuleError) → (Then → Later) → HoldsUnlessFault {T = ℕ} (Err e) Then → HoldsUnlessFault {T = ℕ} (Err e) Later
unless-later Then Later (errors.ActiveSpec value) more h = more h
unless-later Then Later (errors.Fault path) more h = tt
unless-later Then Later errors.OutOfMemory more h = more h

-- each name so far has its verdict, and the paths that are asked for are known
pub record IsJudging {W : Type 0} (w : WorktreeOf W) (w0 w1 : W) (root : List ℕ) (asked : PlanInput) (left taken : List (List ℕ)) (plan : ModulePlan) : Type 0 where
  pub keeps : KeepsTreeAndListCounts w w0 w1
  pub unread : w.reads w1 ≡ w.reads w0
  pub unfaulted : w.faults w1 ≡ w.faults w0
  pub done : List (List ℕ)
  pub all : submodule_names_of_gitmodules asked.modules ≡ done ++ left
  pub judged : List Verdict
  pub are : AreVerdictsOnNames (w.told w0) root asked [] done judged
  pub holds : IsPlanOfVerdicts judged plan
  pub taken_is : (path : List ℕ) → is_text_in_list path taken ≡ is_path_wanted_by_any asked done path

module _ {W : Type 0} (w : WorktreeOf W) (w0 w1 w2 : W) (root : List ℕ) (asked : PlanInput) (left taken : List (List ℕ)) (plan : ModulePlan)
    (at : IsJudging w w0 w1 root asked left taken plan) (name : List ℕ) (rest : List (List ℕ)) (left_is : left ≡ name ∷ rest) (seen : PlanInput) (same : seen ≡ asked) where
  whole : submodule_names_of_gitmodules asked.modules ≡ (at.done ++ name ∷ []) ++ rest
  whole = at.all ∙ ap (λ (l : List (List ℕ)). at.done ++ l) left_is ∙ sym (append_assoc at.done (name ∷ []) rest)

  told-same : w.told w1 ≡ w.told w0
  told-same = at.keeps.tree

  pub judging-grown : (v : Verdict) (more : List (List ℕ)) (grown : ModulePlan) → KeepsTreeAndListCounts w w1 w2 → w.reads w2 ≡ w.reads w1 → w.faults w2 ≡ w.faults w1
      → IsVerdictOnWantedResult (w.told w1) root name (step_wanted_by_submodule seen name) (λ path. is_text_in_list path taken) v
      → ((path : List ℕ) → is_text_in_list path more ≡ (wants_step_at_path path (step_wanted_by_submodule seen name) || is_text_in_list path taken))
      → AddsVerdictToPlan plan v grown → IsJudging w w0 w2 root asked rest more grown
  judging-grown v more grown keeps unread unfaulted is taken_more adds =
      let first = at.keeps in
      record {
        keeps = search rules;
        unread = unread ∙ at.unread;
        unfaulted = unfaulted ∙ at.unfaulted;
        done = at.done ++ name ∷ [];
        all = whole;
        judged = at.judged ++ v ∷ [];
        are =
            verdicts-snoc (w.told w0) root asked [] at.done name at.judged v at.are
            (judged-same (w.told w0) root name (step_wanted_by_submodule asked name) (λ path. is_text_in_list path taken) (is_path_wanted_by_any asked at.done) v at.taken_is
            (subst (λ (told : Option Names). IsVerdictOnWantedResult told root name (step_wanted_by_submodule asked name) (λ path. is_text_in_list path taken) v) told-same
            (subst (λ (a : PlanInput). IsVerdictOnWantedResult (w.told w1) root name (step_wanted_by_submodule a name) (λ path. is_text_in_list path taken) v) same is)));
        holds = record {
          steps = adds.steps ∙ ap (λ (l : List Step). l ++ steps_of_verdicts (v ∷ [])) at.holds.steps ∙ sym (steps-append at.judged (v ∷ []));
          skipped = adds.skipped ∙ ap (λ (l : List Skipped). l ++ skipped_of_verdicts (v ∷ [])) at.holds.skipped ∙ sym (skipped-append at.judged (v ∷ []));
        };
        taken_is = λ path.
            taken_more path
            ∙ ap (λ (a : PlanInput). wants_step_at_path path (step_wanted_by_submodule a name) || is_text_in_list path taken) same
            ∙ ap (λ (b : Bool). wants_step_at_path path (step_wanted_by_submodule asked name) || b) (at.taken_is path)
            ∙ or-end (wants_step_at_path path (step_wanted_by_submodule asked name)) (is_path_wanted_by_any asked at.done path)
            ∙ sym (list_any-append (λ n. wants_step_at_path path (step_wanted_by_submodule asked n)) at.done (name ∷ []));
      }

  pub judging-stops : (Failed Failed' : Type 0) (e : ModuleError) → (Failed → Failed')
      → FailsLookingForSubmoduleStep (w.told w1) root (step_wanted_by_submodule seen name) (λ path. is_text_in_list path taken) Failed e → FailsLookingForAnySubmodule (w.told w0) root asked Failed' e
  judging-stops Failed Failed' (errors.ActiveSpec value) more h = absurd h
  judging-stops Failed Failed' (errors.Fault path) more h = (
    more h.0,
    record {
      earlier = at.done;
      name = name;
      later = rest;
      is_name = at.all ∙ ap (λ (l : List (List ℕ)). at.done ++ l) left_is;
      w = h.1.0;
      wants_it = ap (λ (a : PlanInput). step_wanted_by_submodule a name) (sym same) ∙ h.1.1;
      looks =
          subst (λ (told : Option Names). IsLookedAtUnlessTaken told root h.1.0 (is_path_wanted_by_any asked at.done h.1.0.path) path) told-same
          (subst (λ (b : Bool). IsLookedAtUnlessTaken (w.told w1) root h.1.0 b path) (at.taken_is h.1.0.path) h.1.2);
    },
  )
  judging-stops Failed Failed' errors.OutOfMemory more h = tt

pub judging-done : {W : Type 0} (w : WorktreeOf W) (w0 w1 : W) (root : List ℕ) (asked : PlanInput) (left taken : List (List ℕ)) (plan : ModulePlan)
    → IsJudging w w0 w1 root asked left taken plan → left ≡ [] → HasVerdictForEachName (w.told w0) root asked plan
judging-done w w0 w1 root asked left taken plan at none =
    record {
      verdicts = at.judged;
      are =
          subst (λ (names : List (List ℕ)). AreVerdictsOnNames (w.told w0) root asked [] names at.judged)
          (sym (at.all ∙ ap (λ (l : List (List ℕ)). at.done ++ l) none ∙ append-nil at.done)) at.are;
      holds = at.holds;
    }
