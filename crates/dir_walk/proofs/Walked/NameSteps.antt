-- A name whose class was asked: it is walked as a directory, is handed up as a leaf, or the walk ends there.
use Rattle.std.proofs.Common.{◌≡◌, ◌⊎◌, inl, inr, Bool, ◌<◌, ◌≤◌, ◌+◌, ◌-◌, ◌&&◌, ℕ, List, Option, None, ap, ◌∙◌, arith, true, false, subst}
use Rattle.std.specs.Prelude.{Result, Ok, Err}
use Rattle.std.proofs.lemmas.Result.{IfOk-weaker, IfErr-weaker, on_err_weaker}
use Rattle.gitbase_core.specs.declared.find.Find.{Ghosts as FindOf}
use Rattle.gitbase_core.specs.Path.{is_empty, path_joined_with_slash}
use Rattle.worktree_fs.specs.declared.worktree.Worktree.{Ghosts as WorktreeOf}
use Rattle.worktree_fs.specs.Causes.{CountIncreasedOrSaturated, CountNotIncreased}
use Rattle.worktree_fs.specs.Naming.{IsValidEntryName}
use Rattle.worktree_fs.specs.Paths.{root_joined_with_relative, is_relative_without_dots}
use Rattle.worktree_fs.specs.Tree.{look}
use Rattle.dir_classify.specs.declared.classify.Outcome.{Outcome as Class}
use Rattle.dir_classify.specs.declared.error.Error.{Error}
use Rattle.dir_classify.specs.Class.{class, asks_ignore_rules, enters}
use Rattle.dir_classify.specs.Classes.{ClassifiesPath}
use Rattle.dir_classify.specs.Faults.{IsOutcomeAsRead}
use Rattle.dir_classify.specs.Layers.{WalkSetting, evidence_from_setting_and_sources, kind_on_disk_if_asked}
use Rattle.dir_walk.specs.declared.delegate.Delegate.{Ghosts as DelegateOf}
use Rattle.dir_walk.specs.declared.handed.Handed.{Handed}
use Rattle.dir_walk.specs.declared.handed.Stop.{Stop}
use Rattle.dir_walk.specs.declared.handed.Stop.TheVariants.{Refused}
use Rattle.dir_walk.specs.declared.outcome.Outcome.{Outcome}
use Rattle.dir_walk.specs.Given.{HoldsOfErrorIfRefused}
use Rattle.dir_walk.specs.Moments.{WalkState}
use Rattle.dir_walk.specs.Refused.{IsWalkErrorByWalkResult, IsErrorOfEnteredDirectory, IsTooDeepOrInterruptedError}
use Rattle.dir_walk.specs.Report.{count_components}
use Rattle.dir_walk.specs.Told.{look_at_name, walk_result_of_name_over_sources, walk_result_of_directory_over_sources}
use Rattle.dir_walk.specs.WalkSteps.{StepWalksOverSources, at_directory, at_name}
use Rattle.dir_classify.proofs.Classed.{asked-quiet}
use Rattle.dir_walk.proofs.Gives.Emitting.{Within-none}
use Rattle.dir_walk.proofs.Places.JoinedPaths.{joined-some}
use Rattle.dir_walk.proofs.Refused.Judged.{indexed-unlisted}
use Rattle.dir_walk.proofs.Refused.Refusals.{HasPaths, Refuses-class, Refuses-deep, Refuses-directory, refused-any, rose-or, either}
use Rattle.dir_walk.proofs.Folding.Steps.{telling, Stands-later, Gives-directory, HasPaths-told, among-asked, enter-told, part-directory}

-- The class `k` of the path was asked between `before` and `asked`, and the delegate, asked too, enters it.
pub told-entered : {W F I D : Type 0} (w : WorktreeOf W) (f : FindOf F) (d : DelegateOf D) {before now : WalkState W F I D} (asked : WalkState W F I D) (given : WalkSetting) {blocked : Option (List ℕ)} {levels : ℕ} {directory name : List ℕ} (p : List ℕ) (k : Class) (result : Result Handed Stop)
    → IsValidEntryName name → p ≡ path_joined_with_slash directory name → (levels - 1) + count_components p ≡ levels + count_components directory
    → ClassifiesPath w f before.worktree asked.worktree before.objects asked.objects before.rules asked.rules given p None true (Ok k)
    → (d.is_default before.delegate ≡ true → enters given.options k false ≡ true) → d.is_default asked.delegate ≡ d.is_default before.delegate → d.given asked.delegate ≡ d.given before.delegate
    → w.faults asked.worktree ≤ w.faults now.worktree
    → StepWalksOverSources w f d (record asked { outcome = before.outcome }) now given blocked (levels - 1) (at_directory p k) result → StepWalksOverSources w f d before now given blocked levels (at_name directory name) result
told-entered w f d {before} {now} asked given {blocked} {levels} {directory} {name} p k result is_name at levels_is classed goes same_default same_given later told =
    let q = path_joined_with_slash directory name in
    let some : is_empty p ≡ false = ap is_empty at ∙ joined-some directory name is_name in
    record {
      gives = λ made s stands quiet default limit level.
          let ev = evidence_from_setting_and_sources given made s in
          let first : CountNotIncreased (w.faults before.worktree) (w.faults asked.worktree) = omega (arith, quiet, later) in
          let second : CountNotIncreased (w.faults asked.worktree) (w.faults now.worktree) = omega (arith, quiet, classed.asking.keeps.faults) in
          let is : k ≡ class given.options ev p None (kind_on_disk_if_asked given s.tree p true) = rw stands.made_is at (classed.class s (telling stands) stands.in_step first) in
          let read : (asks_ignore_rules given.options ev p None (kind_on_disk_if_asked given s.tree p true) && ev.is_unread p) ≡ false = rw stands.made_is at (classed.read s (telling stands) stands.in_step first) in
          let then = Stands-later given asked.rules classed.asking.keeps.tree classed.asking.store.holds classed.asking.rules.made classed.asking.rules.in_step stands in
          IfOk-weaker result _ _ (λ h gives. Gives-directory given made s p k is q at _ _ limit _ _ h read some (goes default) gives)
          (rw same_given at (told.gives made s then second (same_default ∙ default) limit (levels_is ∙ level)));
      part = λ made s stands quiet default.
          let ev = evidence_from_setting_and_sources given made s in
          let first : CountNotIncreased (w.faults before.worktree) (w.faults asked.worktree) = omega (arith, quiet, later) in
          let second : CountNotIncreased (w.faults asked.worktree) (w.faults now.worktree) = omega (arith, quiet, classed.asking.keeps.faults) in
          let is : k ≡ class given.options ev p None (kind_on_disk_if_asked given s.tree p true) = rw stands.made_is at (classed.class s (telling stands) stands.in_step first) in
          let then = Stands-later given asked.rules classed.asking.keeps.tree classed.asking.store.holds classed.asking.rules.made classed.asking.rules.in_step stands in
          on_err_weaker result (λ part. part-directory given made s p k is q at _ _ _ _ some (goes default) part)
          (rw same_given at (told.part made s then second (same_default ∙ default)));
      refused = λ made s stands default limit level.
          let ev = evidence_from_setting_and_sources given made s in
          let exact = λ (quiet : CountNotIncreased (w.faults before.worktree) (w.faults asked.worktree)). (rw stands.made_is at (classed.class s (telling stands) stands.in_step quiet)) in
          let then = Stands-later given asked.rules classed.asking.keeps.tree classed.asking.store.holds classed.asking.rules.made classed.asking.rules.in_step stands in
          let inside : Type 0 = CountIncreasedOrSaturated (w.faults asked.worktree) (w.faults now.worktree) in
          let failed : Type 0 = CountIncreasedOrSaturated (w.faults before.worktree) (w.faults now.worktree) in
          let same = ap (λ (b : Bool). look s.tree (root_joined_with_relative given.root p) b) some in
          let within : HasPaths (walk_result_of_directory_over_sources given made s p k) (walk_result_of_name_over_sources given made s p) ⊎ failed =
          either (λ quiet. inl (HasPaths-told given made s p k (exact quiet) some (goes default))) (λ rose. inr (omega (arith, rose, later))) (rose-or (w.faults before.worktree) (w.faults asked.worktree)) in
          let judged : IsOutcomeAsRead (w.faults before.worktree) (w.faults asked.worktree) (λ kind read. class given.options read p None kind) ev (kind_on_disk_if_asked given s.tree p true) k = rw stands.made_is at ((classed.swallowed s (telling stands) stands.in_step).0.judged) in
          let P : List ℕ → Error → Type 0 = λ x. IsWalkErrorByWalkResult given made s limit failed (walk_result_of_name_over_sources given made s x) in
          IfErr-weaker result (HoldsOfErrorIfRefused (IsErrorOfEnteredDirectory given made s limit inside p k)) (HoldsOfErrorIfRefused (P q))
          (refused-any (IsErrorOfEnteredDirectory given made s limit inside p k) (P q)
          (λ e h. subst (λ (x : List ℕ). P x e) at (Refuses-directory given made s limit inside failed (walk_result_of_name_over_sources given made s p) p k e same within (λ rose. omega (arith, rose, classed.asking.keeps.faults))
          (λ why unlisted. indexed-unlisted _ _ given.options ev p (look_at_name given s.tree p) k why judged (goes default) unlisted) h)))
          (told.refused made s then (same_default ∙ default) limit (levels_is ∙ level));
    }

-- The question for its class was refused.
pub told-unclassed : {W F I D : Type 0} (w : WorktreeOf W) (f : FindOf F) (d : DelegateOf D) {before now : WalkState W F I D} (given : WalkSetting) {blocked : Option (List ℕ)} {levels : ℕ} {directory name : List ℕ} (p : List ℕ) (e : Error)
    → IsValidEntryName name → is_relative_without_dots p ≡ true → p ≡ path_joined_with_slash directory name
    → ClassifiesPath w f before.worktree now.worktree before.objects now.objects before.rules now.rules given p None true (Err e)
    → d.given now.delegate ≡ d.given before.delegate → now.outcome ≡ before.outcome
    → StepWalksOverSources w f d before now given blocked levels (at_name directory name) (Err (Refused e))
told-unclassed w f d {before} {now} given {directory = directory} {name = name} p e is_name normal at classed same_given same_outcome =
    let some : is_empty p ≡ false = ap is_empty at ∙ joined-some directory name is_name in
    record {
      gives = λ made s stands quiet default limit level. tt;
      part = λ made s stands quiet default. Within-none _ _ _ _ _ _ same_given (ap (λ (o : Outcome). o.seen_entries) same_outcome);
      refused = λ made s stands default limit level.
          let ev = evidence_from_setting_and_sources given made s in
          let Asks : Type 0 = asks_ignore_rules given.options ev p None (kind_on_disk_if_asked given s.tree p true) ≡ true in
          let failed : Type 0 = CountIncreasedOrSaturated (w.faults before.worktree) (w.faults now.worktree) in
          let P : List ℕ → Type 0 = λ x. IsWalkErrorByWalkResult given made s limit failed (walk_result_of_name_over_sources given made s x) e in
          subst P at (Refuses-class given made s limit failed Asks (walk_result_of_name_over_sources given made s p) p e normal (rw stands.made_is at classed.asking.about) (rw stands.made_is at (classed.asking.refused s (telling stands)))
          (either (λ quiet. inl (asked-quiet (w.faults before.worktree) (w.faults now.worktree) (λ k. asks_ignore_rules given.options ev p None k) (kind_on_disk_if_asked given s.tree p true) e quiet (rw stands.made_is at (classed.asked s stands.tree))))
          (λ rose. inr rose) (rose-or (w.faults before.worktree) (w.faults now.worktree)))
          (among-asked given made s p some));
    }

-- It is to be entered, and lies too deep.
pub told-deep : {W F I D : Type 0} (w : WorktreeOf W) (f : FindOf F) (d : DelegateOf D) {before now : WalkState W F I D} (given : WalkSetting) {blocked : Option (List ℕ)} {levels : ℕ} {directory name : List ℕ} (p : List ℕ) (k : Class) (Raised : Type 0) (e : Error)
    → IsValidEntryName name → p ≡ path_joined_with_slash directory name → levels + count_components directory < count_components p
    → ClassifiesPath w f before.worktree now.worktree before.objects now.objects before.rules now.rules given p None true (Ok k)
    → (d.is_default before.delegate ≡ true → enters given.options k false ≡ true) → d.given now.delegate ≡ d.given before.delegate → now.outcome ≡ before.outcome
    → IsTooDeepOrInterruptedError (root_joined_with_relative given.root p) Raised e → StepWalksOverSources w f d before now given blocked levels (at_name directory name) (Err (Refused e))
told-deep w f d {before} {now} given {directory = directory} {name = name} p k Raised e is_name at low classed goes same_given same_outcome deep =
    let some : is_empty p ≡ false = ap is_empty at ∙ joined-some directory name is_name in
    record {
      gives = λ made s stands quiet default limit level. tt;
      part = λ made s stands quiet default. Within-none _ _ _ _ _ _ same_given (ap (λ (o : Outcome). o.seen_entries) same_outcome);
      refused = λ made s stands default limit level.
          let exact = λ (quiet : CountNotIncreased (w.faults before.worktree) (w.faults now.worktree)). (rw stands.made_is at (classed.class s (telling stands) stands.in_step quiet)) in
          let failed : Type 0 = CountIncreasedOrSaturated (w.faults before.worktree) (w.faults now.worktree) in
          let P : List ℕ → Type 0 = λ x. IsWalkErrorByWalkResult given made s limit failed (walk_result_of_name_over_sources given made s x) e in
          let under : limit < count_components p = omega (arith, level, low) in
          subst P at (Refuses-deep given made s limit failed Raised (walk_result_of_name_over_sources given made s p) p e under
          (either (λ quiet. inl (enter-told given made s p k (exact quiet) some (goes default))) (λ rose. inr rose) (rose-or (w.faults before.worktree) (w.faults now.worktree))) deep);
    }
