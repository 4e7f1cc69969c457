-- A directory whose names are walked one after another, up to one where the walk ends.
use Rattle.std.proofs.Common.{◌≡◌, ℕ, ◌+◌, ◌≤◌, ◌<◌, inl, List, Bool, true, false, Option, Some, take, get_or, length, refl, ◌∙◌, arith}
use Rattle.std.specs.Prelude.{Result, Ok, Err, IfOk, OnErr}
use Rattle.std.proofs.lemmas.Result.{IfOk-weaker, on_err_weaker}
use Rattle.gitbase_core.specs.Path.{ends_in_slash, path_joined_with_slash}
use Rattle.gitbase_core.specs.declared.find.Find.{Ghosts as FindOf}
use Rattle.worktree_fs.specs.declared.worktree.Worktree.{Ghosts as WorktreeOf}
use Rattle.worktree_fs.specs.Answers.{ListsDirectoryNamesInAnyOrder}
use Rattle.worktree_fs.specs.Causes.{CountIncreasedOrSaturated, CountNotIncreased}
use Rattle.worktree_fs.specs.Kept.{KeepsStoredObjects}
use Rattle.worktree_stack.specs.Reading.{TreeAndObjects}
use Rattle.worktree_stack.specs.Setup.{StackSetup}
use Rattle.dir_classify.specs.declared.classify.Outcome.{Outcome as Class}
use Rattle.dir_classify.specs.declared.entry.Entry.{Entry}
use Rattle.dir_classify.specs.declared.error.Error.TheVariants as errors
use Rattle.dir_classify.specs.Evidence.{PathEvidence}
use Rattle.dir_classify.specs.Kept.{KeepsRulesInStep}
use Rattle.dir_classify.specs.Layers.{WalkSetting, evidence_from_setting_and_sources}
use Rattle.dir_walk.specs.declared.delegate.Delegate.{Ghosts as DelegateOf}
use Rattle.dir_walk.specs.declared.handed.Handed.{Handed}
use Rattle.dir_walk.specs.declared.handed.Stop.{Stop}
use Rattle.dir_walk.specs.declared.handed.Stop.TheVariants.{Refused}
use Rattle.dir_walk.specs.declared.outcome.Outcome.{Outcome}
use Rattle.dir_walk.specs.Emits.{ClosesWithAllWalked, AddsEmissionsAndCounts, AddsPartOfWalkResult}
use Rattle.dir_walk.specs.Kept.{KeepsDelegateRunning, KeepsWorktree, RefusesOnlyOutOfMemory}
use Rattle.dir_walk.specs.Moments.{WalkState}
use Rattle.dir_walk.specs.Report.{count_components}
use Rattle.dir_walk.specs.Told.{IsEvidenceForClosing, IsWalkOverSources, walk_result_of_name_over_sources, look_at_entered_directory}
use Rattle.dir_walk.specs.Walked.{walk_result_of_closed_directory, walk_result_of_empty_directory, walk_result_holding_entries}
use Rattle.dir_walk.specs.WalkSteps.{StepWalksOverSources, at_directory, at_name}
use Rattle.dir_walk.proofs.Gives.Emitting.{Within-all}
use Rattle.dir_walk.proofs.Folding.Listed.{Gives-empty, Gives-listed, HasNames, HasPaths-name, part-close, part-empty, part-name}
use Rattle.dir_walk.proofs.Folding.Named.{SoFar}
use Rattle.dir_walk.proofs.Refused.Refusals.{DirectoryRefuses-name, memory-only}
use Rattle.dir_walk.proofs.Folding.Steps.{IsEvidence-told, Stands-later}

-- what the names so far have given, in whatever is told
abbrev pub GivenSoFar : {W F I D : Type 0} → WorktreeOf W → FindOf F → DelegateOf D → WalkState W F I D → WalkState W F I D → WalkSetting → Option (List ℕ) → ℕ → List ℕ → List (List ℕ) → List Entry → Bool → Type 0
GivenSoFar w f d before now given blocked levels path taken held blocks =
    (made : Option StackSetup) (s : TreeAndObjects) → IsWalkOverSources given (w.told before.worktree) (f.holds before.objects) before.rules blocked made s → CountNotIncreased (w.faults before.worktree) (w.faults now.worktree)
    → d.is_default before.delegate ≡ true → (limit : ℕ) → levels + count_components path ≡ limit
    → SoFar given made s limit path taken (d.given before.delegate) (d.given now.delegate) before.outcome now.outcome held blocks

module _ {W F I D : Type 0} {w : WorktreeOf W} {f : FindOf F} {d : DelegateOf D} {before now : WalkState W F I D} (mid : WalkState W F I D) {given : WalkSetting} {blocked : Option (List ℕ)} {levels : ℕ} {path : List ℕ} (class : Class) (names : List (List ℕ)) (i : ℕ) (q : List ℕ) {held : List Entry} {blocks : Bool}
    (has_names : (s : TreeAndObjects) → w.told before.worktree ≡ Some s.tree → HasNames given s.tree path names) (plain : ends_in_slash path ≡ false) (inside : i < length names) (is : q ≡ get_or names i q)
    (tree : KeepsWorktree w before.worktree mid.worktree) (store : KeepsStoredObjects f before.objects mid.objects) (rules : KeepsRulesInStep w f before.worktree before.objects before.rules mid.rules) (delegate : KeepsDelegateRunning d before.delegate mid.delegate)
    (so_far : GivenSoFar w f d before mid given blocked levels path (take i names) held blocks) (later : w.faults mid.worktree ≤ w.faults now.worktree) where
  -- the walk ends at a name
  pub told-ended : (stop : Stop) → StepWalksOverSources w f d mid now given blocked levels (at_name path q) (Err stop) → StepWalksOverSources w f d before now given blocked levels (at_directory path class) (Err stop)
  told-ended stop told =
      record {
        gives = λ made s stands quiet default limit level. tt;
        part = λ made s stands quiet default.
            let first : CountNotIncreased (w.faults before.worktree) (w.faults mid.worktree) = omega (arith, quiet, later) in
            let second : CountNotIncreased (w.faults mid.worktree) (w.faults now.worktree) = let k = tree.faults in omega (arith, quiet, k) in
            let has = has_names s stands.tree in
            let then = Stands-later given mid.rules tree.tree store.holds rules.made rules.in_step stands in
            part-name given made s path class names has.lists has.are plain has.some (levels + count_components path) i q _ _ _ _ _ _ held blocks inside is (so_far made s stands first default (levels + count_components path) refl)
            (told.part made s then second (delegate.default ∙ default));
        refused = λ made s stands default limit level.
            let has = has_names s stands.tree in
            let then = Stands-later given mid.rules tree.tree store.holds rules.made rules.in_step stands in
            let here : Type 0 = CountIncreasedOrSaturated (w.faults mid.worktree) (w.faults now.worktree) in
            let whole : Type 0 = CountIncreasedOrSaturated (w.faults before.worktree) (w.faults now.worktree) in
            DirectoryRefuses-name given made s limit here whole (walk_result_of_name_over_sources given made s (path_joined_with_slash path q)) path class
            (HasPaths-name given made s path class names has.lists has.are plain has.some i q inside is) (λ rose. let k = tree.faults in omega (arith, rose, k)) stop
            (told.refused made s then (delegate.default ∙ default) limit level);
      }

  -- or there is no room for what it hands up
  pub told-unheld : (h : Handed) → StepWalksOverSources w f d mid now given blocked levels (at_name path q) (Ok h) → StepWalksOverSources w f d before now given blocked levels (at_directory path class) (Err (Refused errors.OutOfMemory))
  told-unheld h told =
      record {
        gives = λ made s stands quiet default limit level. tt;
        part = λ made s stands quiet default.
            let first : CountNotIncreased (w.faults before.worktree) (w.faults mid.worktree) = omega (arith, quiet, later) in
            let second : CountNotIncreased (w.faults mid.worktree) (w.faults now.worktree) = let k = tree.faults in omega (arith, quiet, k) in
            let has = has_names s stands.tree in
            let then = Stands-later given mid.rules tree.tree store.holds rules.made rules.in_step stands in
            let gives = told.gives made s then second (delegate.default ∙ default) (levels + count_components path) refl in
            part-name given made s path class names has.lists has.are plain has.some (levels + count_components path) i q _ _ _ _ _ _ held blocks inside is (so_far made s stands first default (levels + count_components path) refl)
            (Within-all _ _ _ _ _ _ _ _ _ gives.emits (λ p. omega arith) (omega arith));
        refused = λ made s stands default limit level. inl tt;
      }

-- it has no names
pub told-empty : {W F I D : Type 0} (w : WorktreeOf W) (f : FindOf F) (d : DelegateOf D) {before now : WalkState W F I D} (given : WalkSetting) {blocked : Option (List ℕ)} {levels : ℕ} (path : List ℕ) (class : Class) (names : List (List ℕ)) {middle : Outcome} (result : Result Handed Stop)
    → length names ≡ 0 → ((s : TreeAndObjects) → w.told before.worktree ≡ Some s.tree → ListsDirectoryNamesInAnyOrder (look_at_entered_directory given s.tree path) names)
    → AddsEmissionsAndCounts (d.given before.delegate) (d.given before.delegate) before.outcome middle (λ p. 0) 0 1
    → ((ev : PathEvidence) → IsEvidenceForClosing given blocked ev → IfOk result (ClosesWithAllWalked given.options (walk_result_of_empty_directory given.options ev path class) (d.given before.delegate) (d.given now.delegate) middle now.outcome))
    → ((ev : PathEvidence) → IsEvidenceForClosing given blocked ev → OnErr result (AddsPartOfWalkResult given.options (walk_result_of_empty_directory given.options ev path class) (d.given before.delegate) (d.given now.delegate) middle now.outcome))
    → RefusesOnlyOutOfMemory result → StepWalksOverSources w f d before now given blocked levels (at_directory path class) result
told-empty w f d {before} {now} given {blocked = blocked} path class names {middle = middle} result bare lists opened closes part memory =
    record {
      gives = λ made s stands quiet default limit level.
          IfOk-weaker result _ _ (λ h one. Gives-empty given made s path class names (lists s stands.tree) bare limit _ _ _ _ _ _ h (omega (arith, level)) opened one)
          (closes (evidence_from_setting_and_sources given made s) (IsEvidence-told given made s blocked stands.blocked_is));
      part = λ made s stands quiet default.
          on_err_weaker result (λ one. part-empty given made s path class names (lists s stands.tree) bare _ _ _ before.outcome middle now.outcome opened one)
          (part (evidence_from_setting_and_sources given made s) (IsEvidence-told given made s blocked stands.blocked_is));
      refused = λ made s stands default limit level. memory-only result _ (inl tt) memory;
    }

-- all its names were walked
pub told-closed : {W F I D : Type 0} (w : WorktreeOf W) (f : FindOf F) (d : DelegateOf D) {before now : WalkState W F I D} (mid : WalkState W F I D) (given : WalkSetting) {blocked : Option (List ℕ)} {levels : ℕ} (path : List ℕ) (class : Class) (names : List (List ℕ)) (i : ℕ) (held : List Entry) (blocks : Bool) (result : Result Handed Stop)
    → ((s : TreeAndObjects) → w.told before.worktree ≡ Some s.tree → HasNames given s.tree path names) → ends_in_slash path ≡ false → length names ≤ i
    → GivenSoFar w f d before (record mid { worktree = now.worktree }) given blocked levels path (take i names) held blocks
    → ((ev : PathEvidence) → IsEvidenceForClosing given blocked ev → IfOk result (ClosesWithAllWalked given.options (walk_result_of_closed_directory given.options ev path class (walk_result_holding_entries held blocks)) (d.given mid.delegate) (d.given now.delegate) mid.outcome now.outcome))
    → ((ev : PathEvidence) → IsEvidenceForClosing given blocked ev → OnErr result (AddsPartOfWalkResult given.options (walk_result_of_closed_directory given.options ev path class (walk_result_holding_entries held blocks)) (d.given mid.delegate) (d.given now.delegate) mid.outcome now.outcome))
    → RefusesOnlyOutOfMemory result → StepWalksOverSources w f d before now given blocked levels (at_directory path class) result
told-closed w f d {before} {now} mid given {blocked = blocked} {levels = levels} path class names i held blocks result has_names plain past so_far closes part memory =
    record {
      gives = λ made s stands quiet default limit level.
          let has = has_names s stands.tree in
          IfOk-weaker result _ _ (λ h one. Gives-listed given made s path class names has.lists has.are plain has.some limit i _ _ _ _ _ held blocks past (so_far made s stands quiet default limit level) _ h (omega (arith, level)) one)
          (closes (evidence_from_setting_and_sources given made s) (IsEvidence-told given made s blocked stands.blocked_is));
      part = λ made s stands quiet default.
          let has = has_names s stands.tree in
          on_err_weaker result (λ one. part-close given made s path class names has.lists has.are plain has.some (levels + count_components path) i (d.given before.delegate) (d.given mid.delegate) (d.given now.delegate) before.outcome mid.outcome held blocks past (so_far made s stands quiet default (levels + count_components path) refl) now.outcome one)
          (part (evidence_from_setting_and_sources given made s) (IsEvidence-told given made s blocked stands.blocked_is));
      refused = λ made s stands default limit level. memory-only result _ (inl tt) memory;
    }
