-- What stays, over any worktree, where a name is done or the walk ends at it.
use Rattle.std.proofs.Common.{◌≡◌, ◌≤◌, ◌+◌, ◌-◌, ℕ, List, Option, refl, ◌∙◌, arith}
use Rattle.std.specs.Prelude.{Result, Err}
use Rattle.gitbase_core.specs.declared.find.Find.{Ghosts as FindOf}
use Rattle.gitbase_core.specs.Path.{path_joined_with_slash}
use Rattle.worktree_fs.specs.declared.interrupt.Interrupt.{Ghosts as InterruptOf}
use Rattle.worktree_fs.specs.declared.worktree.Worktree.{Ghosts as WorktreeOf}
use Rattle.worktree_stack.specs.Stacked.{StackModel}
use Rattle.dir_classify.specs.declared.classify.Outcome.{Outcome as Class}
use Rattle.dir_classify.specs.declared.error.Error.TheVariants as errors
use Rattle.dir_classify.specs.Layers.{WalkSetting}
use Rattle.dir_walk.specs.declared.delegate.Delegate.{Ghosts as DelegateOf}
use Rattle.dir_walk.specs.declared.handed.Handed.{Handed}
use Rattle.dir_walk.specs.declared.handed.Stop.{Stop}
use Rattle.dir_walk.specs.declared.handed.Stop.TheVariants.{Refused}
use Rattle.dir_walk.specs.declared.outcome.Outcome.{Outcome}
use Rattle.dir_walk.specs.Kept.{HeedsDelegateBreak, KeepsDelegateRunning, RefusesOnlyOutOfMemory}
use Rattle.dir_walk.specs.Moments.{WalkState}
use Rattle.dir_walk.specs.Puts.{AddsNoHiddenEmission, HandsUpOnlyEntryAtPath, one_at_path}
use Rattle.dir_walk.specs.Report.{count_components}
use Rattle.dir_walk.specs.WalkSteps.{WalkStep, StepWalksOverAnyWorktree, at_directory, at_name}
use Rattle.dir_walk.proofs.Walked.CallByCall.{Before, unlisted}
use Rattle.dir_walk.proofs.Walked.Ending.{Caused-later, Caused-memory}
use Rattle.dir_walk.proofs.Folding.Hiding.{AddsShown-same}
use Rattle.dir_walk.proofs.Opens.Keeping.{AsksStore-same, AsksStore-then, Heeds-after, KeepsDelegate-asked, KeepsDelegate-then, KeepsRules-same, KeepsTree-then}
use Rattle.dir_walk.proofs.Refused.Refusals.{memory-only}
use Rattle.dir_walk.proofs.Places.Rooms.{Hands-leaf, Hands-none}

-- nothing came before
pub Before-same : {W F : Type 0} {w : WorktreeOf W} {f : FindOf F} {w0 : W} {o0 : F} {rules : Option StackModel} → Before w f w0 w0 o0 o0 rules rules
Before-same = record { worktree = record { tree = refl; faults = omega arith; list_faults = refl; reads = omega arith; lists = refl; precomposes = refl }; store = AsksStore-same; rules = KeepsRules-same }

-- the delegate was asked whether it is entered, and it is walked
pub any-entered : {W F I D : Type 0} {w : WorktreeOf W} {f : FindOf F} {i : InterruptOf I} {d : DelegateOf D} {before now : WalkState W F I D} (asked : WalkState W F I D) {given : WalkSetting} {levels : ℕ} {directory name p : List ℕ} {k : Class} {result : Result Handed Stop}
    → Before w f before.worktree asked.worktree before.objects asked.objects before.rules asked.rules
    → d.is_default asked.delegate ≡ d.is_default before.delegate → d.given asked.delegate ≡ d.given before.delegate → d.breaks asked.delegate ≡ d.breaks before.delegate → d.refusals before.delegate ≤ d.refusals asked.delegate
    → p ≡ path_joined_with_slash directory name → (levels - 1) + count_components p ≡ levels + count_components directory
    → StepWalksOverAnyWorktree w f i d (record asked { interrupt = before.interrupt; outcome = before.outcome }) now given (levels - 1) (at_directory p k) result → StepWalksOverAnyWorktree w f i d before now given levels (at_name directory name) result
any-entered {d = d} {before = before} {now = now} asked {given = given} {result = result} b default same_given same_breaks refusals path_is levels_is walks =
    record {
      about = λ limit level. rw b.rules.made at (walks.about limit (levels_is ∙ level));
      found = λ s told. rw (b.store.holds, b.rules.made) at (walks.found s (b.worktree.tree ∙ told));
      caused = Caused-later result b.worktree.faults b.store.faults refl b.worktree.list_faults walks.caused;
      worktree = KeepsTree-then (unlisted b.worktree) walks.worktree;
      store = AsksStore-then b.store walks.store;
      interrupt = walks.interrupt;
      hands = rw (path_is, same_given) at walks.hands;
      delegate = KeepsDelegate-then (KeepsDelegate-asked default same_given same_breaks refusals) walks.delegate;
      filtered = walks.filtered ∙ AddsShown-same given.options same_given;
      heeds = Heeds-after d before.delegate asked.delegate now.delegate result same_breaks walks.heeds;
    }

-- it is not entered, and handed up or put out
pub any-leaf : {W F I D : Type 0} {w : WorktreeOf W} {f : FindOf F} {i : InterruptOf I} {d : DelegateOf D} {before : WalkState W F I D} {w1 : W} {o1 : F} (d1 : D) {d2 : D} {r1 : Option StackModel} {stop : Outcome} {given : WalkSetting} {levels : ℕ} {directory name p : List ℕ} (result : Result Handed Stop)
    → Before w f before.worktree w1 before.objects o1 before.rules r1
    → d.is_default d1 ≡ d.is_default before.delegate → d.given d1 ≡ d.given before.delegate → d.breaks d1 ≡ d.breaks before.delegate → d.refusals before.delegate ≤ d.refusals d1
    → KeepsDelegateRunning d d1 d2 → AddsNoHiddenEmission given.options (d.given d1) (d.given d2) → HeedsDelegateBreak d d1 d2 result
    → p ≡ path_joined_with_slash directory name → HandsUpOnlyEntryAtPath p (one_at_path p) (d.given d1) (d.given d2) before.outcome stop result → RefusesOnlyOutOfMemory result
    → StepWalksOverAnyWorktree w f i d before (record { worktree = w1; objects = o1; interrupt = before.interrupt; delegate = d2; rules = r1; outcome = stop }) given levels (at_name directory name) result
any-leaf {d = d} {before = before} d1 {d2 = d2} {given = given} result b default same_given same_breaks refusals keeps shown heeds path_is hands memory =
    record {
      about = λ limit level. memory-only result _ tt memory;
      found = λ s told. memory-only result _ tt memory;
      caused = Caused-later result b.worktree.faults b.store.faults refl b.worktree.list_faults (Caused-memory result memory);
      worktree = unlisted b.worktree;
      store = b.store;
      interrupt = record { questions = omega arith; raised = omega arith };
      hands = Hands-leaf (rw (path_is, same_given) at hands);
      delegate = KeepsDelegate-then (KeepsDelegate-asked default same_given same_breaks refusals) keeps;
      filtered = shown ∙ AddsShown-same given.options same_given;
      heeds = Heeds-after d before.delegate d1 d2 result same_breaks heeds;
    }

-- there is no memory for it
pub any-memory : {W F I D : Type 0} {w : WorktreeOf W} {f : FindOf F} {i : InterruptOf I} {d : DelegateOf D} {before : WalkState W F I D} {w1 : W} {o1 : F} {d1 : D} {r1 : Option StackModel} {given : WalkSetting} {levels : ℕ} {step : WalkStep}
    → Before w f before.worktree w1 before.objects o1 before.rules r1
    → d.is_default d1 ≡ d.is_default before.delegate → d.given d1 ≡ d.given before.delegate → d.breaks d1 ≡ d.breaks before.delegate → d.refusals before.delegate ≤ d.refusals d1
    → StepWalksOverAnyWorktree w f i d before (record { worktree = w1; objects = o1; interrupt = before.interrupt; delegate = d1; rules = r1; outcome = before.outcome }) given levels step (Err (Refused errors.OutOfMemory))
any-memory {given = given} b default same_given same_breaks refusals =
    record {
      about = λ limit level. tt;
      found = λ s told. tt;
      caused = record { fault = tt; interrupt = tt; listing = tt; listed = tt; calm = tt };
      worktree = unlisted b.worktree;
      store = b.store;
      interrupt = record { questions = omega arith; raised = omega arith };
      hands = Hands-none same_given refl refl;
      delegate = KeepsDelegate-asked default same_given same_breaks refusals;
      filtered = AddsShown-same given.options same_given;
      heeds = record { broken = tt; stopped = tt; unbroken = same_breaks; kept_on = tt };
    }
