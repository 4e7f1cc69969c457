-- What a walk says of its traversal root, call by call: where it is walked as a directory, where what it hands up is put out, and from
-- the way to it on.
use Rattle.std.specs.Prelude.{◌≡◌, ℕ, true, List, [], Option, Some, Result, IfOk, IfErr, OnOk, OnErr}
use Rattle.gitbase_core.specs.declared.find.Find.{Ghosts as FindOf}
use Rattle.gitbase_core.specs.Path.{components}
use Rattle.worktree_fs.specs.declared.interrupt.Interrupt.{Ghosts as InterruptOf}
use Rattle.worktree_fs.specs.declared.worktree.Worktree.{Ghosts as WorktreeOf}
use Rattle.worktree_fs.specs.Causes.{CountIncreasedOrSaturated, CountNotIncreased}
use Rattle.worktree_stack.specs.Reading.{TreeAndObjects}
use Rattle.worktree_stack.specs.Setup.{StackSetup}
use Rattle.dir_classify.specs.declared.classify.Outcome.{Outcome as Class}
use Rattle.dir_classify.specs.Excludes.{setup_of_optional_stack}
use Rattle.dir_classify.specs.Layers.{WalkSetting, evidence_from_setting_and_sources}
use Rattle.dir_walk.specs.declared.delegate.Delegate.{Ghosts as DelegateOf}
use Rattle.dir_walk.specs.declared.handed.Handed.{Handed}
use Rattle.dir_walk.specs.declared.handed.Stop.{Stop}
use Rattle.dir_walk.specs.declared.strategy.Strategy.{Strategy}
use Rattle.dir_walk.specs.Emits.{GivesAllWalkedUnrefused, GivesAllWalkedAndHandedUp, AddsPartOfWalkResult, AddsPartOfWalkedAndHandedUp}
use Rattle.dir_walk.specs.Given.{HoldsOfErrorIfRefused}
use Rattle.dir_walk.specs.Moments.{WalkState}
use Rattle.dir_walk.specs.Opens.{OpensAtMostWalkedEntered, OpensFromTraversalRoot, OpensTraversalRoot, count_refused_walk}
use Rattle.dir_walk.specs.Puts.{AddsNoHiddenEmission, HandsUpOnlyEntryAtPath, AddsEmissionsWithinRoom, AddsEmissionsFromRoot, one_at_or_beneath_path}
use Rattle.dir_walk.specs.Refused.{IsErrorOfEnteredDirectory, IsWalkErrorFromRoot, IsWalkErrorByTree}
use Rattle.dir_walk.specs.Root.{walk_result_from_traversal_root}
use Rattle.dir_walk.specs.Starts.{GivesWalkFromRoot}
use Rattle.dir_walk.specs.Told.{IsWalkOverSources, walk_result_of_directory_over_sources}
use Rattle.dir_walk.specs.Unopened.{count_too_deep_in_walk, count_unlisted_in_walk}
use Rattle.dir_walk.specs.WalkRefused.{IsUnenteredNonDirectoryRoot, HoldsIfRootIsFileError, HoldsIfNothingStarted, IsErrorFromRootWithinLimit, IsErrorFromRootByTree, IsErrorFromRootBySources, default_and_refusal_counts_of_delegate}
use Rattle.dir_walk.specs.Walked.{WalkResult}
use Rattle.dir_walk.specs.Walks.{KeepsStateAtEnd, OpensAtMostWalkedFromRoot, OpensAtMostEnteredInWalkResult, Tells}

-- how it ends and what it leaves, from one moment to another
abbrev pub EndsBetweenStates : {W F I D T : Type 0} → WorktreeOf W → FindOf F → InterruptOf I → DelegateOf D → WalkState W F I D → WalkState W F I D → Result T Stop → Type 0
EndsBetweenStates w f i d before now result =
    KeepsStateAtEnd w f i d before.worktree now.worktree before.objects now.objects before.interrupt now.interrupt before.rules now.rules before.delegate now.delegate result

-- how the directories that are opened at the traversal root and beneath it are counted; `Within` says how many they are
abbrev pub CountsOpenedAtRoot : {W F I D T : Type 0} → WorktreeOf W → InterruptOf I → WalkState W F I D → WalkState W F I D → Strategy → WalkSetting → List ℕ → Result T Stop → (ℕ → Type 0) → Type 0
CountsOpenedAtRoot w i before now strategy given path result Within =
    OpensTraversalRoot w i before.worktree now.worktree before.interrupt now.interrupt before.outcome now.outcome strategy given.options before.rules now.rules (components path) (count_refused_walk result) (count_too_deep_in_walk result) Within

-- ---- the traversal root is walked as a directory, unless it lies too deep

-- Over a told tree and a told store, with which the rules are in step: where the worktree did not fail, it gives all of what is there, and
-- a part of it where it ends before; and it is refused for what is there.
pub record WalksRootOverSources {W F I D : Type 0} (w : WorktreeOf W) (f : FindOf F) (d : DelegateOf D) (before now : WalkState W F I D) (given : WalkSetting) (blocked : Option (List ℕ)) (limit : ℕ) (path : List ℕ) (class : Class) (result : Result Handed Stop) : Type 0 where
  pub gives : (made : Option StackSetup) (s : TreeAndObjects) → IsWalkOverSources given (w.told before.worktree) (f.holds before.objects) before.rules blocked made s → CountNotIncreased (w.faults before.worktree) (w.faults now.worktree)
      → d.is_default before.delegate ≡ true
      → IfOk result (GivesAllWalkedUnrefused given.options limit (evidence_from_setting_and_sources given made s) (walk_result_of_directory_over_sources given made s path class) (d.given before.delegate) (d.given now.delegate) before.outcome now.outcome)
  pub part : (made : Option StackSetup) (s : TreeAndObjects) → IsWalkOverSources given (w.told before.worktree) (f.holds before.objects) before.rules blocked made s → CountNotIncreased (w.faults before.worktree) (w.faults now.worktree)
      → d.is_default before.delegate ≡ true
      → OnErr result (AddsPartOfWalkResult given.options (walk_result_of_directory_over_sources given made s path class) (d.given before.delegate) (d.given now.delegate) before.outcome now.outcome)
  pub refused : (made : Option StackSetup) (s : TreeAndObjects) → IsWalkOverSources given (w.told before.worktree) (f.holds before.objects) before.rules blocked made s → d.is_default before.delegate ≡ true
      → IfErr result (HoldsOfErrorIfRefused (IsErrorOfEnteredDirectory given made s limit (CountIncreasedOrSaturated (w.faults before.worktree) (w.faults now.worktree)) path class))

-- Over any worktree: what a refusal is about, and what it says of a told tree; what the delegate is given, how it ends and what it leaves.
pub record WalksRootOverAnyWorktree {W F I D : Type 0} (w : WorktreeOf W) (f : FindOf F) (i : InterruptOf I) (d : DelegateOf D) (before now : WalkState W F I D) (given : WalkSetting) (limit : ℕ) (path : List ℕ) (result : Result Handed Stop) : Type 0 where
  pub about : IfErr result (HoldsOfErrorIfRefused (IsWalkErrorFromRoot (setup_of_optional_stack before.rules) given.root path limit))
  pub found : (s : TreeAndObjects) → w.told before.worktree ≡ Some s.tree → IfErr result (HoldsOfErrorIfRefused (IsWalkErrorByTree given.root (f.holds before.objects) s (setup_of_optional_stack before.rules)))
  pub hands : HandsUpOnlyEntryAtPath path (one_at_or_beneath_path path) (d.given before.delegate) (d.given now.delegate) before.outcome now.outcome result
  pub filtered : AddsNoHiddenEmission given.options (d.given before.delegate) (d.given now.delegate)
  pub ends : EndsBetweenStates w f i d before now result

-- no more directories are opened than are entered there
abbrev pub OpensAtMostEnteredAtRoot : {W F I D : Type 0} → WorktreeOf W → FindOf F → DelegateOf D → WalkState W F I D → WalkState W F I D → WalkSetting → Option (List ℕ) → ℕ → List ℕ → Class → Result Handed Stop → ℕ → Type 0
OpensAtMostEnteredAtRoot w f d before now given blocked limit path class result =
    OpensAtMostWalkedEntered w f d before.worktree now.worktree before.objects before.rules before.delegate given blocked limit (λ made s. walk_result_of_directory_over_sources given made s path class) (count_unlisted_in_walk result)

-- ---- and what it hands up is put out

-- The same of a traversal root that is entered, over a told tree and a told store, with which the rules are in step, and where the worktree did
-- not fail.
pub record WalksEnteredRootOverSources {W F I D : Type 0} (w : WorktreeOf W) (f : FindOf F) (d : DelegateOf D) (before now : WalkState W F I D) (given : WalkSetting) (limit : ℕ) (path : List ℕ) (class : Class) (result : Result (Unit {0}) Stop) : Type 0 where
  pub gives : (s : TreeAndObjects) → Tells w f before.worktree before.objects before.rules s → CountNotIncreased (w.faults before.worktree) (w.faults now.worktree) → d.is_default before.delegate ≡ true
      → OnOk result (GivesAllWalkedAndHandedUp given.options limit (evidence_from_setting_and_sources given (setup_of_optional_stack before.rules) s) (walk_result_of_directory_over_sources given (setup_of_optional_stack before.rules) s path class) (d.given before.delegate) (d.given now.delegate) before.outcome now.outcome)
  pub part : (s : TreeAndObjects) → Tells w f before.worktree before.objects before.rules s → CountNotIncreased (w.faults before.worktree) (w.faults now.worktree) → d.is_default before.delegate ≡ true
      → OnErr result (AddsPartOfWalkedAndHandedUp given.options (walk_result_of_directory_over_sources given (setup_of_optional_stack before.rules) s path class) (d.given before.delegate) (d.given now.delegate) before.outcome now.outcome)
  pub refused : (s : TreeAndObjects) → Tells w f before.worktree before.objects before.rules s → CountNotIncreased (w.faults before.worktree) (w.faults now.worktree) → d.is_default before.delegate ≡ true
      → IfErr result (HoldsOfErrorIfRefused (IsErrorOfEnteredDirectory given (setup_of_optional_stack before.rules) s limit ⊥ path class))

-- Over any worktree, what a refusal is about, and what it says of a told tree.
pub record CausesOfEnteredRootRefusal {W F I D : Type 0} (w : WorktreeOf W) (f : FindOf F) (before : WalkState W F I D) (given : WalkSetting) (limit : ℕ) (path : List ℕ) (result : Result (Unit {0}) Stop) : Type 0 where
  pub about : IfErr result (HoldsOfErrorIfRefused (IsWalkErrorFromRoot (setup_of_optional_stack before.rules) given.root path limit))
  pub found : (s : TreeAndObjects) → w.told before.worktree ≡ Some s.tree → IfErr result (HoldsOfErrorIfRefused (IsWalkErrorByTree given.root (f.holds before.objects) s (setup_of_optional_stack before.rules)))

-- Over any worktree, what the delegate is given, how it ends and what it leaves.
pub record LeavesAfterEnteredRoot {W F I D : Type 0} (w : WorktreeOf W) (f : FindOf F) (i : InterruptOf I) (d : DelegateOf D) (before now : WalkState W F I D) (given : WalkSetting) (path : List ℕ) (result : Result (Unit {0}) Stop) : Type 0 where
  pub puts : AddsEmissionsWithinRoom (one_at_or_beneath_path path) (d.given before.delegate) (d.given now.delegate) before.outcome now.outcome []
  pub filtered : AddsNoHiddenEmission given.options (d.given before.delegate) (d.given now.delegate)
  pub ends : EndsBetweenStates w f i d before now result

-- no more directories are opened than are entered there
abbrev pub OpensAtMostEnteredInRoot : {W F I D : Type 0} → WorktreeOf W → FindOf F → DelegateOf D → WalkState W F I D → WalkState W F I D → WalkSetting → ℕ → List ℕ → Class → Result (Unit {0}) Stop → ℕ → Type 0
OpensAtMostEnteredInRoot w f d before now given limit path class result =
    OpensAtMostEnteredInWalkResult w f d before.worktree now.worktree before.objects before.rules before.delegate limit (λ s. walk_result_of_directory_over_sources given (setup_of_optional_stack before.rules) s path class) (count_unlisted_in_walk result)

-- ---- from the way to the traversal root on

-- The same of all that is done from the way there on.
pub record WalksFromRootOverSources {W F I D : Type 0} (w : WorktreeOf W) (f : FindOf F) (d : DelegateOf D) (before now : WalkState W F I D) (given : WalkSetting) (limit : ℕ) (root : List ℕ) (result : Result (Unit {0}) Stop) : Type 0 where
  pub gives : (s : TreeAndObjects) → Tells w f before.worktree before.objects before.rules s → CountNotIncreased (w.faults before.worktree) (w.faults now.worktree) → d.is_default before.delegate ≡ true
      → OnOk result (GivesWalkFromRoot given (setup_of_optional_stack before.rules) s root limit (d.given before.delegate) (d.given now.delegate) before.outcome now.outcome)
  pub part : (s : TreeAndObjects) → Tells w f before.worktree before.objects before.rules s → CountNotIncreased (w.faults before.worktree) (w.faults now.worktree) → d.is_default before.delegate ≡ true
      → (v : WalkResult) → walk_result_from_traversal_root given (setup_of_optional_stack before.rules) s root ≡ Some v
      → OnErr result (AddsPartOfWalkedAndHandedUp given.options v (d.given before.delegate) (d.given now.delegate) before.outcome now.outcome)
  pub refused : (s : TreeAndObjects) → Tells w f before.worktree before.objects before.rules s → CountNotIncreased (w.faults before.worktree) (w.faults now.worktree) → d.is_default before.delegate ≡ true
      → IfErr result (HoldsOfErrorIfRefused (IsErrorFromRootBySources given (setup_of_optional_stack before.rules) s root limit (CountIncreasedOrSaturated (f.faults before.objects) (f.faults now.objects))))

-- Over a told tree, where the worktree did not fail: where the worktree root is refused, it is not entered and is no directory.
abbrev pub RefusesOnlyUnenteredRoot : {W F I D : Type 0} → WorktreeOf W → DelegateOf D → WalkState W F I D → WalkState W F I D → WalkSetting → Result (Unit {0}) Stop → Type 0
RefusesOnlyUnenteredRoot w d before now given result =
    (s : TreeAndObjects) → w.told before.worktree ≡ Some s.tree → CountNotIncreased (w.faults before.worktree) (w.faults now.worktree)
    → IfErr result (HoldsOfErrorIfRefused (HoldsIfRootIsFileError (IsUnenteredNonDirectoryRoot given (setup_of_optional_stack before.rules) s (default_and_refusal_counts_of_delegate d before.delegate now.delegate))))

-- Where there is nothing to start from, nothing was listed before, the interrupt is as it was, and the delegate was given nothing.
abbrev pub LeavesUnstartedWalkUntouched : {W F I D : Type 0} → WorktreeOf W → DelegateOf D → WalkState W F I D → WalkState W F I D → Result (Unit {0}) Stop → Type 0
LeavesUnstartedWalkUntouched w d before now result =
    IfErr result (HoldsOfErrorIfRefused (HoldsIfNothingStarted ((w.lists now.worktree ≡ w.lists before.worktree) × (now.interrupt ≡ before.interrupt) × (d.given now.delegate ≡ d.given before.delegate))))

-- Over any worktree, what a refusal is about, and what it says of a told tree.
pub record CausesOfRefusalFromRoot {W F I D : Type 0} (w : WorktreeOf W) (f : FindOf F) (before : WalkState W F I D) (given : WalkSetting) (limit : ℕ) (root : List ℕ) (result : Result (Unit {0}) Stop) : Type 0 where
  pub about : IfErr result (HoldsOfErrorIfRefused (IsErrorFromRootWithinLimit (setup_of_optional_stack before.rules) given.root root limit))
  pub found : (s : TreeAndObjects) → w.told before.worktree ≡ Some s.tree → IfErr result (HoldsOfErrorIfRefused (IsErrorFromRootByTree given.root (f.holds before.objects) s (setup_of_optional_stack before.rules)))

-- Over any worktree, what the delegate is given, how it ends and what it leaves.
pub record LeavesAfterWalkFromRoot {W F I D : Type 0} (w : WorktreeOf W) (f : FindOf F) (i : InterruptOf I) (d : DelegateOf D) (before now : WalkState W F I D) (given : WalkSetting) (root : List ℕ) (result : Result (Unit {0}) Stop) : Type 0 where
  pub puts : AddsEmissionsFromRoot root (d.given before.delegate) (d.given now.delegate) before.outcome now.outcome
  pub filtered : AddsNoHiddenEmission given.options (d.given before.delegate) (d.given now.delegate)
  pub ends : EndsBetweenStates w f i d before now result

-- how the directories that are opened are counted; `Within` says how many they are
abbrev pub CountsOpenedFromRoot : {W F I D : Type 0} → WorktreeOf W → InterruptOf I → WalkState W F I D → WalkState W F I D → Strategy → WalkSetting → List ℕ → Result (Unit {0}) Stop → (ℕ → Type 0) → Type 0
CountsOpenedFromRoot w i before now strategy given root result Within =
    OpensFromTraversalRoot w i before.worktree now.worktree before.interrupt now.interrupt before.outcome now.outcome strategy given.options (setup_of_optional_stack before.rules) root result Within

-- no more than are entered in what is walked from there
abbrev pub OpensAtMostEnteredFromRoot : {W F I D : Type 0} → WorktreeOf W → FindOf F → DelegateOf D → WalkState W F I D → WalkState W F I D → WalkSetting → ℕ → List ℕ → Result (Unit {0}) Stop → ℕ → Type 0
OpensAtMostEnteredFromRoot w f d before now given limit root result = OpensAtMostWalkedFromRoot w f d before.worktree now.worktree before.objects before.rules before.delegate given root limit (count_unlisted_in_walk result)
