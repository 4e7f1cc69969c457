-- What a step of the walk says, of a directory or of a name in one, over whatever it has of a worktree, a store and an interrupt.
use Rattle.std.specs.Prelude.{◌≡◌, ◌+◌, ℕ, true, List, Option, Some, Result, IfOk, IfErr, OnErr}
use Rattle.gitbase_core.specs.declared.find.Find.{Ghosts as FindOf}
use Rattle.gitbase_core.specs.Path.{path_joined_with_slash}
use Rattle.worktree_fs.specs.declared.interrupt.Interrupt.{Ghosts as InterruptOf}
use Rattle.worktree_fs.specs.declared.worktree.Worktree.{Ghosts as WorktreeOf}
use Rattle.worktree_fs.specs.Causes.{CountIncreasedOrSaturated, CountNotIncreased}
use Rattle.worktree_fs.specs.Kept.{KeepsStoredObjects}
use Rattle.worktree_stack.specs.Reading.{TreeAndObjects}
use Rattle.worktree_stack.specs.Setup.{StackSetup}
use Rattle.dir_classify.specs.declared.classify.Outcome.{Outcome as Class}
use Rattle.dir_classify.specs.declared.error.Error.{Error}
use Rattle.dir_classify.specs.Chosen.{WalkOptions}
use Rattle.dir_classify.specs.Excludes.{setup_of_optional_stack}
use Rattle.dir_classify.specs.Layers.{WalkSetting, evidence_from_setting_and_sources}
use Rattle.dir_walk.specs.declared.delegate.Delegate.{Ghosts as DelegateOf}
use Rattle.dir_walk.specs.declared.handed.Handed.{Handed}
use Rattle.dir_walk.specs.declared.handed.Stop.{Stop}
use Rattle.dir_walk.specs.Emits.{GivesAllWalkedUnrefused, AddsPartOfWalkResult}
use Rattle.dir_walk.specs.Given.{HoldsOfErrorIfRefused}
use Rattle.dir_walk.specs.Kept.{AsksInterruptPerRaise, CountsCausesOfRefusals, HeedsDelegateBreak, KeepsDelegateRunning, KeepsWorktree}
use Rattle.dir_walk.specs.Moments.{WalkState}
use Rattle.dir_walk.specs.Opens.{OpensAtMostWalkedEntered, EntersBoundedDirectoriesOverForks, OpensDirectoriesMostlyOverForks, OpensBoundedDirectories, count_refused_walk}
use Rattle.dir_walk.specs.Puts.{AddsNoHiddenEmission, HandsUpOnlyEntryAtPath, one_at_or_beneath_path}
use Rattle.dir_walk.specs.Refused.{IsErrorOfEnteredDirectory, IsWalkErrorWithinLimit, IsWalkErrorByTree, IsWalkErrorByWalkResult}
use Rattle.dir_walk.specs.Report.{count_components}
use Rattle.dir_walk.specs.Told.{IsWalkOverSources, walk_result_of_directory_over_sources, walk_result_of_name_over_sources}
use Rattle.dir_walk.specs.Unopened.{count_too_deep_in_walk, count_unlisted_in_walk}
use Rattle.dir_walk.specs.Walked.{WalkResult}

-- A step of the walk: the directory at a path, of a class, or a name in the directory at a path.
pub data WalkStep : Type 0 where
  at_directory : List ℕ → Class → WalkStep
  at_name : List ℕ → List ℕ → WalkStep

abbrev pub path_of_step : WalkStep → List ℕ
path_of_step (at_directory path class) = path
path_of_step (at_name directory name) = path_joined_with_slash directory name

-- How deep it may go, where so many more levels of directories may be entered below a directory. A name that is entered takes one level
-- and adds one component, so the limit stays the same.
abbrev pub depth_limit_of_step : ℕ → WalkStep → ℕ
depth_limit_of_step levels (at_directory path class) = levels + count_components path
depth_limit_of_step levels (at_name directory name) = levels + count_components directory

-- what it gives over what is told
abbrev pub walk_result_of_step : WalkSetting → WalkStep → Option StackSetup → TreeAndObjects → WalkResult
walk_result_of_step given (at_directory path class) = λ made s. walk_result_of_directory_over_sources given made s path class
walk_result_of_step given (at_name directory name) = λ made s. walk_result_of_name_over_sources given made s (path_joined_with_slash directory name)

-- and why it is refused there
abbrev pub IsErrorOfStep : WalkSetting → WalkStep → Option StackSetup → TreeAndObjects → ℕ → Type 0 → Error → Type 0
IsErrorOfStep given (at_directory path class) = λ made s limit Failed. IsErrorOfEnteredDirectory given made s limit Failed path class
IsErrorOfStep given (at_name directory name) = λ made s limit Failed. IsWalkErrorByWalkResult given made s limit Failed (walk_result_of_name_over_sources given made s (path_joined_with_slash directory name))

-- How the directories that a step opens are counted, from one moment to another; it is handed a bound on how many they are. There are
-- three: of a walk over the worktree itself, of one whose subtrees are walked over forks, and of one of these.
abbrev pub OpenedCounting : Type 0 → Type 0 → Type 0 → Type 0 → Type 1
OpenedCounting W F I D = WalkState W F I D → WalkState W F I D → Result Handed Stop → (ℕ → Type 0) → Type 0

-- Some number of directories was opened over the worktree itself, which counted so many, as the walk did; the interrupt was asked at
-- least so often, and the number is within what is claimed. `own` is 1 where the directory of these names was opened in the step itself.
abbrev pub CountsOpenedDirectories : {W F I D : Type 0} → WorktreeOf W → InterruptOf I → WalkOptions → List (List ℕ) → ℕ → OpenedCounting W F I D
CountsOpenedDirectories w i o names own before now result Within =
    OpensBoundedDirectories w i before.worktree now.worktree before.interrupt now.interrupt before.outcome now.outcome o before.rules now.rules names own (count_refused_walk result) (count_too_deep_in_walk result) Within

-- all but `own` over forks
abbrev pub CountsOpenedByForks : {W F I D : Type 0} → WorktreeOf W → InterruptOf I → ℕ → OpenedCounting W F I D
CountsOpenedByForks w i own before now result Within =
    OpensDirectoriesMostlyOverForks w i before.worktree now.worktree before.interrupt now.interrupt before.outcome now.outcome own (count_too_deep_in_walk result) Within

-- all over a fork, of which the walk alone counts them
abbrev pub CountsOpenedOverOneFork : {W F I D : Type 0} → InterruptOf I → OpenedCounting W F I D
CountsOpenedOverOneFork i before now result Within = EntersBoundedDirectoriesOverForks i before.interrupt now.interrupt before.outcome now.outcome (count_too_deep_in_walk result) Within

-- ---- over what is told

-- A step over what is told (`IsWalkOverSources`), for a delegate that recurses by default. What it got is spoken of where it tells that.
pub record StepWalksOverSources {W F I D : Type 0} (w : WorktreeOf W) (f : FindOf F) (d : DelegateOf D) (before now : WalkState W F I D) (given : WalkSetting) (blocked : Option (List ℕ)) (levels : ℕ) (step : WalkStep) (result : Result Handed Stop) : Type 0 where
  -- After Ok without a fault of the worktree the delegate was given exactly what the step's walk there puts out and shows, in any
  -- order; the counts rose as there, what is handed up and `blocks` are as there, and nothing there is refused.
  pub gives : (made : Option StackSetup) (s : TreeAndObjects) → IsWalkOverSources given (w.told before.worktree) (f.holds before.objects) before.rules blocked made s → CountNotIncreased (w.faults before.worktree) (w.faults now.worktree)
      → d.is_default before.delegate ≡ true → (limit : ℕ) → depth_limit_of_step levels step ≡ limit
      → IfOk result (GivesAllWalkedUnrefused given.options limit (evidence_from_setting_and_sources given made s) (walk_result_of_step given step made s) (d.given before.delegate) (d.given now.delegate) before.outcome now.outcome)
  -- Refused or broken off without a fault, the delegate was given some of what is put out and shown there, and no more was seen than
  -- there.
  pub part : (made : Option StackSetup) (s : TreeAndObjects) → IsWalkOverSources given (w.told before.worktree) (f.holds before.objects) before.rules blocked made s → CountNotIncreased (w.faults before.worktree) (w.faults now.worktree)
      → d.is_default before.delegate ≡ true
      → OnErr result (AddsPartOfWalkResult given.options (walk_result_of_step given step made s) (d.given before.delegate) (d.given now.delegate) before.outcome now.outcome)
  -- A refusal is for what is there, or for a fault or what one hid. Of `Interrupted`, `OutOfMemory` and listings that failed nothing is
  -- said.
  pub refused : (made : Option StackSetup) (s : TreeAndObjects) → IsWalkOverSources given (w.told before.worktree) (f.holds before.objects) before.rules blocked made s → d.is_default before.delegate ≡ true → (limit : ℕ) → depth_limit_of_step levels step ≡ limit
      → IfErr result (HoldsOfErrorIfRefused (IsErrorOfStep given step made s limit (CountIncreasedOrSaturated (w.faults before.worktree) (w.faults now.worktree))))

-- no more directories are opened than are entered there, but for one where a listing was refused, or may have been, for want of memory
abbrev pub OpensAtMostEntered : {W F I D : Type 0} → WorktreeOf W → FindOf F → DelegateOf D → WalkState W F I D → WalkState W F I D → WalkSetting → Option (List ℕ) → ℕ → WalkStep → Result Handed Stop → ℕ → Type 0
OpensAtMostEntered w f d before now given blocked levels step result =
    OpensAtMostWalkedEntered w f d before.worktree now.worktree before.objects before.rules before.delegate given blocked (depth_limit_of_step levels step) (walk_result_of_step given step) (count_unlisted_in_walk result)

-- ---- over any worktree

-- A step over any worktree: what a refusal is about, what stays of what was handed in, and what the delegate is given.
pub record StepWalksOverAnyWorktree {W F I D : Type 0} (w : WorktreeOf W) (f : FindOf F) (i : InterruptOf I) (d : DelegateOf D) (before now : WalkState W F I D) (given : WalkSetting) (levels : ℕ) (step : WalkStep) (result : Result Handed Stop) : Type 0 where
  -- A refusal names a path within the limit, or one level below it if `TooDeep`; `Interrupted` and `OutOfMemory` name none, and
  -- `ExcludesAccess` a rules file or a blob of a directory within the limit. Those of a walk's beginning do not come.
  pub about : (limit : ℕ) → depth_limit_of_step levels step ≡ limit → IfErr result (HoldsOfErrorIfRefused (IsWalkErrorWithinLimit (setup_of_optional_stack before.rules) given.root limit))
  -- Over a told tree what `ReadDir` names cannot be listed, and over a told store too what `ExcludesAccess` names is refused, unless a
  -- fault is named.
  pub found : (s : TreeAndObjects) → w.told before.worktree ≡ Some s.tree → IfErr result (HoldsOfErrorIfRefused (IsWalkErrorByTree given.root (f.holds before.objects) s (setup_of_optional_stack before.rules)))
  -- A fault or an interrupt that caused a refusal was counted. Where the step is not refused, no listing failed and no interrupt came.
  pub caused : CountsCausesOfRefusals w f i before.worktree now.worktree before.objects now.objects before.interrupt now.interrupt result
  -- The worktree tells the same tree, the store the same objects, and no count of them falls.
  pub worktree : KeepsWorktree w before.worktree now.worktree
  pub store : KeepsStoredObjects f before.objects now.objects
  -- The interrupt was asked at least as often as it came.
  pub interrupt : AsksInterruptPerRaise i before.interrupt now.interrupt
  -- What the delegate tells that it was given in this step, and what is handed up, is at or beneath the step's path, no path twice; what is handed up
  -- is an entry at that path.
  pub hands : HandsUpOnlyEntryAtPath (path_of_step step) (one_at_or_beneath_path (path_of_step step)) (d.given before.delegate) (d.given now.delegate) before.outcome now.outcome result
  -- What the delegate was given before stays in front, whether it recurses by default stays, and no count of it falls.
  pub delegate : KeepsDelegateRunning d before.delegate now.delegate
  -- Of what it was given in this step the options hide nothing.
  pub filtered : AddsNoHiddenEmission given.options (d.given before.delegate) (d.given now.delegate)
  -- The step is broken off just where the delegate counted a Break, and that was its last answer.
  pub heeds : HeedsDelegateBreak d before.delegate now.delegate result
