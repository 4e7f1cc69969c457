-- What a walk does from its traversal root on.
use Rattle.std.specs.Prelude.{◌≡◌, ℕ, true, false, not, ◌&&◌, List, [], ◌∷◌, Option, Some, Result, IfErr, OnOk, OnErr}
use Rattle.gitbase_core.specs.Path.{is_empty}
use Rattle.worktree_stack.specs.Reading.{TreeAndObjects}
use Rattle.worktree_stack.specs.Setup.{StackSetup}
use Rattle.dir_classify.specs.declared.classify.RootOutcome.{RootOutcome}
use Rattle.dir_classify.specs.declared.error.Error.{Error}
use Rattle.dir_classify.specs.declared.error.Error.TheVariants as errors
use Rattle.dir_classify.specs.Chosen.{WalkOptions}
use Rattle.dir_classify.specs.Entries.{entry_with_outcome}
use Rattle.dir_classify.specs.Kinds.{is_some_directory_kind}
use Rattle.dir_classify.specs.Layers.{WalkSetting, evidence_from_setting_and_sources}
use Rattle.dir_classify.specs.Rooted.{end_of_way_to_root}
use Rattle.dir_walk.specs.declared.delegate.Delegate.{Ghosts as DelegateOf}
use Rattle.dir_walk.specs.declared.handed.Stop.{Stop}
use Rattle.dir_walk.specs.declared.outcome.Outcome.{Outcome}
use Rattle.dir_walk.specs.Emissions.{Emission, uncollapsed_emission}
use Rattle.dir_walk.specs.Emits.{AddsEmissionsAndCounts, GivesAllWalkedAndHandedUp, AddsAtMostEmissionsAndSeen, count_shown_passing}
use Rattle.dir_walk.specs.Given.{HoldsOfErrorIfRefused}
use Rattle.dir_walk.specs.Root.{walk_result_from_traversal_root}
use Rattle.dir_walk.specs.WalkRefused.{HoldsIfNothingStarted}
use Rattle.dir_walk.specs.Walked.{WalkResult}

-- It gives all that is walked from there, and the rules of all paths on the way could be read.
pub record GivesWalkFromRoot (given : WalkSetting) (made : Option StackSetup) (s : TreeAndObjects) (root : List ℕ) (limit : ℕ) (before after : Option (List Emission)) (start stop : Outcome) : Type 0 where
  pub w : WalkResult
  pub walked_is : walk_result_from_traversal_root given made s root ≡ Some w
  pub read : (end_of_way_to_root given made s root).is_unread ≡ false
  pub gives : GivesAllWalkedAndHandedUp given.options limit (evidence_from_setting_and_sources given made s) w before after start stop

-- it is refused as the worktree root is no directory, or for want of memory
abbrev pub IsNonDirectoryRootError : List ℕ → List ℕ → RootOutcome → Error → Type 0
IsNonDirectoryRootError top root reached errors.Interrupted = ⊥
IsNonDirectoryRootError top root reached (errors.WorktreeRootIsFile path) = (path ≡ top) × (is_empty root ≡ true) × (is_some_directory_kind reached.outcome.disk_kind ≡ false)
IsNonDirectoryRootError top root reached (errors.NormalizeRoot path) = ⊥
IsNonDirectoryRootError top root reached (errors.SymlinkInRoot path worktree_root index) = ⊥
IsNonDirectoryRootError top root reached (errors.SymlinkMetadata path why) = ⊥
IsNonDirectoryRootError top root reached (errors.ExcludesAccess e) = ⊥
IsNonDirectoryRootError top root reached (errors.TooDeep path) = ⊥
IsNonDirectoryRootError top root reached (errors.ReadDir path why) = ⊥
IsNonDirectoryRootError top root reached (errors.DirEntry path) = ⊥
IsNonDirectoryRootError top root reached errors.OutOfMemory = Unit {0}

-- Where nothing is entered the one entry is put out, unless the worktree root is no directory.
pub record EmitsUnenteredRoot {D T : Type 0} (d : DelegateOf D) (o : WalkOptions) (top root : List ℕ) (reached : RootOutcome) (d0 d1 : D) (start stop : Outcome) (result : Result T Stop) : Type 0 where
  pub there : OnOk result ((is_empty root && not (is_some_directory_kind reached.outcome.disk_kind)) ≡ false)
  pub gives : OnOk result (AddsEmissionsAndCounts (d.given d0) (d.given d1) start stop (λ p. count_shown_passing o p (uncollapsed_emission (entry_with_outcome reached.path reached.outcome) ∷ [])) 1 0)
  pub part : OnErr result (AddsAtMostEmissionsAndSeen (d.given d0) (d.given d1) start stop (λ p. count_shown_passing o p (uncollapsed_emission (entry_with_outcome reached.path reached.outcome) ∷ [])) 1)
  pub refused : IfErr result (HoldsOfErrorIfRefused (IsNonDirectoryRootError top root reached))
  pub unfed : IfErr result (HoldsOfErrorIfRefused (HoldsIfNothingStarted (d.given d1 ≡ d.given d0)))
