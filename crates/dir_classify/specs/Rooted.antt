-- What a call does that classes the paths on the way to a traversal root.
use Rattle.std.specs.Prelude.{◌≡◌, ◌≤◌, ◌⊎◌, ℕ, ◌+◌, Bool, true, false, List, [], ◌++◌, length, Option, Some, None, Result, Ok, Err, IfOk, IfErr, OnOk, is_some}
use Rattle.std.specs.Str.{bytes_eq}
use Rattle.gitbase_core.specs.Objects.{ObjectsById}
use Rattle.gitbase_core.specs.Path.{components, is_empty, path_joined_with_slash}
use Rattle.gitbase_core.specs.declared.find.Find.{Ghosts as FindOf}
use Rattle.worktree_fs.specs.declared.worktree.Worktree.{Ghosts as WorktreeOf}
use Rattle.worktree_fs.specs.Causes.{CountNotIncreased, CountIncreasedOrSaturated}
use Rattle.worktree_fs.specs.Kept.{KeepsStoredObjects}
use Rattle.worktree_fs.specs.Paths.{is_nil, slash_joined_components, all_but_last}
use Rattle.worktree_fs.specs.PathStack.{IsNothingOrProperAncestor}
use Rattle.worktree_fs.specs.Tree.{Names}
use Rattle.worktree_stack.specs.declared.error.AtPathError.{AtPathError}
use Rattle.worktree_stack.specs.Lookups.{directories_kept_by_lookup, one_if_refused}
use Rattle.worktree_stack.specs.Reading.{TreeAndObjects}
use Rattle.worktree_stack.specs.Setup.{StackSetup}
use Rattle.worktree_stack.specs.Stacked.{StackModel, pushed_directories}
use Rattle.dir_classify.specs.declared.classify.RootOutcome.{RootOutcome}
use Rattle.dir_classify.specs.declared.entry.Kind.{Kind}
use Rattle.dir_classify.specs.declared.error.Error.{Error}
use Rattle.dir_classify.specs.declared.error.Error.TheVariants as errors
use Rattle.dir_classify.specs.Class.{asks_ignore_rules, tests_path_for_repository}
use Rattle.dir_classify.specs.Excludes.{setup_of_optional_stack, maps_rules_files_to_blobs, lookup_count_of_stack, directories_pushed_in_stack, has_attributes_if_given, TellsTreeAndObjects, IsStackInStepIfGiven}
use Rattle.dir_classify.specs.Kept.{AsksWorktreeForRules, KeepsRulesInStep, LeavesPushedByFirstCalls, StandsAtPathIfGiven, LeavesRulesUnasked}
use Rattle.dir_classify.specs.Layers.{WalkSetting, evidence_from_setting_and_sources, kind_on_disk_if_asked}
use Rattle.dir_classify.specs.Reads.{most_reads_on_way, most_reads_to_classify_path}
use Rattle.dir_classify.specs.Refused.{IsClassErrorAboutPath, IsErrorOfUnreadableRules, HoldsIfExcludesError, HoldsIfFaultError, HoldsOfExcludesError, StopsAtRefusedDirectoryIfGiven}
use Rattle.dir_classify.specs.Way.{EndOfWayToRoot, count_asking_rules_behind_path, way_continues_beneath, end_of_way_from_worktree_root, EndsWayFromRootAsRead, IsRefusedOnWayAsRead}

-- an answer is where the way ended
abbrev pub reached_of_root_outcome : RootOutcome → Bool → EndOfWayToRoot
reached_of_root_outcome root unread = record { path = root.path; class = root.outcome; in_repository = root.worktree_root_is_repository; whole = root.whole; is_unread = unread }

-- where the way through the components of a traversal root ends, over a tree and a store
abbrev pub end_of_way_to_root : WalkSetting → Option StackSetup → TreeAndObjects → List ℕ → EndOfWayToRoot
end_of_way_to_root given made s root = end_of_way_from_worktree_root given.options (evidence_from_setting_and_sources given made s) (λ path. kind_on_disk_if_asked given s.tree path true) (components root)

-- a path on the way: its components are the first ones of the traversal root, and one slash parts each two of them
pub record IsPathOnWayToRoot (root path : List ℕ) : Type 0 where
  pub spelled_is : path ≡ slash_joined_components (components path)
  pub rest : List (List ℕ)
  pub components_are : components root ≡ components path ++ rest

-- it is said of a path on the way
abbrev pub HoldsOfPathOnWay : List ℕ → (List ℕ → Type 0) → Type 0
HoldsOfPathOnWay root Said = (path : List ℕ) × IsPathOnWayToRoot root path × Said path

-- What was pushed where the last of some paths was looked up, each beneath the one before it: what was pushed at first, where it
-- is the first one; else exactly the directories above the one before it.
abbrev pub IsPushedBeforeLastLookup : (first last : List ℕ) → (old before : Option (List (List ℕ))) → Type 0
IsPushedBeforeLastLookup first last old before =
    ((last ≡ first) × (before ≡ old)) ⊎ ((path : List ℕ) × IsPathOnWayToRoot path first × IsPathOnWayToRoot last path × (before ≡ Some (all_but_last (components path))))

-- The rules were asked about paths on the way to one, and not about the worktree root: about each at most once, and nothing that was
-- counted is lost. Answered they stand at the last of these
-- paths; and what is pushed is what its lookup left, on the way there. Where the rules are ignore rules alone,
-- the worktree was read at most once for each directory that was pushed or refused from the first of these paths on, and for each path on
-- the way so often more to find repositories.
pub record AsksRulesOnWay {T E : Type 0} (most : ℕ) (root : List ℕ) (reads0 reads1 : ℕ) (old new : Option StackModel) (result : Result T E) : Type 0 where
  pub given : is_some old ≡ true
  pub first : List ℕ
  pub beneath : is_empty first ≡ false
  pub last : List ℕ
  pub leads : IsPathOnWayToRoot root last
  pub behind : IsPathOnWayToRoot last first
  pub asked_one : CountIncreasedOrSaturated (lookup_count_of_stack old) (lookup_count_of_stack new)
  pub at_most : lookup_count_of_stack new ≤ lookup_count_of_stack old + length behind.rest + 1
  pub looked_up : OnOk result (StandsAtPathIfGiven new last)
  pub on_way : IsNothingOrProperAncestor (directories_pushed_in_stack new) (components last)
  pub before : Option (List (List ℕ))
  pub before_is : IsPushedBeforeLastLookup first last (directories_pushed_in_stack old) before
  pub leaves : LeavesPushedByFirstCalls last before (directories_pushed_in_stack new)
  pub reads : has_attributes_if_given (setup_of_optional_stack old) ≡ false
      → reads1 + length (pushed_directories (directories_kept_by_lookup (directories_pushed_in_stack old) (components first)))
      ≤ reads0 + length (pushed_directories (directories_pushed_in_stack new)) + one_if_refused result + most_reads_on_way most (components root)

-- The rules were asked about paths on the way to one, or they were not asked.
abbrev pub AsksRulesOnWayOrNot : {F T E : Type 0} → ℕ → List ℕ → ℕ → ℕ → F → F → Option StackModel → Option StackModel → Result T E → Type 0
AsksRulesOnWayOrNot most root reads0 reads1 o0 o1 old new result =
    LeavesRulesUnasked (most_reads_on_way most (components root)) reads0 reads1 o0 o1 old new ⊎ AsksRulesOnWay most root reads0 reads1 old new result

-- How far the rules may have been asked: up to the path that was classed last, and refused somewhere on the way.
abbrev pub last_path_asked_on_way : List ℕ → Result RootOutcome Error → List ℕ
last_path_asked_on_way root (Ok r) = r.path
last_path_asked_on_way root (Err e) = root

-- The rules, where they were asked about paths above one on the way to it alone, about each at most once: they stand at the last of
-- these.
pub record StandsAtPathAbove (path : List ℕ) (old new : Option StackModel) : Type 0 where
  pub first : List ℕ
  pub beneath : is_empty first ≡ false
  pub last : List ℕ
  pub leads : IsPathOnWayToRoot path last
  pub above : is_nil leads.rest ≡ false
  pub behind : IsPathOnWayToRoot last first
  pub asked_one : CountIncreasedOrSaturated (lookup_count_of_stack old) (lookup_count_of_stack new)
  pub at_most : lookup_count_of_stack new ≤ lookup_count_of_stack old + length behind.rest + 1
  pub looked_up : StandsAtPathIfGiven new last

-- The rules of a directory above a path were refused, and for what they are.
abbrev pub IsRefusedForRulesOfPath : TreeAndObjects → Option StackSetup → List ℕ → Error → Type 0
IsRefusedForRulesOfPath s made path e = IsClassErrorAboutPath made path e × IsErrorOfUnreadableRules s made path e

-- A lookup on the way stopped at a directory whose rules were refused so. It began as the rules were `before`: as they were at first, or
-- when nothing but paths above on the way was looked up.
pub record StopsAtRefusedDirectoryOnWay (told : Option Names) (holds : Option ObjectsById) (TreeFailed StoreFailed : Type 0) (path : List ℕ) (old new : Option StackModel) (e : AtPathError) : Type 0 where
  pub before : Option StackModel
  pub since : (before ≡ old) ⊎ StandsAtPathAbove path old before
  pub made : setup_of_optional_stack before ≡ setup_of_optional_stack old
  pub in_step : (s : TreeAndObjects) → TellsTreeAndObjects told holds (setup_of_optional_stack old) s → IsStackInStepIfGiven s old → IsStackInStepIfGiven s before
  pub stops : StopsAtRefusedDirectoryIfGiven told holds TreeFailed StoreFailed path before new e

-- What it answers and leaves; a worktree was `w0` and is `w1`, a store was `o0` and is `o1`, and the rules were `old` and are
-- `new`.
pub record ClassifiesWayToRoot {W F : Type 0} (w : WorktreeOf W) (f : FindOf F) (w0 w1 : W) (o0 o1 : F) (old new : Option StackModel)
    (given : WalkSetting) (root : List ℕ) (result : Result RootOutcome Error) : Type 0 where
  -- Over a told tree and a told store with which the rules are in step, and without a fault, it is exactly where the way ends,
  -- and all rules that it needs were read.
  pub reached : (s : TreeAndObjects) → TellsTreeAndObjects (w.told w0) (f.holds o0) (setup_of_optional_stack old) s → IsStackInStepIfGiven s old → CountNotIncreased (w.faults w0) (w.faults w1)
      → IfOk result (λ r. reached_of_root_outcome r false ≡ end_of_way_to_root given (setup_of_optional_stack old) s root)
  -- So it is for the empty path, of which the rules are not asked, whether or not they and the store are told and in step.
  pub top : root ≡ [] → (s : TreeAndObjects) → w.told w0 ≡ Some s.tree → CountNotIncreased (w.faults w0) (w.faults w1)
      → IfOk result (λ r. reached_of_root_outcome r false ≡ end_of_way_to_root given (setup_of_optional_stack old) s root)
  -- With faults it is where the way ends by what was read, and a fault was counted for each question that was misread.
  pub swallowed : (s : TreeAndObjects) → TellsTreeAndObjects (w.told w0) (f.holds o0) (setup_of_optional_stack old) s → IsStackInStepIfGiven s old
      → IfOk result (λ r. EndsWayFromRootAsRead (w.faults w0) (w.faults w1) given.options (evidence_from_setting_and_sources given (setup_of_optional_stack old) s) (λ path. kind_on_disk_if_asked given s.tree path true) (components root) (reached_of_root_outcome r false))
  -- Told or not, the path is one on the way, and it is said whether it is the whole one.
  pub prefix : IfOk result (λ r. IsPathOnWayToRoot root r.path)
  pub whole : IfOk result (λ r. r.whole ≡ bytes_eq r.path root)
  -- Where it is not, its class is one through which the way does not go on.
  pub ended : IfOk result (λ r. r.whole ≡ false → way_continues_beneath given.options r.path r.outcome r.worktree_root_is_repository ≡ false)
  -- Each refusal has its cause.
  pub about : IfErr result (λ e. HoldsOfPathOnWay root (λ path. IsClassErrorAboutPath (setup_of_optional_stack old) path e))
  pub refused : (s : TreeAndObjects) → TellsTreeAndObjects (w.told w0) (f.holds o0) (setup_of_optional_stack old) s
      → IfErr result (λ e. HoldsOfPathOnWay root (λ path. IsRefusedForRulesOfPath s (setup_of_optional_stack old) path e))
  -- In step and without a fault it is of a path on the way that is.
  pub met : (s : TreeAndObjects) → TellsTreeAndObjects (w.told w0) (f.holds o0) (setup_of_optional_stack old) s → IsStackInStepIfGiven s old → CountNotIncreased (w.faults w0) (w.faults w1)
      → IfErr result (λ e. HoldsOfPathOnWay (end_of_way_to_root given (setup_of_optional_stack old) s root).path (λ path. IsRefusedForRulesOfPath s (setup_of_optional_stack old) path e))
  pub asked : (s : TreeAndObjects) → TellsTreeAndObjects (w.told w0) (f.holds o0) (setup_of_optional_stack old) s → IsStackInStepIfGiven s old → CountNotIncreased (w.faults w0) (w.faults w1)
      → IfErr result (HoldsIfExcludesError (((end_of_way_to_root given (setup_of_optional_stack old) s root).is_unread ≡ true) ⊎ CountIncreasedOrSaturated (f.faults o0) (f.faults o1)))
  -- With faults it is refused by what was read: the rules were asked about the next path beneath one that the way came to, and of no
  -- other path is the lookup that was refused.
  pub asked_so : (s : TreeAndObjects) → TellsTreeAndObjects (w.told w0) (f.holds o0) (setup_of_optional_stack old) s → IsStackInStepIfGiven s old
      → IfErr result (HoldsOfExcludesError (λ e.
      (so : IsRefusedOnWayAsRead (w.faults w0) (w.faults w1) given.options (evidence_from_setting_and_sources given (setup_of_optional_stack old) s) (λ path. kind_on_disk_if_asked given s.tree path true) (components root) e)
      × IsRefusedForRulesOfPath s (setup_of_optional_stack old) (path_joined_with_slash so.above.path so.name) (errors.ExcludesAccess e)))
  pub stopped : IfErr result (HoldsOfExcludesError (λ e. HoldsOfPathOnWay root (λ path. StopsAtRefusedDirectoryOnWay (w.told w0) (f.holds o0) (CountIncreasedOrSaturated (w.faults w0) (w.faults w1)) (CountIncreasedOrSaturated (f.faults o0) (f.faults o1)) path old new e)))
  pub cause : IfErr result (HoldsIfFaultError (CountIncreasedOrSaturated (w.faults w0) (w.faults w1)) (CountIncreasedOrSaturated (f.faults o0) (f.faults o1)))
  -- What stays.
  pub keeps : AsksWorktreeForRules w w0 w1
  pub store : KeepsStoredObjects f o0 o1
  pub unmapped : maps_rules_files_to_blobs (setup_of_optional_stack old) ≡ false → o1 ≡ o0
  pub rules : KeepsRulesInStep w f w0 o0 old new
  pub reads : AsksRulesOnWayOrNot (most_reads_to_classify_path given.options) (last_path_asked_on_way root result) (w.reads w0) (w.reads w1) o0 o1 old new result
  -- Over a told tree and without a fault the worktree is read for them alone where no path on the way looks for a repository.
  pub unsought : (s : TreeAndObjects) → TellsTreeAndObjects (w.told w0) (f.holds o0) (setup_of_optional_stack old) s → IsStackInStepIfGiven s old → CountNotIncreased (w.faults w0) (w.faults w1)
      → ((path : List ℕ) → IsPathOnWayToRoot (last_path_asked_on_way root result) path → tests_path_for_repository given.options (evidence_from_setting_and_sources given (setup_of_optional_stack old) s) path (kind_on_disk_if_asked given s.tree path true) None ≡ false)
      → AsksRulesOnWayOrNot 0 (last_path_asked_on_way root result) (w.reads w0) (w.reads w1) o0 o1 old new result
  -- Nor are the rules asked in vain: over it and without a fault at most so often as paths on the way ask them.
  pub needed : (s : TreeAndObjects) → w.told w0 ≡ Some s.tree → CountNotIncreased (w.faults w0) (w.faults w1)
      → lookup_count_of_stack new ≤ lookup_count_of_stack old + count_asking_rules_behind_path given.options (evidence_from_setting_and_sources given (setup_of_optional_stack old) s) (λ path. kind_on_disk_if_asked given s.tree path true) [] (components (last_path_asked_on_way root result))
  -- The rules are not asked where no path on the way asks them whatever its kind is, and then it is refused for want of memory
  -- alone; and over a told tree and without a fault, where none asks them by its kind.
  pub spared : (s : TreeAndObjects)
      → ((path : List ℕ) → IsPathOnWayToRoot (last_path_asked_on_way root result) path → (kind : Option Kind) → asks_ignore_rules given.options (evidence_from_setting_and_sources given (setup_of_optional_stack old) s) path kind None ≡ false)
      → LeavesRulesUnasked (most_reads_on_way (most_reads_to_classify_path given.options) (components (last_path_asked_on_way root result))) (w.reads w0) (w.reads w1) o0 o1 old new × IfErr result (HoldsIfExcludesError ⊥)
  pub unasked : (s : TreeAndObjects) → w.told w0 ≡ Some s.tree → CountNotIncreased (w.faults w0) (w.faults w1)
      → ((path : List ℕ) → IsPathOnWayToRoot (last_path_asked_on_way root result) path → asks_ignore_rules given.options (evidence_from_setting_and_sources given (setup_of_optional_stack old) s) path (kind_on_disk_if_asked given s.tree path true) None ≡ false)
      → LeavesRulesUnasked (most_reads_on_way (most_reads_to_classify_path given.options) (components (last_path_asked_on_way root result))) (w.reads w0) (w.reads w1) o0 o1 old new
