-- What a call does that gives the class of a path.
use Rattle.std.specs.Prelude.{◌≡◌, ◌≤◌, ◌+◌, ℕ, Bool, true, false, ◌&&◌, if◌then◌else◌, List, Option, Some, None, Result, IfOk, IfErr, OnOk}
use Rattle.gitbase_core.specs.declared.find.Find.{Ghosts as FindOf}
use Rattle.gitbase_core.specs.declared.out_of_memory.OutOfMemory.{OutOfMemory}
use Rattle.worktree_fs.specs.declared.worktree.Worktree.{Ghosts as WorktreeOf}
use Rattle.worktree_fs.specs.Causes.{CountNotIncreased, CountIncreasedOrSaturated}
use Rattle.worktree_fs.specs.Kept.{KeepsStoredObjects, KeepsTreeAndListCounts}
use Rattle.worktree_stack.specs.Reading.{TreeAndObjects}
use Rattle.worktree_stack.specs.Setup.{StackSetup}
use Rattle.worktree_stack.specs.Stacked.{StackModel}
use Rattle.dir_classify.specs.declared.classify.Outcome.{Outcome}
use Rattle.dir_classify.specs.declared.entry.Kind.{Kind}
use Rattle.dir_classify.specs.declared.error.Error.{Error}
use Rattle.dir_classify.specs.Class.{may_have_tested_for_repository}
use Rattle.dir_classify.specs.Excludes.{setup_of_optional_stack, maps_rules_files_to_blobs, TellsTreeAndObjects, IsStackInStepIfGiven}
use Rattle.dir_classify.specs.Evidence.{PathEvidence}
use Rattle.dir_classify.specs.Faults.{IsOutcomeAsRead, IsRefusedByKindAsRead, IsOutcomeWithRulesReadOrUnasked}
use Rattle.dir_classify.specs.Kept.{AsksWorktreeForRules, KeepsRulesInStep, AsksRulesAtMostOnce, LeavesAllUnchanged, LeavesRulesUnasked}
use Rattle.dir_classify.specs.Layers.{WalkSetting, evidence_from_setting_and_sources, kind_on_disk_if_asked}
use Rattle.dir_classify.specs.Question.{ClassQuestion, question_about_path}
use Rattle.dir_classify.specs.Reads.{most_reads_to_classify_path}
use Rattle.dir_classify.specs.Refused.{IsClassErrorAboutPath, IsErrorOfUnreadableRules, HoldsIfExcludesError, HoldsIfFaultError, HoldsOfExcludesError, StopsAtRefusedDirectoryIfGiven}

-- What a question about a class that looks for a repository at the path answers, and leaves of the worktree, which was `w0` and is `w1`.
-- `judge` is the class by the evidence; where `idle` is true, no repository is looked for.
pub record ClassifiesByRepositoryTest {W : Type 0} (w : WorktreeOf W) (w0 w1 : W) (given : WalkSetting) (judge : PathEvidence → Outcome) (idle : Bool)
    (result : Result Outcome OutOfMemory) : Type 0 where
  -- Over a told tree and without a fault it is exactly the class. With faults it is the class by what was read.
  pub class : (s : TreeAndObjects) → w.told w0 ≡ Some s.tree → CountNotIncreased (w.faults w0) (w.faults w1) → (made : Option StackSetup)
      → IfOk result (λ c. c ≡ judge (evidence_from_setting_and_sources given made s))
  pub swallowed : (s : TreeAndObjects) → w.told w0 ≡ Some s.tree → (made : Option StackSetup) → (on_disk : Option Kind)
      → IfOk result (IsOutcomeAsRead (w.faults w0) (w.faults w1) (λ _ ev. judge ev) (evidence_from_setting_and_sources given made s) on_disk)
  -- The tree stays, and the worktree is read only so often, and not at all where no repository is looked for.
  pub keeps : KeepsTreeAndListCounts w w0 w1
  pub reads_most : w.reads w1 ≤ w.reads w0 + most_reads_to_classify_path given.options
  pub unasked : idle ≡ true → w1 ≡ w0
  pub sought : IfOk result (λ c. may_have_tested_for_repository given.options c ≡ false → w1 ≡ w0)

-- What is asked of the ignore rules about a path, and of a worktree and a store for them, whatever is answered: a worktree was `w0`
-- and is `w1`, a store was `o0` and is `o1`, and the rules were `old` and are `new`. To find repositories the worktree is read at most
-- `most` times more.
pub record AsksRulesAboutPath {W F T : Type 0} (w : WorktreeOf W) (f : FindOf F) (w0 w1 : W) (o0 o1 : F) (old new : Option StackModel)
    (most : ℕ) (path : List ℕ) (result : Result T Error) : Type 0 where
  -- Each refusal has its cause, and the rules stopped where they were refused.
  pub about : IfErr result (IsClassErrorAboutPath (setup_of_optional_stack old) path)
  pub refused : (s : TreeAndObjects) → TellsTreeAndObjects (w.told w0) (f.holds o0) (setup_of_optional_stack old) s → IfErr result (IsErrorOfUnreadableRules s (setup_of_optional_stack old) path)
  pub stopped : IfErr result (HoldsOfExcludesError (StopsAtRefusedDirectoryIfGiven (w.told w0) (f.holds o0) (CountIncreasedOrSaturated (w.faults w0) (w.faults w1)) (CountIncreasedOrSaturated (f.faults o0) (f.faults o1)) path old new))
  pub cause : IfErr result (HoldsIfFaultError (CountIncreasedOrSaturated (w.faults w0) (w.faults w1)) (CountIncreasedOrSaturated (f.faults o0) (f.faults o1)))
  -- What stays.
  pub keeps : AsksWorktreeForRules w w0 w1
  pub store : KeepsStoredObjects f o0 o1
  pub unmapped : maps_rules_files_to_blobs (setup_of_optional_stack old) ≡ false → o1 ≡ o0
  pub rules : KeepsRulesInStep w f w0 o0 old new
  -- Told or not, the rules were asked at most once, and about no other path, and so often was the worktree read at most.
  pub reads : AsksRulesAtMostOnce most path (w.reads w0) (w.reads w1) o0 o1 old new result

-- What a question about the class of a path answers and leaves, by the kind on disk, where that may be asked, and by the evidence; a
-- worktree was `w0` and is `w1`, a store was `o0` and is `o1`, and the rules were `old` and are `new`.
pub record AnswersClassQuestion {W F : Type 0} (w : WorktreeOf W) (f : FindOf F) (w0 w1 : W) (o0 o1 : F) (old new : Option StackModel)
    (given : WalkSetting) (q : ClassQuestion) (result : Result Outcome Error) : Type 0 where
  -- Over a told tree and a told store with which the rules are in step, and without a fault, it is exactly the class,
  -- and all rules that it needs were read.
  pub class : (s : TreeAndObjects) → TellsTreeAndObjects (w.told w0) (f.holds o0) (setup_of_optional_stack old) s → IsStackInStepIfGiven s old → CountNotIncreased (w.faults w0) (w.faults w1)
      → IfOk result (λ c. c ≡ q.judge (kind_on_disk_if_asked given s.tree q.path q.ask_disk) (evidence_from_setting_and_sources given (setup_of_optional_stack old) s))
  pub read : (s : TreeAndObjects) → TellsTreeAndObjects (w.told w0) (f.holds o0) (setup_of_optional_stack old) s → IsStackInStepIfGiven s old → CountNotIncreased (w.faults w0) (w.faults w1)
      → OnOk result ((q.asks (kind_on_disk_if_asked given s.tree q.path q.ask_disk) (evidence_from_setting_and_sources given (setup_of_optional_stack old) s) && (evidence_from_setting_and_sources given (setup_of_optional_stack old) s).is_unread q.path) ≡ false)
  -- With faults it is the class by what was read, and a fault was counted for each question that was misread. All rules that are asked
  -- by that were read, and they are asked only then.
  pub swallowed : (s : TreeAndObjects) → TellsTreeAndObjects (w.told w0) (f.holds o0) (setup_of_optional_stack old) s → IsStackInStepIfGiven s old
      → IfOk result (IsOutcomeWithRulesReadOrUnasked (w.faults w0) (w.faults w1) q (evidence_from_setting_and_sources given (setup_of_optional_stack old) s) (kind_on_disk_if_asked given s.tree q.path q.ask_disk)
      (LeavesRulesUnasked (most_reads_to_classify_path given.options) (w.reads w0) (w.reads w1) o0 o1 old new))
  -- So it is where the rules are not asked, whether or not they and the store are told and in step.
  pub unruled : (s : TreeAndObjects) → w.told w0 ≡ Some s.tree → CountNotIncreased (w.faults w0) (w.faults w1)
      → q.asks (kind_on_disk_if_asked given s.tree q.path q.ask_disk) (evidence_from_setting_and_sources given (setup_of_optional_stack old) s) ≡ false
      → IfOk result (λ c. c ≡ q.judge (kind_on_disk_if_asked given s.tree q.path q.ask_disk) (evidence_from_setting_and_sources given (setup_of_optional_stack old) s))
  -- The rules are asked at most once, and about no other path. If they are refused, they were asked by the kind that was read.
  pub asking : AsksRulesAboutPath w f w0 w1 o0 o1 old new (most_reads_to_classify_path given.options) q.path result
  pub asked : (s : TreeAndObjects) → w.told w0 ≡ Some s.tree
      → IfErr result (HoldsOfExcludesError (IsRefusedByKindAsRead (w.faults w0) (w.faults w1) (λ kind. q.asks kind (evidence_from_setting_and_sources given (setup_of_optional_stack old) s)) (kind_on_disk_if_asked given s.tree q.path q.ask_disk)))
  -- The worktree is read for them alone where no repository is looked for: over a told tree and without a fault by the evidence; told
  -- or not, where the class says so, and where rules are refused.
  pub unsought : (s : TreeAndObjects) → TellsTreeAndObjects (w.told w0) (f.holds o0) (setup_of_optional_stack old) s → IsStackInStepIfGiven s old → CountNotIncreased (w.faults w0) (w.faults w1)
      → q.seeks (kind_on_disk_if_asked given s.tree q.path q.ask_disk) (evidence_from_setting_and_sources given (setup_of_optional_stack old) s) ≡ false
      → AsksRulesAtMostOnce 0 q.path (w.reads w0) (w.reads w1) o0 o1 old new result
  pub sought : IfOk result (λ c. may_have_tested_for_repository given.options c ≡ false → AsksRulesAtMostOnce 0 q.path (w.reads w0) (w.reads w1) o0 o1 old new result)
  pub early : IfErr result (HoldsIfExcludesError (AsksRulesAtMostOnce 0 q.path (w.reads w0) (w.reads w1) o0 o1 old new result))
  -- Nor were they asked, where they are not whatever the kind on disk is; then it is refused for want of memory alone.
  pub spared : (s : TreeAndObjects) → ((kind : Option Kind) → q.asks (if q.ask_disk then kind else None) (evidence_from_setting_and_sources given (setup_of_optional_stack old) s) ≡ false)
      → LeavesRulesUnasked (most_reads_to_classify_path given.options) (w.reads w0) (w.reads w1) o0 o1 old new
  pub memory : (s : TreeAndObjects) → ((kind : Option Kind) → q.asks (if q.ask_disk then kind else None) (evidence_from_setting_and_sources given (setup_of_optional_stack old) s) ≡ false)
      → IfErr result (HoldsIfExcludesError ⊥)
  -- Over a told tree and without a fault, they are not asked in vain.
  pub unasked : (s : TreeAndObjects) → w.told w0 ≡ Some s.tree → CountNotIncreased (w.faults w0) (w.faults w1)
      → q.asks (kind_on_disk_if_asked given s.tree q.path q.ask_disk) (evidence_from_setting_and_sources given (setup_of_optional_stack old) s) ≡ false
      → LeavesRulesUnasked (most_reads_to_classify_path given.options) (w.reads w0) (w.reads w1) o0 o1 old new
  -- Where no repository is looked for either, it is not read.
  pub unread : (s : TreeAndObjects) → w.told w0 ≡ Some s.tree → CountNotIncreased (w.faults w0) (w.faults w1)
      → q.asks (kind_on_disk_if_asked given s.tree q.path q.ask_disk) (evidence_from_setting_and_sources given (setup_of_optional_stack old) s) ≡ false
      → q.seeks (kind_on_disk_if_asked given s.tree q.path q.ask_disk) (evidence_from_setting_and_sources given (setup_of_optional_stack old) s) ≡ false → w.reads w1 ≡ w.reads w0
  -- Told or not, where nothing is asked of the worktree it is as it was, and it is exactly the class.
  pub untouched : (s : TreeAndObjects) → q.nothing (evidence_from_setting_and_sources given (setup_of_optional_stack old) s) ≡ true → LeavesAllUnchanged w0 w1 o0 o1 old new
  pub certain : (s : TreeAndObjects) → q.nothing (evidence_from_setting_and_sources given (setup_of_optional_stack old) s) ≡ true → IfOk result (λ c. c ≡ q.judge None (evidence_from_setting_and_sources given (setup_of_optional_stack old) s))

-- The class of a path, which is the known kind or else, where the disk may be asked, that of its node.
abbrev pub ClassifiesPath : {W F : Type 0} → WorktreeOf W → FindOf F → W → W → F → F → Option StackModel → Option StackModel
    → WalkSetting → List ℕ → Option Kind → Bool → Result Outcome Error → Type 0
ClassifiesPath w f w0 w1 o0 o1 old new given path known ask_disk result =
    AnswersClassQuestion w f w0 w1 o0 o1 old new given (question_about_path given.options path known ask_disk) result
