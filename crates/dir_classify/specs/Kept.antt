-- What the class of a path leaves of a worktree and of the ignore rules.
use Rattle.std.specs.Prelude.{◌≡◌, ◌≤◌, ◌⊎◌, ℕ, ◌+◌, ◌++◌, true, false, List, length, map, Option, Result, OnOk, IsSomeAnd, is_some}
use Rattle.gitbase_core.specs.Causes.{saturating_increment as one_more}
use Rattle.gitbase_core.specs.Path.{components}
use Rattle.gitbase_core.specs.declared.find.Find.{Ghosts as FindOf}
use Rattle.worktree_fs.specs.declared.worktree.Worktree.{Ghosts as WorktreeOf}
use Rattle.worktree_fs.specs.Kept.{KeepsTreeAndListCounts}
use Rattle.worktree_fs.specs.PathStack.{DelegateCall, IsNothingOrProperAncestor, pushed_directory_paths, call_without_refusal, directories_after_delegate_calls, delegate_calls_of_lookup}
use Rattle.worktree_stack.specs.Lookups.{StandsAtPath, directories_kept_by_lookup, one_if_refused}
use Rattle.worktree_stack.specs.Reading.{TreeAndObjects}
use Rattle.worktree_stack.specs.Stacked.{StackModel, pushed_directories}
use Rattle.dir_classify.specs.Excludes.{setup_of_optional_stack, lookup_count_of_stack, directories_pushed_in_stack, has_attributes_if_given, TellsTreeAndObjects, IsStackInStepIfGiven}

-- A worktree that was asked for kinds, for repositories and for rules. It was not listed, and its counts did not fall.
abbrev pub AsksWorktreeForRules : {W : Type 0} → WorktreeOf W → W → W → Type 0
AsksWorktreeForRules w before now = KeepsTreeAndListCounts w before now

-- Rules that are given stay what they were made with, and in step with a tree and a store, where the worktree and the store had
-- them: a worktree was `w0`, and a store was `o0`.
pub record KeepsRulesInStep {W F : Type 0} (w : WorktreeOf W) (f : FindOf F) (w0 : W) (o0 : F) (old new : Option StackModel) : Type 0 where
  pub made : setup_of_optional_stack new ≡ setup_of_optional_stack old
  pub in_step : (s : TreeAndObjects) → TellsTreeAndObjects (w.told w0) (f.holds o0) (setup_of_optional_stack old) s → IsStackInStepIfGiven s old → IsStackInStepIfGiven s new

-- The rules were not asked: they and the store are as they were, and nothing was read for them. To find repositories the worktree was
-- read so often at most.
pub record LeavesRulesUnasked {F : Type 0} (most reads0 reads1 : ℕ) (o0 o1 : F) (old new : Option StackModel) : Type 0 where
  pub same : new ≡ old
  pub store : o1 ≡ o0
  pub reads : reads1 ≤ reads0 + most

-- rules that are given stand looked up at a path
abbrev pub StandsAtPathIfGiven : Option StackModel → List ℕ → Type 0
StandsAtPathIfGiven excludes path = IsSomeAnd excludes (λ s. StandsAtPath s (components path))

-- What is pushed after a lookup is what some first ones of its calls leave; all of them, where it was answered.
pub record LeavesPushedByFirstCalls (path : List ℕ) (old new : Option (List (List ℕ))) : Type 0 where
  pub done : List DelegateCall
  pub undone : List DelegateCall
  pub calls_are : delegate_calls_of_lookup old (components path) ≡ done ++ undone
  pub left : pushed_directory_paths new ≡ directories_after_delegate_calls (pushed_directory_paths old) (map call_without_refusal done)

-- Rules that are given were asked about one path, once. Answered they stand at it, so that exactly the directories above it are pushed;
-- refused, what is pushed lies on the way to it, as its lookup left it. Where they are ignore rules alone, the worktree was
-- read at most once for each directory that was pushed or refused, and so often more to find repositories.
pub record AsksRulesOnceAboutPath {T E : Type 0} (most : ℕ) (path : List ℕ) (reads0 reads1 : ℕ) (old new : Option StackModel) (result : Result T E) : Type 0 where
  pub given : is_some old ≡ true
  pub once : lookup_count_of_stack new ≡ one_more (lookup_count_of_stack old)
  pub looked_up : OnOk result (StandsAtPathIfGiven new path)
  pub on_way : IsNothingOrProperAncestor (directories_pushed_in_stack new) (components path)
  pub leaves : LeavesPushedByFirstCalls path (directories_pushed_in_stack old) (directories_pushed_in_stack new)
  pub reads : has_attributes_if_given (setup_of_optional_stack old) ≡ false
      → reads1 + length (pushed_directories (directories_kept_by_lookup (directories_pushed_in_stack old) (components path))) ≤ reads0 + length (pushed_directories (directories_pushed_in_stack new)) + one_if_refused result + most

-- The rules were asked about one path, or they were not asked.
abbrev pub AsksRulesAtMostOnce : {F T E : Type 0} → ℕ → List ℕ → ℕ → ℕ → F → F → Option StackModel → Option StackModel → Result T E → Type 0
AsksRulesAtMostOnce most path reads0 reads1 o0 o1 old new result =
    LeavesRulesUnasked most reads0 reads1 o0 o1 old new ⊎ AsksRulesOnceAboutPath most path reads0 reads1 old new result

-- a worktree, a store and the rules, where they are given, as they were
pub record LeavesAllUnchanged {W F : Type 0} (w0 w1 : W) (o0 o1 : F) (old new : Option StackModel) : Type 0 where
  pub worktree : w1 ≡ w0
  pub store : o1 ≡ o0
  pub rules : new ≡ old
