-- What a lookup does.
use Rattle.std.specs.Prelude.{◌≡◌, ◌≤◌, ℕ, ◌+◌, Bool, true, false, List, [], length, Option, Result, IfErr, OnOk, OnErr, IsErrOf}
use Rattle.gitbase_core.specs.Path.{components}
use Rattle.gitbase_core.specs.declared.find.Find.{Ghosts as FindOf}
use Rattle.worktree_fs.specs.declared.worktree.Worktree.{Ghosts as WorktreeOf}
use Rattle.worktree_fs.specs.Causes.{CountIncreasedOrSaturated}
use Rattle.worktree_fs.specs.Paths.{is_relative_without_dots}
use Rattle.worktree_fs.specs.PathStack.{delegate_calls_of_lookup, IsNothingOrProperAncestor}
use Rattle.worktree_stack.specs.declared.error.AtPathError.{AtPathError}
use Rattle.worktree_stack.specs.declared.error.AtPathError.TheVariants as errors
use Rattle.gitbase_core.specs.Causes.{saturating_increment as one_more}
use Rattle.worktree_stack.specs.Counted.{with_lookup_counted}
use Rattle.worktree_stack.specs.Lookups.{stack_setup_reads_worktree, StandsAtPath, directories_kept_by_lookup, one_if_refused}
use Rattle.worktree_stack.specs.Reading.{TreeAndObjects, Tells}
use Rattle.worktree_stack.specs.Refused.{ExplainsLookupError}
use Rattle.worktree_stack.specs.SeenNames.{AppendsReadNamesAsSeen, attribute_names_read_by_calls}
use Rattle.worktree_stack.specs.Setup.{has_attributes}
use Rattle.worktree_stack.specs.Stacked.{StackModel, IsInStepWithTree, HasCountsOfPushedDirectories, setup_of_stack, pushed_directories}
use Rattle.worktree_stack.specs.Steps.{CarriesOutCalls, StopsLookupByError}

-- What a lookup leaves of a worktree: the tree that it tells, where none of its calls may change it, and what is counted of
-- listings. Other counts do not fall.
pub record LookupLeavesWorktree {W : Type 0} (keeps_tree : Bool) (w : WorktreeOf W) (before after : W) : Type 0 where
  pub tree : keeps_tree ≡ true → w.told after ≡ w.told before
  pub faults : w.faults before ≤ w.faults after
  pub reads : w.reads before ≤ w.reads after
  pub list_faults : w.list_faults after ≡ w.list_faults before
  pub lists : w.lists after ≡ w.lists before
  pub precomposes : w.precomposes after ≡ w.precomposes before

-- What a lookup of a path makes of a stack, answered or refused, where a worktree was `w0` and is `w1`, and a store of objects
-- was `o0` and is `o1`.
pub record LooksUpPath {W F T : Type 0} (w : WorktreeOf W) (f : FindOf F) (w0 w1 : W) (o0 o1 : F)
    (path : List ℕ) (kind : Option Bool) (old new : StackModel) (result : Result T AtPathError) : Type 0 where
  -- A stack in step with a tree and a store stays so, and whatever is told, lists and matches stay as many as the directories
  -- that are pushed. Answered it stands at the path; refused it says nothing of a path, and what is pushed lies on the way.
  pub made : setup_of_stack new ≡ setup_of_stack old
  pub in_step : (s : TreeAndObjects) → Tells (w.told w0) (f.holds o0) s → IsInStepWithTree s old → IsInStepWithTree s new
  pub levels : HasCountsOfPushedDirectories old → HasCountsOfPushedDirectories new
  pub looked_up : OnOk result (StandsAtPath new (components path))
  pub is_dir : OnOk result (new.is_dir ≡ kind)
  pub answered : OnOk result (new.is_answered ≡ true)
  pub unanswered : OnErr result (new.is_answered ≡ false)
  pub on_way : is_relative_without_dots path ≡ true → OnErr result (IsNothingOrProperAncestor new.at (components path))
  -- The names that were seen stay seen, and those of the directories that it pushes come behind them.
  pub sees : AppendsReadNamesAsSeen (w.told w0) (f.holds o0) (λ s. attribute_names_read_by_calls (setup_of_stack old) s (delegate_calls_of_lookup old.at (components path))) old.attributes new.attributes result
  -- Each refusal has its cause.
  pub normal : is_relative_without_dots path ≡ false → IsErrOf result errors.NotNormal × (new ≡ with_lookup_counted old) × (w1 ≡ w0) × (o1 ≡ o0)
  pub refused : is_relative_without_dots path ≡ true
      → IfErr result (ExplainsLookupError (w.told w0) (f.holds o0) (CountIncreasedOrSaturated (w.faults w0) (w.faults w1)) (CountIncreasedOrSaturated (f.faults o0) (f.faults o1)) (setup_of_stack old) (components path))
  -- The worktree is not asked where rules come from mappings alone, and the store is not where nothing is mapped.
  pub untouched : stack_setup_reads_worktree (setup_of_stack old) ≡ false → w1 ≡ w0
  pub store_untouched : (setup_of_stack old).mappings ≡ [] → o1 ≡ o0
  -- What is counted, and how often the worktree is read: by ignore rules alone at most once for each directory that is pushed or
  -- refused.
  pub platforms : new.statistics.platforms ≡ one_more old.statistics.platforms
  pub carried : OnOk result (CarriesOutCalls (w.told w0) (f.holds o0) (delegate_calls_of_lookup old.at (components path)) old new)
  pub stopped : is_relative_without_dots path ≡ true
      → IfErr result (StopsLookupByError (w.told w0) (f.holds o0) (CountIncreasedOrSaturated (w.faults w0) (w.faults w1)) (CountIncreasedOrSaturated (f.faults o0) (f.faults o1)) (delegate_calls_of_lookup old.at (components path)) old new)
  -- What stays pushed on the way to the path is not popped, and what is pushed then lies behind it.
  pub stays : length (pushed_directories (directories_kept_by_lookup old.at (components path))) ≤ length (pushed_directories new.at)
  pub reads : has_attributes (setup_of_stack old) ≡ false
      → w.reads w1 + length (pushed_directories (directories_kept_by_lookup old.at (components path))) ≤ w.reads w0 + length (pushed_directories new.at) + one_if_refused result
