-- What a step of a lookup makes of a stack, answered or refused, from one moment to another.
--
-- A step pops directories, or pushes some with their rules. The calls that it makes are named in its contract.
use Rattle.std.specs.Prelude.{◌≡◌, ◌≤◌, ℕ, ◌+◌, true, false, List, [], length, Option, Some, is_some, Result, IfErr, OnOk, OnErr}
use Rattle.gitbase_core.specs.declared.find.Find.{Ghosts as FindOf}
use Rattle.gitbase_core.specs.Objects.{ObjectsById}
use Rattle.worktree_fs.specs.declared.worktree.Worktree.{Ghosts as WorktreeOf}
use Rattle.worktree_fs.specs.Causes.{CountIncreasedOrSaturated}
use Rattle.worktree_fs.specs.Kept.{KeepsTreeAndListCounts, KeepsStoredObjects}
use Rattle.worktree_fs.specs.PathStack.{DelegateCall, IsNothingOrProperAncestor, deepest_components_or_root}
use Rattle.worktree_fs.specs.Tree.{Names}
use Rattle.worktree_stack.specs.declared.error.AtPathError.{AtPathError}
use Rattle.worktree_stack.specs.Asked.{number_of_all_files_asked_by_calls}
use Rattle.worktree_stack.specs.HeldOut.{AreLowestLists}
use Rattle.worktree_stack.specs.Lookups.{StandsAtPath, stack_setup_reads_worktree}
use Rattle.worktree_stack.specs.Making.{mkdir_count_of_stack}
use Rattle.worktree_stack.specs.Moments.{WorktreeStoreAndStack}
use Rattle.worktree_stack.specs.Reading.{TreeAndObjects, Tells}
use Rattle.worktree_stack.specs.SeenNames.{AppendsReadNamesAsSeen, attribute_names_of_directory, attribute_names_read_by_calls}
use Rattle.worktree_stack.specs.Setup.{has_attributes, held_attribute_lists, seen_attribute_names}
use Rattle.worktree_stack.specs.Stacked.{StackModel, IsInStepWithTree, HasCountsOfPushedDirectories, AppendsAttributeListsOfTree, setup_of_stack, pushed_directories}
use Rattle.worktree_stack.specs.Steps.{CarriesOutCalls, StopsLookupByError}

-- ---- directories that are popped

-- These calls only pop directories. The lists that are held are the lowest of those that were, and no name that was seen is forgotten.
pub record PopsDirectoriesOnly (calls : List DelegateCall) (old new : StackModel) : Type 0 where
  -- what the stack was made with, and what the last lookup left
  pub made : setup_of_stack new ≡ setup_of_stack old
  pub is_dir : new.is_dir ≡ old.is_dir
  pub answered : new.is_answered ≡ old.is_answered
  pub platforms : new.statistics.platforms ≡ old.statistics.platforms
  pub no_mkdirs : mkdir_count_of_stack new ≡ mkdir_count_of_stack old
  -- what is held is still what a tree and a store have, and as much as there are directories
  pub in_step : (s : TreeAndObjects) → IsInStepWithTree s old → IsInStepWithTree s new
  pub levels : HasCountsOfPushedDirectories old → HasCountsOfPushedDirectories new
  pub dropped : AreLowestLists (held_attribute_lists new.attributes) (held_attribute_lists old.attributes)
  pub names : seen_attribute_names new.attributes ≡ seen_attribute_names old.attributes
  -- each call is counted, whatever is told
  pub carried : (told : Option Names) (holds : Option ObjectsById) → CarriesOutCalls told holds calls old new

-- ---- what stays

-- What stays while directories are pushed, and what a worktree and a store are asked. No directory is made.
pub record PushKeepsSetupAndTree {W F T : Type 0} (w : WorktreeOf W) (f : FindOf F) (before now : WorktreeStoreAndStack W F) (result : Result T AtPathError) : Type 0 where
  -- what the stack was made with, and what the last lookup left
  pub made : setup_of_stack now.stack ≡ setup_of_stack before.stack
  pub is_dir : now.stack.is_dir ≡ before.stack.is_dir
  pub answered : now.stack.is_answered ≡ before.stack.is_answered
  pub platforms : now.stack.statistics.platforms ≡ before.stack.statistics.platforms
  pub no_mkdirs : mkdir_count_of_stack now.stack ≡ mkdir_count_of_stack before.stack
  -- Where rules come from mappings alone the worktree is not asked, and where nothing is mapped the store is not.
  pub untouched : stack_setup_reads_worktree (setup_of_stack before.stack) ≡ false → now.worktree ≡ before.worktree
  pub store_untouched : (setup_of_stack before.stack).mappings ≡ [] → now.objects ≡ before.objects
  pub leaves : KeepsTreeAndListCounts w before.worktree now.worktree
  pub leaves_store : KeepsStoredObjects f before.objects now.objects
  -- an answer hides no fault
  pub unfaulted : OnOk result (w.faults now.worktree ≡ w.faults before.worktree)
  pub unfaulted_store : OnOk result (f.faults now.objects ≡ f.faults before.objects)

-- ---- where the stack stands

-- Answered, this is the deepest directory; refused, the deepest one is that which was.
pub record DeepestIsDirectoryIfAnswered {T : Type 0} (names : List (List ℕ)) (old new : StackModel) (result : Result T AtPathError) : Type 0 where
  pub at : OnOk result (new.at ≡ Some names)
  pub at_refused : OnErr result (new.at ≡ old.at)

-- Answered, a stack stands at a path; refused, what is pushed lies on the way to it. As many directories stay pushed as there were, the
-- root among them.
pub record ArrivesKeepingDeepest {T : Type 0} (names : List (List ℕ)) (old new : StackModel) (result : Result T AtPathError) : Type 0 where
  pub some : is_some new.at ≡ true
  pub looked_up : OnOk result (StandsAtPath new names)
  pub on_way : OnErr result (IsNothingOrProperAncestor new.at names)
  pub stays : length (deepest_components_or_root old.at) ≤ length (deepest_components_or_root new.at)

-- The same of a whole lookup, in which these directories stay pushed, or none where the root was not.
pub record ArrivesAtPathOrOnWay {T : Type 0} (names : List (List ℕ)) (stayed : Option (List (List ℕ))) (new : StackModel) (result : Result T AtPathError) : Type 0 where
  pub looked_up : OnOk result (StandsAtPath new names)
  pub on_way : OnErr result (IsNothingOrProperAncestor new.at names)
  pub stays : length (pushed_directories stayed) ≤ length (pushed_directories new.at)

-- ---- what is pushed

-- These calls were carried out, or one of them was refused, or there was no memory for the next.
pub record CarriesOutOrStopsCalls {W F T : Type 0} (w : WorktreeOf W) (f : FindOf F) (before now : WorktreeStoreAndStack W F) (calls : List DelegateCall) (result : Result T AtPathError) : Type 0 where
  pub carried : OnOk result (CarriesOutCalls (w.told before.worktree) (f.holds before.objects) calls before.stack now.stack)
  pub stopped : IfErr result (StopsLookupByError (w.told before.worktree) (f.holds before.objects)
      (CountIncreasedOrSaturated (w.faults before.worktree) (w.faults now.worktree)) (CountIncreasedOrSaturated (f.faults before.objects) (f.faults now.objects)) calls before.stack now.stack)

-- A stack that was in step with what is told stays so, and whatever is told, lists and matches stay as many as the directories.
pub record KeepsStackInStepAndLevel {W F : Type 0} (w : WorktreeOf W) (f : FindOf F) (before now : WorktreeStoreAndStack W F) : Type 0 where
  pub in_step : (s : TreeAndObjects) → Tells (w.told before.worktree) (f.holds before.objects) s → IsInStepWithTree s before.stack → IsInStepWithTree s now.stack
  pub levels : HasCountsOfPushedDirectories before.stack → HasCountsOfPushedDirectories now.stack

-- the names of attributes are seen that the directories have which these calls push
abbrev pub SeesNamesReadByCalls : {W F T : Type 0} → WorktreeOf W → FindOf F → WorktreeStoreAndStack W F → WorktreeStoreAndStack W F → List DelegateCall → Result T AtPathError → Type 0
SeesNamesReadByCalls w f before now calls result =
    AppendsReadNamesAsSeen (w.told before.worktree) (f.holds before.objects) (λ s. attribute_names_read_by_calls (setup_of_stack before.stack) s calls) before.stack.attributes now.stack.attributes result

-- How often the worktree is read: not more than these calls ask; and for ignore rules alone not more than `most` times and `least` less.
pub record BoundsWorktreeReads {W F : Type 0} (w : WorktreeOf W) (before now : WorktreeStoreAndStack W F) (calls : List DelegateCall) (least most : ℕ) : Type 0 where
  pub asked : w.reads now.worktree ≤ w.reads before.worktree + number_of_all_files_asked_by_calls (setup_of_stack before.stack) calls
  pub reads : has_attributes (setup_of_stack before.stack) ≡ false → w.reads now.worktree + least ≤ w.reads before.worktree + most

-- The rules of the current path are pushed with it as a directory: answered, its lists are those that are told; refused, what was held
-- is held again. The names that were read stay seen.
pub record PushesRulesOfCurrent {W F T : Type 0} (w : WorktreeOf W) (f : FindOf F) (before now : WorktreeStoreAndStack W F) (result : Result T AtPathError) : Type 0 where
  pub lists : (s : TreeAndObjects) → Tells (w.told before.worktree) (f.holds before.objects) s
      → OnOk result (AppendsAttributeListsOfTree (setup_of_stack before.stack) s before.stack.current before.stack.attributes now.stack.attributes)
  pub held : OnErr result (now.stack.ignore ≡ before.stack.ignore)
  pub held_lists : OnErr result (held_attribute_lists now.stack.attributes ≡ held_attribute_lists before.stack.attributes)
  pub sees : AppendsReadNamesAsSeen (w.told before.worktree) (f.holds before.objects) (λ s. attribute_names_of_directory (setup_of_stack before.stack) s before.stack.current)
      before.stack.attributes now.stack.attributes result

-- A stack stands where it stood, at the same path.
pub record KeepsStackExceptRulesAndReadCounts (old new : StackModel) : Type 0 where
  pub made : setup_of_stack new ≡ setup_of_stack old
  pub at : new.at ≡ old.at
  pub current : new.current ≡ old.current
  pub is_dir : new.is_dir ≡ old.is_dir
  pub answered : new.is_answered ≡ old.is_answered
  pub platforms : new.statistics.platforms ≡ old.statistics.platforms
