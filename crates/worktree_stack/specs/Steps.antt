-- What the calls of a lookup make of a stack, and where a refused lookup stops.
--
-- A lookup pushes the root where it is not pushed, pops the directories that are not above its path, and pushes those that
-- are. Each of these calls is counted, and each push of a directory does its readings.
use Rattle.std.specs.Prelude.{◌≡◌, ◌⊎◌, ◌≤◌, ℕ, ◌+◌, List, [], ◌∷◌, ◌++◌, map, Option, Some, None}
use Rattle.gitbase_core.specs.Objects.{ObjectsById}
use Rattle.worktree_fs.specs.Tree.{Names}
use Rattle.worktree_fs.specs.PathStack.{DelegateCall, push_directory, call_without_refusal, directories_after_delegate_calls, pushed_directory_paths, deepest_components_or_root}
use Rattle.worktree_stack.specs.declared.error.AtPathError.{AtPathError}
use Rattle.worktree_stack.specs.declared.statistics.RulesStatistics.{RulesStatistics}
use Rattle.worktree_stack.specs.declared.statistics.Statistics.{Statistics}
use Rattle.worktree_stack.specs.Setup.{StackSetup}
use Rattle.worktree_stack.specs.Reading.{TreeAndObjects, Tells, RulesKind, readings_of_directory}
use Rattle.worktree_stack.specs.Counted.{delegate_counts_after_calls, rules_counts_of_kind, rules_counts_after_calls, tried_files_after_calls, number_of_files_asked_by_calls, number_of_blobs_asked_by_calls}
use Rattle.worktree_stack.specs.Refused.{HoldsByRulesError, IsFileRefusedForDirectory, IsBlobRefusedForDirectory}
use Rattle.worktree_stack.specs.Placed.{StopsReadingAtFile, StopsReadingAtBlob, StopsReadingForMemory, StopsReadingByError}
use Rattle.worktree_stack.specs.Stacked.{StackModel, setup_of_stack}

-- ---- what was read

-- What was counted of the readings of one kind on the way: each rules file was tried that the worktree is asked for. Those that were
-- files are among them, and the blobs among those that are mapped; which they were is told by the tree and the store, where
-- they are told.
pub record CountsReadRulesOfKind (told : Option Names) (holds : Option ObjectsById) (kind : RulesKind) (made : StackSetup) (calls : List DelegateCall) (old new : RulesStatistics) : Type 0 where
  pub tried : new.tried_pattern_files ≡ tried_files_after_calls kind made old.tried_pattern_files calls
  pub buffers : old.patterns_buffers ≤ new.patterns_buffers
  pub most_buffers : new.patterns_buffers ≤ old.patterns_buffers + number_of_blobs_asked_by_calls kind made calls
  pub files : old.pattern_files ≤ new.pattern_files
  pub most_files : new.pattern_files ≤ old.pattern_files + number_of_files_asked_by_calls kind made calls
  pub exact : (s : TreeAndObjects) → Tells told holds s → new ≡ rules_counts_after_calls kind made s old calls

-- and of every kind
abbrev pub CountsReadRules : Option Names → Option ObjectsById → StackSetup → List DelegateCall → Statistics → Statistics → Type 0
CountsReadRules told holds made calls old new = (kind : RulesKind) → CountsReadRulesOfKind told holds kind made calls (rules_counts_of_kind kind old) (rules_counts_of_kind kind new)

-- what a refusal has counted of a directory: the readings before the refused one, and of that nothing for a file, for a blob the file
-- before it; and all of this, or the whole reading, for want of memory
abbrev pub CountsRefusedDirectoryReading : Option Names → Option ObjectsById → StackSetup → List ℕ → Statistics → Statistics → AtPathError → Type 0
CountsRefusedDirectoryReading told holds made d old new = StopsReadingByError told holds (readings_of_directory made d) old new

-- ---- a lookup that was answered

-- These calls were carried out: the directories are pushed that they leave, and each call is counted.
pub record CarriesOutCalls (told : Option Names) (holds : Option ObjectsById) (calls : List DelegateCall) (old new : StackModel) : Type 0 where
  pub setup : setup_of_stack new ≡ setup_of_stack old
  pub left : pushed_directory_paths new.at ≡ directories_after_delegate_calls (pushed_directory_paths old.at) (map call_without_refusal calls)
  pub counted : new.statistics.delegate ≡ delegate_counts_after_calls old.statistics.delegate calls
  pub read : CountsReadRules told holds (setup_of_stack old) calls old.statistics new.statistics

-- ---- a lookup that was refused

-- the call that was refused, if one was
abbrev pub refused_call_as_list : Option DelegateCall → List DelegateCall
refused_call_as_list None = []
refused_call_as_list (Some call) = call ∷ []

-- Of these calls the first ones were carried out. The next one may have been refused: it is counted, and pushes nothing. The
-- deepest directory that is left is the current path.
pub record StopsAfterCalls (calls : List DelegateCall) (old new : StackModel) (done : List DelegateCall) (begun : Option DelegateCall) : Type 0 where
  pub unmade : List DelegateCall
  pub front : calls ≡ done ++ refused_call_as_list begun ++ unmade
  pub left : pushed_directory_paths new.at ≡ directories_after_delegate_calls (pushed_directory_paths old.at) (map call_without_refusal done)
  pub counted : new.statistics.delegate ≡ delegate_counts_after_calls old.statistics.delegate (done ++ refused_call_as_list begun)
  pub current : new.current ≡ deepest_components_or_root new.at
  pub is_dir : new.is_dir ≡ old.is_dir

-- It stopped at a directory of which this holds, and has read those before; of its own readings so much was counted.
pub record StopsAtRefusedDirectory (told : Option Names) (holds : Option ObjectsById) (calls : List DelegateCall) (old new : StackModel)
    (Holds : List ℕ → Type 0) (Counts : List ℕ → Statistics → Statistics → Type 0) : Type 0 where
  pub directory : List ℕ
  pub done : List DelegateCall
  pub before : Statistics
  pub stopped : StopsAfterCalls calls old new done (Some (push_directory directory))
  pub read : CountsReadRules told holds (setup_of_stack old) done old.statistics before
  pub tried : Counts directory before new.statistics
  pub refused : Holds directory

-- It stopped before a call, as no memory was left.
pub record StopsBeforeCallForMemory (told : Option Names) (holds : Option ObjectsById) (calls : List DelegateCall) (old new : StackModel) : Type 0 where
  pub done : List DelegateCall
  pub stopped : StopsAfterCalls calls old new done None
  pub read : CountsReadRules told holds (setup_of_stack old) done old.statistics new.statistics

-- where a lookup stopped, by its refusal
abbrev pub StopsLookupByError : Option Names → Option ObjectsById → Type 0 → Type 0 → List DelegateCall → StackModel → StackModel → AtPathError → Type 0
StopsLookupByError told holds TreeFailed StoreFailed calls old new =
    HoldsByRulesError
    (λ path why. StopsAtRefusedDirectory told holds calls old new (IsFileRefusedForDirectory told holds TreeFailed (setup_of_stack old) path why) (λ d. StopsReadingAtFile told holds path (readings_of_directory (setup_of_stack old) d)))
    (λ id why. StopsAtRefusedDirectory told holds calls old new (IsBlobRefusedForDirectory told holds StoreFailed (setup_of_stack old) id why) (λ d. StopsReadingAtBlob told holds id (readings_of_directory (setup_of_stack old) d)))
    (StopsBeforeCallForMemory told holds calls old new ⊎ StopsAtRefusedDirectory told holds calls old new (λ d. Unit {0}) (λ d. StopsReadingForMemory told holds (readings_of_directory (setup_of_stack old) d)))
