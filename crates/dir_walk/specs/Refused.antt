-- Why a walk is refused in what it enters.
use Rattle.std.specs.Prelude.{◌≡◌, ◌⊎◌, ◌<◌, ◌≤◌, ◌+◌, ℕ, Bool, true, false, ◌||◌, List, Option, Some, Err, IsSomeAnd}
use Rattle.gitbase_core.specs.Path.{components, is_empty}
use Rattle.gitbase_core.specs.Objects.{ObjectsById}
use Rattle.worktree_fs.specs.declared.answers.ListError.{ListError}
use Rattle.worktree_fs.specs.declared.answers.ListError.TheVariants as lists
use Rattle.worktree_fs.specs.Tree.{Names, LookupResult, look}
use Rattle.worktree_fs.specs.Answers.{list_of}
use Rattle.worktree_fs.specs.Paths.{is_relative_without_dots, root_joined_with_relative, slash_joined_components}
use Rattle.worktree_stack.specs.declared.error.AtPathError.{AtPathError}
use Rattle.worktree_stack.specs.Setup.{StackSetup}
use Rattle.worktree_stack.specs.Reading.{TreeAndObjects}
use Rattle.worktree_stack.specs.Refused as lookups
use Rattle.dir_classify.specs.declared.classify.Outcome.{Outcome}
use Rattle.dir_classify.specs.declared.entry.Kind.TheVariants.{Directory}
use Rattle.dir_classify.specs.declared.error.Error.{Error}
use Rattle.dir_classify.specs.declared.error.Error.TheVariants as errors
use Rattle.dir_classify.specs.declared.error.ReadWhy.{ReadWhy}
use Rattle.dir_classify.specs.declared.error.ReadWhy.TheVariants as reads
use Rattle.dir_classify.specs.Evidence.{PathEvidence}
use Rattle.dir_classify.specs.Layers.{WalkSetting, evidence_from_setting_and_sources}
use Rattle.dir_classify.specs.Refused.{IsRulesFileErrorAbovePath}
pub use Rattle.gitbase_core.specs.Among.{is_text_in_list}
use Rattle.dir_walk.specs.Report.{count_components}
use Rattle.dir_walk.specs.Told.{walk_result_of_directory_over_sources, look_at_entered_directory}
use Rattle.dir_walk.specs.Walked.{WalkResult}

-- the class of a path that is walked says that it is to be entered, whether or not it is a directory
abbrev pub is_entered_or_broken : List ℕ → WalkResult → Bool
is_entered_or_broken path w = is_text_in_list path w.entered || is_text_in_list path w.broken

-- ---- what holds of any worktree

-- the whole path of the worktree root or of what lies below it, no deeper than the limit: what stands below the root is normal, and
-- one slash parts each two of its components
pub record IsPathWithinDepthLimit (root : List ℕ) (limit : ℕ) (path : List ℕ) : Type 0 where
  pub below : List ℕ
  pub path_is : path ≡ root_joined_with_relative root below
  pub normal : is_relative_without_dots below ≡ true
  pub spelled_is : below ≡ slash_joined_components (components below)
  pub within : count_components below ≤ limit

-- the same of what lies right below the limit: it has one component more below the worktree root
pub record IsPathOneBelowDepthLimit (root : List ℕ) (limit : ℕ) (path : List ℕ) : Type 0 where
  pub below : List ℕ
  pub path_is : path ≡ root_joined_with_relative root below
  pub normal : is_relative_without_dots below ≡ true
  pub spelled_is : below ≡ slash_joined_components (components below)
  pub first : count_components below ≡ limit + 1

-- the same of a traversal root that lies deeper than the limit itself
pub record IsRootBeyondDepthLimit (top root : List ℕ) (limit : ℕ) (path : List ℕ) : Type 0 where
  pub path_is : path ≡ root_joined_with_relative top root
  pub normal : is_relative_without_dots root ≡ true
  pub spelled_is : root ≡ slash_joined_components (components root)
  pub deep : limit < count_components root

-- a lookup in the rules was refused of some normal path, which lies no deeper than right below the limit
pub record IsLookupErrorWithinLimit (limit : ℕ) (made : StackSetup) (e : AtPathError) : Type 0 where
  pub path : List ℕ
  pub normal : is_relative_without_dots path ≡ true
  pub near : count_components path ≤ limit + 1
  pub access : IsRulesFileErrorAbovePath made path e

-- what a refusal within what is entered says of the rules, the paths and the limit that were handed in
abbrev pub IsWalkErrorWithinLimit : Option StackSetup → List ℕ → ℕ → Error → Type 0
IsWalkErrorWithinLimit made root limit errors.Interrupted = Unit {0}
IsWalkErrorWithinLimit made root limit (errors.WorktreeRootIsFile path) = ⊥
IsWalkErrorWithinLimit made root limit (errors.NormalizeRoot path) = ⊥
IsWalkErrorWithinLimit made root limit (errors.SymlinkInRoot path worktree_root index) = ⊥
IsWalkErrorWithinLimit made root limit (errors.SymlinkMetadata path why) = ⊥
IsWalkErrorWithinLimit made root limit (errors.ExcludesAccess e) = IsSomeAnd made (λ rules. IsLookupErrorWithinLimit limit rules e)
IsWalkErrorWithinLimit made root limit (errors.TooDeep path) = IsPathOneBelowDepthLimit root limit path
IsWalkErrorWithinLimit made root limit (errors.ReadDir path why) = IsPathWithinDepthLimit root limit path
IsWalkErrorWithinLimit made root limit (errors.DirEntry path) = IsPathWithinDepthLimit root limit path
IsWalkErrorWithinLimit made root limit errors.OutOfMemory = Unit {0}

-- the same of a traversal root that is to be entered: it may lie too deep itself
abbrev pub IsWalkErrorFromRoot : Option StackSetup → List ℕ → List ℕ → ℕ → Error → Type 0
IsWalkErrorFromRoot made top root limit e = IsWalkErrorWithinLimit made top limit e ⊎ ((path : List ℕ) × (e ≡ errors.TooDeep path) × IsRootBeyondDepthLimit top root limit path)

-- ---- what holds over a told tree

-- a lookup of some normal path in the rules was refused, by a rules file or a blob that the tree or the store refuses
pub record IsLookupErrorByTree (s : TreeAndObjects) (made : StackSetup) (e : AtPathError) : Type 0 where
  pub path : List ℕ
  pub normal : is_relative_without_dots path ≡ true
  pub access : IsRulesFileErrorAbovePath made path e
  pub refused : lookups.ExplainsLookupErrorInTree s made (components path) e

-- what a whole path leads to in the tree cannot be listed; a last link is followed for the worktree root alone
pub record IsUnlistableInTree (t : Names) (root : List ℕ) (why : ListError) (path : List ℕ) : Type 0 where
  pub below : List ℕ
  pub path_is : path ≡ root_joined_with_relative root below
  pub node : list_of (look t path (is_empty below)) ≡ Err why

-- what a refusal says of the tree, and, where the store holds these objects, of the rules, whether or not they are in step
abbrev pub IsWalkErrorByTree : List ℕ → Option ObjectsById → TreeAndObjects → Option StackSetup → Error → Type 0
IsWalkErrorByTree root holds s made errors.Interrupted = Unit {0}
IsWalkErrorByTree root holds s made (errors.WorktreeRootIsFile path) = Unit {0}
IsWalkErrorByTree root holds s made (errors.NormalizeRoot path) = Unit {0}
IsWalkErrorByTree root holds s made (errors.SymlinkInRoot path worktree_root index) = Unit {0}
IsWalkErrorByTree root holds s made (errors.SymlinkMetadata path why) = Unit {0}
IsWalkErrorByTree root holds s made (errors.ExcludesAccess e) = IsSomeAnd made (λ rules. holds ≡ Some s.objects → IsLookupErrorByTree s rules e)
IsWalkErrorByTree root holds s made (errors.TooDeep path) = Unit {0}
IsWalkErrorByTree root holds s made (errors.ReadDir path reads.Absent) = IsUnlistableInTree s.tree root lists.Absent path
IsWalkErrorByTree root holds s made (errors.ReadDir path reads.NotADirectory) = IsUnlistableInTree s.tree root lists.NotADirectory path
IsWalkErrorByTree root holds s made (errors.ReadDir path reads.Fault) = Unit {0}
IsWalkErrorByTree root holds s made (errors.DirEntry path) = Unit {0}
IsWalkErrorByTree root holds s made errors.OutOfMemory = Unit {0}

-- ---- what holds where the rules are in step too

-- The whole path of what lies deeper than the limit; it is to be entered, and reached through directories that are
-- entered, unless the worktree failed, which may have hidden a repository.
pub record IsTooDeepToEnter (root : List ℕ) (limit : ℕ) (w : WalkResult) (Failed : Type 0) (path : List ℕ) : Type 0 where
  pub below : List ℕ
  pub path_is : path ≡ root_joined_with_relative root below
  pub deep : limit < count_components below
  pub to_enter : (is_entered_or_broken below w ≡ true) ⊎ Failed

-- The whole path of a node that is none that can be listed, and where the index has an up-to-date directory; it is to be entered,
-- and reached so, unless the worktree failed.
pub record IsIndexedDirectoryUnlistable (t : Names) (ev : PathEvidence) (root : List ℕ) (w : WalkResult) (Failed : Type 0) (why : ListError) (path : List ℕ) : Type 0 where
  pub below : List ℕ
  pub path_is : path ≡ root_joined_with_relative root below
  pub node : list_of (look t path false) ≡ Err why
  pub indexed : (ev.in_index below).up_to_date ≡ Some Directory
  pub broken : (is_text_in_list below w.broken ≡ true) ⊎ Failed

abbrev pub IsReadDirErrorByWalkResult : Names → PathEvidence → List ℕ → WalkResult → Type 0 → List ℕ → ReadWhy → Type 0
IsReadDirErrorByWalkResult t ev root w Failed path reads.Absent = IsIndexedDirectoryUnlistable t ev root w Failed lists.Absent path
IsReadDirErrorByWalkResult t ev root w Failed path reads.NotADirectory = IsIndexedDirectoryUnlistable t ev root w Failed lists.NotADirectory path
IsReadDirErrorByWalkResult t ev root w Failed path reads.Fault = Unit {0}

-- the lookup of a normal path in the rules was refused, by a rules file or a blob that is refused; its class asks the
-- rules, unless the worktree failed
pub record IsLookupErrorOfAskedPath (s : TreeAndObjects) (made : StackSetup) (w : WalkResult) (Failed : Type 0) (e : AtPathError) : Type 0 where
  pub path : List ℕ
  pub normal : is_relative_without_dots path ≡ true
  pub asked : (is_text_in_list path w.asked ≡ true) ⊎ Failed
  pub access : IsRulesFileErrorAbovePath made path e
  pub refused : lookups.ExplainsLookupErrorInTree s made (components path) e

-- A refusal within what is walked. `made` is what the rules were made with, and `Failed` says that the worktree failed.
abbrev pub IsWalkErrorByWalkResult : WalkSetting → Option StackSetup → TreeAndObjects → ℕ → Type 0 → WalkResult → Error → Type 0
IsWalkErrorByWalkResult given made s limit Failed w errors.Interrupted = Unit {0}
IsWalkErrorByWalkResult given made s limit Failed w (errors.WorktreeRootIsFile path) = ⊥
IsWalkErrorByWalkResult given made s limit Failed w (errors.NormalizeRoot path) = ⊥
IsWalkErrorByWalkResult given made s limit Failed w (errors.SymlinkInRoot path worktree_root index) = ⊥
IsWalkErrorByWalkResult given made s limit Failed w (errors.SymlinkMetadata path why) = ⊥
IsWalkErrorByWalkResult given made s limit Failed w (errors.ExcludesAccess e) = IsSomeAnd made (λ rules. IsLookupErrorOfAskedPath s rules w Failed e)
IsWalkErrorByWalkResult given made s limit Failed w (errors.TooDeep path) = IsTooDeepToEnter given.root limit w Failed path
IsWalkErrorByWalkResult given made s limit Failed w (errors.ReadDir path why) = IsReadDirErrorByWalkResult s.tree (evidence_from_setting_and_sources given made s) given.root w Failed path why
IsWalkErrorByWalkResult given made s limit Failed w (errors.DirEntry path) = Unit {0}
IsWalkErrorByWalkResult given made s limit Failed w errors.OutOfMemory = Unit {0}

-- ---- a directory that is entered

-- the refusal of a walk that stands for a refused listing
abbrev pub walk_error_of_list_error : List ℕ → ListError → Error
walk_error_of_list_error path lists.Absent = errors.ReadDir path reads.Absent
walk_error_of_list_error path lists.NotADirectory = errors.ReadDir path reads.NotADirectory
walk_error_of_list_error path lists.OpenFault = errors.ReadDir path reads.Fault
walk_error_of_list_error path lists.EntryFault = errors.DirEntry path
walk_error_of_list_error path lists.OutOfMemory = errors.OutOfMemory

-- why the directory at a whole path was not opened, by what that leads to
abbrev pub IsErrorOfOpeningDirectory : List ℕ → LookupResult → Error → Type 0
IsErrorOfOpeningDirectory full at errors.Interrupted = Unit {0}
IsErrorOfOpeningDirectory full at (errors.WorktreeRootIsFile path) = ⊥
IsErrorOfOpeningDirectory full at (errors.NormalizeRoot path) = ⊥
IsErrorOfOpeningDirectory full at (errors.SymlinkInRoot path worktree_root index) = ⊥
IsErrorOfOpeningDirectory full at (errors.SymlinkMetadata path why) = ⊥
IsErrorOfOpeningDirectory full at (errors.ExcludesAccess e) = ⊥
IsErrorOfOpeningDirectory full at (errors.TooDeep path) = ⊥
IsErrorOfOpeningDirectory full at (errors.ReadDir path reads.Absent) = (path ≡ full) × (list_of at ≡ Err lists.Absent)
IsErrorOfOpeningDirectory full at (errors.ReadDir path reads.NotADirectory) = (path ≡ full) × (list_of at ≡ Err lists.NotADirectory)
IsErrorOfOpeningDirectory full at (errors.ReadDir path reads.Fault) = path ≡ full
IsErrorOfOpeningDirectory full at (errors.DirEntry path) = path ≡ full
IsErrorOfOpeningDirectory full at errors.OutOfMemory = Unit {0}

-- a refusal of a directory that is entered: its own listing, or within it
abbrev pub IsErrorOfEnteredDirectory : WalkSetting → Option StackSetup → TreeAndObjects → ℕ → Type 0 → List ℕ → Outcome → Error → Type 0
IsErrorOfEnteredDirectory given made s limit Failed d c e =
    IsErrorOfOpeningDirectory (root_joined_with_relative given.root d) (look_at_entered_directory given s.tree d) e ⊎ IsWalkErrorByWalkResult given made s limit Failed (walk_result_of_directory_over_sources given made s d c) e

-- the refusal of what lies too deep, unless the interrupt was raised before it
abbrev pub IsTooDeepOrInterruptedError : List ℕ → Type 0 → Error → Type 0
IsTooDeepOrInterruptedError full Raised errors.Interrupted = Raised
IsTooDeepOrInterruptedError full Raised (errors.WorktreeRootIsFile path) = ⊥
IsTooDeepOrInterruptedError full Raised (errors.NormalizeRoot path) = ⊥
IsTooDeepOrInterruptedError full Raised (errors.SymlinkInRoot path worktree_root index) = ⊥
IsTooDeepOrInterruptedError full Raised (errors.SymlinkMetadata path why) = ⊥
IsTooDeepOrInterruptedError full Raised (errors.ExcludesAccess e) = ⊥
IsTooDeepOrInterruptedError full Raised (errors.TooDeep path) = path ≡ full
IsTooDeepOrInterruptedError full Raised (errors.ReadDir path why) = ⊥
IsTooDeepOrInterruptedError full Raised (errors.DirEntry path) = ⊥
IsTooDeepOrInterruptedError full Raised errors.OutOfMemory = Unit {0}
