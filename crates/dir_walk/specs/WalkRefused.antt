-- Why a whole walk is refused.
use Rattle.std.specs.Prelude.{◌≡◌, ◌≢◌, ◌⊎◌, ℕ, Bool, true, false, List, [], Option, Some, None, Err, IsSomeAnd}
use Rattle.gitbase_core.specs.Objects.{ObjectsById}
use Rattle.gitbase_core.specs.Path.{components}
use Rattle.worktree_fs.specs.declared.answers.ListError.{ListError}
use Rattle.worktree_fs.specs.declared.answers.ListError.TheVariants as lists
use Rattle.worktree_fs.specs.declared.answers.NodeKind.TheVariants as nodes
use Rattle.worktree_fs.specs.Answers.{kind_of_lookup, list_of}
use Rattle.worktree_fs.specs.Paths.{root_joined_with_relative, is_relative_without_dots}
use Rattle.worktree_fs.specs.Tree.{look}
use Rattle.worktree_stack.specs.declared.error.AtPathError.{AtPathError}
use Rattle.worktree_stack.specs.Reading.{TreeAndObjects}
use Rattle.worktree_stack.specs.Refused as lookups
use Rattle.worktree_stack.specs.Setup.{StackSetup}
use Rattle.dir_classify.specs.declared.classify.Outcome.{Outcome}
use Rattle.dir_classify.specs.declared.entry.Kind.TheVariants.{Directory, Repository}
use Rattle.dir_classify.specs.declared.error.Error.{Error}
use Rattle.dir_classify.specs.declared.error.Error.TheVariants as errors
use Rattle.dir_classify.specs.declared.error.ReadWhy.{ReadWhy}
use Rattle.dir_classify.specs.declared.error.ReadWhy.TheVariants as reads
use Rattle.dir_classify.specs.Chosen.{WalkOptions}
use Rattle.dir_classify.specs.Class.{is_in_worktree_set}
use Rattle.dir_classify.specs.Enters.{is_ignored_status}
use Rattle.dir_classify.specs.Evidence.{PathEvidence}
use Rattle.dir_classify.specs.Kinds.{is_repository_kind}
use Rattle.dir_classify.specs.Layers.{WalkSetting, evidence_from_setting_and_sources}
use Rattle.dir_classify.specs.Refused.{IsRulesFileErrorAbovePath}
use Rattle.dir_classify.specs.Rooted.{IsPathOnWayToRoot, end_of_way_to_root}
use Rattle.dir_walk.specs.declared.delegate.Delegate.{Ghosts as DelegateOf}
use Rattle.dir_walk.specs.Given.{CountsRecursionRefusal}
use Rattle.dir_walk.specs.Refused.{IsPathOneBelowDepthLimit, IsRootBeyondDepthLimit, IsWalkErrorByTree, IsLookupErrorOfAskedPath, IsLookupErrorWithinLimit, IsTooDeepToEnter, IsReadDirErrorByWalkResult, IsPathWithinDepthLimit}
use Rattle.dir_walk.specs.Root.{enters_traversal_root, look_at_traversal_root, rooted, find_traversal_root, walk_result_from_traversal_root}
use Rattle.dir_walk.specs.Rooting.{IsErrorOfRootResult, IsNormalizedRoot, IsErrorOfTraversalRoot}
use Rattle.dir_walk.specs.Walked.{WalkResult, empty_walk_result}

-- ---- from a traversal root on: what holds of any worktree

-- the lookup of a normal path on the way to the traversal root was refused
pub record IsLookupErrorOnWayToRoot (root : List ℕ) (made : StackSetup) (e : AtPathError) : Type 0 where
  pub path : List ℕ
  pub normal : is_relative_without_dots path ≡ true
  pub leads : IsPathOnWayToRoot root path
  pub access : IsRulesFileErrorAbovePath made path e

-- what a refusal says of the worktree root, the traversal root, the rules and the limit
abbrev pub IsErrorFromRootWithinLimit : Option StackSetup → List ℕ → List ℕ → ℕ → Error → Type 0
IsErrorFromRootWithinLimit made top root limit errors.Interrupted = Unit {0}
IsErrorFromRootWithinLimit made top root limit (errors.WorktreeRootIsFile path) = (path ≡ top) × (root ≡ [])
IsErrorFromRootWithinLimit made top root limit (errors.NormalizeRoot path) = ⊥
IsErrorFromRootWithinLimit made top root limit (errors.SymlinkInRoot path worktree_root index) = ⊥
IsErrorFromRootWithinLimit made top root limit (errors.SymlinkMetadata path why) = ⊥
IsErrorFromRootWithinLimit made top root limit (errors.ExcludesAccess e) = IsSomeAnd made (λ rules. IsLookupErrorOnWayToRoot root rules e ⊎ IsLookupErrorWithinLimit limit rules e)
IsErrorFromRootWithinLimit made top root limit (errors.TooDeep path) = IsPathOneBelowDepthLimit top limit path ⊎ IsRootBeyondDepthLimit top root limit path
IsErrorFromRootWithinLimit made top root limit (errors.ReadDir path why) = IsPathWithinDepthLimit top limit path
IsErrorFromRootWithinLimit made top root limit (errors.DirEntry path) = IsPathWithinDepthLimit top limit path
IsErrorFromRootWithinLimit made top root limit errors.OutOfMemory = Unit {0}

-- ---- what holds over a told tree

-- what it says of the tree, and, where the store holds these objects, of the rules, whether or not they are in step
abbrev pub IsErrorFromRootByTree : List ℕ → Option ObjectsById → TreeAndObjects → Option StackSetup → Error → Type 0
IsErrorFromRootByTree top holds s made errors.Interrupted = Unit {0}
IsErrorFromRootByTree top holds s made (errors.WorktreeRootIsFile path) = Unit {0}
IsErrorFromRootByTree top holds s made (errors.NormalizeRoot path) = ⊥
IsErrorFromRootByTree top holds s made (errors.SymlinkInRoot path worktree_root index) = ⊥
IsErrorFromRootByTree top holds s made (errors.SymlinkMetadata path why) = ⊥
IsErrorFromRootByTree top holds s made (errors.ExcludesAccess e) = IsWalkErrorByTree top holds s made (errors.ExcludesAccess e)
IsErrorFromRootByTree top holds s made (errors.TooDeep path) = Unit {0}
IsErrorFromRootByTree top holds s made (errors.ReadDir path why) = IsWalkErrorByTree top holds s made (errors.ReadDir path why)
IsErrorFromRootByTree top holds s made (errors.DirEntry path) = Unit {0}
IsErrorFromRootByTree top holds s made errors.OutOfMemory = Unit {0}

-- ---- what holds where the rules are in step too, a delegate recurses by default, and the worktree did not fail

-- what is walked, if something is
abbrev pub walk_result_or_empty : Option WalkResult → WalkResult
walk_result_or_empty None = empty_walk_result
walk_result_or_empty (Some w) = w

-- the node of the worktree root, a link not followed, is absent or no directory
abbrev pub IsRootNodeNoDirectory : WalkSetting → TreeAndObjects → Type 0
IsRootNodeNoDirectory given s = kind_of_lookup (look s.tree given.root false) ≢ Some nodes.Directory

-- there is nothing to walk: the traversal root is the worktree root, which is not entered and is no directory
pub record HasNoRootToWalk (given : WalkSetting) (made : Option StackSetup) (s : TreeAndObjects) (root : List ℕ) : Type 0 where
  pub top : root ≡ []
  pub unentered : enters_traversal_root given.options (evidence_from_setting_and_sources given made s) (end_of_way_to_root given made s root) ≡ false
  pub not_walked : walk_result_from_traversal_root given made s root ≡ None
  pub node : IsRootNodeNoDirectory given s

-- How a delegate recursed in a walk: by default or not, and how many refusals it counted before and afterwards.
pub record DelegateDefaultAndRefusalCounts : Type 0 where
  pub is_default : Bool
  pub before : ℕ
  pub after : ℕ

-- by default, without a count
abbrev pub default_without_refusals : DelegateDefaultAndRefusalCounts
default_without_refusals = record { is_default = true; before = 0; after = 0 }

-- that of a delegate that was `d0` and is `d1`
abbrev pub default_and_refusal_counts_of_delegate : {D : Type 0} → DelegateOf D → D → D → DelegateDefaultAndRefusalCounts
default_and_refusal_counts_of_delegate d d0 d1 = record { is_default = d.is_default d0; before = d.refusals d0; after = d.refusals d1 }

-- The worktree root is no directory, and is not entered: its status says so, or the delegate refused it, which counted that, and does
-- not recurse by default.
pub record IsUnenteredNonDirectoryRoot (given : WalkSetting) (made : Option StackSetup) (s : TreeAndObjects) (recursion : DelegateDefaultAndRefusalCounts) : Type 0 where
  pub node : IsRootNodeNoDirectory given s
  pub unentered : recursion.is_default ≡ true → enters_traversal_root given.options (evidence_from_setting_and_sources given made s) (end_of_way_to_root given made s []) ≡ false
  pub answered : CountsRecursionRefusal (enters_traversal_root given.options (evidence_from_setting_and_sources given made s) (end_of_way_to_root given made s [])) false recursion.before recursion.after

-- the lookup of a path on the way to the traversal root was refused, by a rules file or a blob that is refused; the way
-- asks rules that cannot be read, unless the store failed
pub record IsRulesErrorOnWayToRoot (given : WalkSetting) (made : Option StackSetup) (s : TreeAndObjects) (root : List ℕ) (rules : StackSetup) (StoreFailed : Type 0) (e : AtPathError) : Type 0 where
  pub path : List ℕ
  pub leads : IsPathOnWayToRoot root path
  pub access : IsRulesFileErrorAbovePath rules path e
  pub refused : lookups.ExplainsLookupErrorInTree s rules (components path) e
  pub unread : ((end_of_way_to_root given made s root).is_unread ≡ true) ⊎ StoreFailed

-- Why the class of what is no directory has it as one: by the index, by the worktree set, or as the rules exclude it and deletion
-- saw a repository there.
abbrev pub IsClassedAsDirectoryWithoutDisk : WalkOptions → PathEvidence → List ℕ → Outcome → Type 0
IsClassedAsDirectoryWithoutDisk o ev path c =
    ((ev.in_index path).up_to_date ≡ Some Directory)
    ⊎ ((ev.in_index path).up_to_date ≡ Some Repository)
    ⊎ (is_in_worktree_set o path ≡ true)
    ⊎ ((is_ignored_status c.status ≡ true) × (is_repository_kind c.disk_kind ≡ true))

-- the whole path of the traversal root, which is entered though its names cannot be listed
pub record IsEnteredRootUnlistable (given : WalkSetting) (made : Option StackSetup) (s : TreeAndObjects) (root : List ℕ) (why : ListError) (path : List ℕ) : Type 0 where
  pub path_is : path ≡ root_joined_with_relative given.root root
  pub entered : enters_traversal_root given.options (evidence_from_setting_and_sources given made s) (end_of_way_to_root given made s root) ≡ true
  pub node : list_of (look_at_traversal_root given s.tree root) ≡ Err why
  pub held : IsClassedAsDirectoryWithoutDisk given.options (evidence_from_setting_and_sources given made s) root (end_of_way_to_root given made s root).class

abbrev pub IsReadDirErrorOfRoot : WalkSetting → Option StackSetup → TreeAndObjects → List ℕ → List ℕ → ReadWhy → Type 0
IsReadDirErrorOfRoot given made s root path reads.Absent = IsEnteredRootUnlistable given made s root lists.Absent path
IsReadDirErrorOfRoot given made s root path reads.NotADirectory = IsEnteredRootUnlistable given made s root lists.NotADirectory path
IsReadDirErrorOfRoot given made s root path reads.Fault = Unit {0}

-- The refusal of a walk from a traversal root on. `made` is what the rules were made with, and `StoreFailed` says that the store
-- failed.
abbrev pub IsErrorFromRootBySources : WalkSetting → Option StackSetup → TreeAndObjects → List ℕ → ℕ → Type 0 → Error → Type 0
IsErrorFromRootBySources given made s root limit StoreFailed errors.Interrupted = Unit {0}
IsErrorFromRootBySources given made s root limit StoreFailed (errors.WorktreeRootIsFile path) = HasNoRootToWalk given made s root
IsErrorFromRootBySources given made s root limit StoreFailed (errors.NormalizeRoot path) = ⊥
IsErrorFromRootBySources given made s root limit StoreFailed (errors.SymlinkInRoot path worktree_root index) = ⊥
IsErrorFromRootBySources given made s root limit StoreFailed (errors.SymlinkMetadata path why) = ⊥
IsErrorFromRootBySources given made s root limit StoreFailed (errors.ExcludesAccess e) =
    IsSomeAnd made (λ rules. IsRulesErrorOnWayToRoot given made s root rules StoreFailed e ⊎ IsLookupErrorOfAskedPath s rules (walk_result_or_empty (walk_result_from_traversal_root given made s root)) ⊥ e)
IsErrorFromRootBySources given made s root limit StoreFailed (errors.TooDeep path) = IsTooDeepToEnter given.root limit (walk_result_or_empty (walk_result_from_traversal_root given made s root)) ⊥ path
IsErrorFromRootBySources given made s root limit StoreFailed (errors.ReadDir path why) =
    IsReadDirErrorOfRoot given made s root path why
    ⊎ IsReadDirErrorByWalkResult s.tree (evidence_from_setting_and_sources given made s) given.root (walk_result_or_empty (walk_result_from_traversal_root given made s root)) ⊥ path why
IsErrorFromRootBySources given made s root limit StoreFailed (errors.DirEntry path) = Unit {0}
IsErrorFromRootBySources given made s root limit StoreFailed errors.OutOfMemory = Unit {0}

-- what holds where the worktree root is refused
abbrev pub HoldsIfRootIsFileError : Type 0 → Error → Type 0
HoldsIfRootIsFileError Holds errors.Interrupted = Unit {0}
HoldsIfRootIsFileError Holds (errors.WorktreeRootIsFile root) = Holds
HoldsIfRootIsFileError Holds (errors.NormalizeRoot root) = Unit {0}
HoldsIfRootIsFileError Holds (errors.SymlinkInRoot whole worktree_root index) = Unit {0}
HoldsIfRootIsFileError Holds (errors.SymlinkMetadata full why) = Unit {0}
HoldsIfRootIsFileError Holds (errors.ExcludesAccess e) = Unit {0}
HoldsIfRootIsFileError Holds (errors.TooDeep path) = Unit {0}
HoldsIfRootIsFileError Holds (errors.ReadDir path why) = Unit {0}
HoldsIfRootIsFileError Holds (errors.DirEntry path) = Unit {0}
HoldsIfRootIsFileError Holds errors.OutOfMemory = Unit {0}

-- what holds where there is nothing to start from: no traversal root, or the worktree root is refused
abbrev pub HoldsIfNothingStarted : Type 0 → Error → Type 0
HoldsIfNothingStarted Holds errors.Interrupted = Unit {0}
HoldsIfNothingStarted Holds (errors.WorktreeRootIsFile root) = Holds
HoldsIfNothingStarted Holds (errors.NormalizeRoot root) = Holds
HoldsIfNothingStarted Holds (errors.SymlinkInRoot whole worktree_root index) = Holds
HoldsIfNothingStarted Holds (errors.SymlinkMetadata full why) = Holds
HoldsIfNothingStarted Holds (errors.ExcludesAccess e) = Unit {0}
HoldsIfNothingStarted Holds (errors.TooDeep path) = Unit {0}
HoldsIfNothingStarted Holds (errors.ReadDir path why) = Unit {0}
HoldsIfNothingStarted Holds (errors.DirEntry path) = Unit {0}
HoldsIfNothingStarted Holds errors.OutOfMemory = Unit {0}

-- ---- the whole: there is no traversal root, or what is walked from it is refused

-- what a refusal says of what was handed in
abbrev pub IsWholeWalkErrorByInput : WalkSetting → Option StackSetup → Option (List ℕ) → ℕ → Error → Type 0
IsWholeWalkErrorByInput given made explicit limit e = IsErrorOfTraversalRoot given explicit e ⊎ ((root : List ℕ) × IsNormalizedRoot given explicit root × IsErrorFromRootWithinLimit made given.root root limit e)

-- what it says of the tree, the store and the rules
abbrev pub IsWholeWalkErrorByTree : WalkSetting → Option StackSetup → Option (List ℕ) → Option ObjectsById → TreeAndObjects → Error → Type 0
IsWholeWalkErrorByTree given made explicit holds s e = IsErrorOfRootResult (find_traversal_root given s.tree explicit) e ⊎ IsErrorFromRootByTree given.root holds s made e

-- and what where the rules are in step too, a delegate recurses by default, and the worktree did not fail; `StoreFailed` says that
-- the store did
abbrev pub IsWholeWalkErrorBySources : WalkSetting → Option StackSetup → TreeAndObjects → Option (List ℕ) → ℕ → Type 0 → Error → Type 0
IsWholeWalkErrorBySources given made s explicit limit StoreFailed e =
    IsErrorOfRootResult (find_traversal_root given s.tree explicit) e
    ⊎ ((root : List ℕ) × (find_traversal_root given s.tree explicit ≡ rooted root) × IsErrorFromRootBySources given made s root limit StoreFailed e)
