-- Why the class of a path is refused: the rules of a directory above it were not read.
use Rattle.std.specs.Prelude.{◌≢◌, ℕ, List, Option, Some, None, IsSomeAnd}
use Rattle.gitbase_core.specs.Objects.{ObjectsById}
use Rattle.gitbase_core.specs.Path.{components}
use Rattle.worktree_fs.specs.PathStack.{delegate_calls_of_lookup}
use Rattle.worktree_fs.specs.Tree.{Names}
use Rattle.worktree_stack.specs.declared.error.AtPathError.{AtPathError}
use Rattle.worktree_stack.specs.declared.error.AtPathError.TheVariants as inner
use Rattle.worktree_stack.specs.Setup.{StackSetup}
use Rattle.worktree_stack.specs.Reading.{TreeAndObjects}
use Rattle.worktree_stack.specs.Refused as lookups
use Rattle.worktree_stack.specs.Stacked.{StackModel}
use Rattle.worktree_stack.specs.Steps.{StopsLookupByError}
use Rattle.dir_classify.specs.declared.error.Error.{Error}
use Rattle.dir_classify.specs.declared.error.Error.TheVariants as errors
use Rattle.dir_classify.specs.declared.error.MetadataWhy.TheVariants as metadata
use Rattle.dir_classify.specs.declared.error.ReadWhy.TheVariants as reads

-- a refused lookup as the refusal of a class
abbrev pub error_from_lookup_error : AtPathError → Error
error_from_lookup_error inner.OutOfMemory = errors.OutOfMemory
error_from_lookup_error inner.NotNormal = errors.ExcludesAccess inner.NotNormal
error_from_lookup_error (inner.Component why) = errors.ExcludesAccess (inner.Component why)
error_from_lookup_error (inner.Collision path) = errors.ExcludesAccess (inner.Collision path)
error_from_lookup_error (inner.Directory path why) = errors.ExcludesAccess (inner.Directory path why)
error_from_lookup_error (inner.RulesFile path why) = errors.ExcludesAccess (inner.RulesFile path why)
error_from_lookup_error (inner.Blob id why) = errors.ExcludesAccess (inner.Blob id why)

-- a lookup of this path was refused, not for want of memory: it names the rules file of a directory above the path, or its blob
pub record IsRulesFileErrorAbovePath (made : StackSetup) (path : List ℕ) (e : AtPathError) : Type 0 where
  pub some_memory : e ≢ inner.OutOfMemory
  pub on_way : lookups.IsErrorOnWayToPath made (components path) e

-- what a refusal says of the path whose class was asked
abbrev pub IsClassErrorAboutPath : Option StackSetup → List ℕ → Error → Type 0
IsClassErrorAboutPath made path errors.Interrupted = ⊥
IsClassErrorAboutPath made path (errors.WorktreeRootIsFile root) = ⊥
IsClassErrorAboutPath made path (errors.NormalizeRoot root) = ⊥
IsClassErrorAboutPath made path (errors.SymlinkInRoot root worktree_root index) = ⊥
IsClassErrorAboutPath made path (errors.SymlinkMetadata missing why) = ⊥
IsClassErrorAboutPath made path (errors.ExcludesAccess e) = IsSomeAnd made (λ rules. IsRulesFileErrorAbovePath rules path e)
IsClassErrorAboutPath made path (errors.ReadDir directory why) = ⊥
IsClassErrorAboutPath made path (errors.DirEntry directory) = ⊥
IsClassErrorAboutPath made path (errors.TooDeep directory) = ⊥
IsClassErrorAboutPath made path errors.OutOfMemory = Unit {0}

-- over a told tree and a told store: that file or blob is refused for what it is
abbrev pub IsErrorOfUnreadableRules : TreeAndObjects → Option StackSetup → List ℕ → Error → Type 0
IsErrorOfUnreadableRules s made path errors.Interrupted = ⊥
IsErrorOfUnreadableRules s made path (errors.WorktreeRootIsFile root) = ⊥
IsErrorOfUnreadableRules s made path (errors.NormalizeRoot root) = ⊥
IsErrorOfUnreadableRules s made path (errors.SymlinkInRoot root worktree_root index) = ⊥
IsErrorOfUnreadableRules s made path (errors.SymlinkMetadata missing why) = ⊥
IsErrorOfUnreadableRules s made path (errors.ExcludesAccess e) = IsSomeAnd made (λ rules. lookups.ExplainsLookupErrorInTree s rules (components path) e)
IsErrorOfUnreadableRules s made path (errors.ReadDir directory why) = ⊥
IsErrorOfUnreadableRules s made path (errors.DirEntry directory) = ⊥
IsErrorOfUnreadableRules s made path (errors.TooDeep directory) = ⊥
IsErrorOfUnreadableRules s made path errors.OutOfMemory = Unit {0}

-- what holds of the lookup that was refused, where a class asked the rules
abbrev pub HoldsOfExcludesError : (AtPathError → Type 0) → Error → Type 0
HoldsOfExcludesError Holds (errors.ExcludesAccess e) = Holds e
HoldsOfExcludesError Holds errors.Interrupted = Unit {0}
HoldsOfExcludesError Holds (errors.WorktreeRootIsFile root) = Unit {0}
HoldsOfExcludesError Holds (errors.NormalizeRoot root) = Unit {0}
HoldsOfExcludesError Holds (errors.SymlinkInRoot root worktree_root index) = Unit {0}
HoldsOfExcludesError Holds (errors.SymlinkMetadata missing why) = Unit {0}
HoldsOfExcludesError Holds (errors.ReadDir directory why) = Unit {0}
HoldsOfExcludesError Holds (errors.DirEntry directory) = Unit {0}
HoldsOfExcludesError Holds (errors.TooDeep directory) = Unit {0}
HoldsOfExcludesError Holds errors.OutOfMemory = Unit {0}

-- what holds where a class asked the rules
abbrev pub HoldsIfExcludesError : Type 0 → Error → Type 0
HoldsIfExcludesError Holds = HoldsOfExcludesError (λ e. Holds)

-- It stopped at a directory whose rules were refused so, in a lookup of this path by rules that were `old` and are `new`: those of
-- the directories before it were read, and these are pushed.
abbrev pub StopsAtRefusedDirectoryIfGiven : Option Names → Option ObjectsById → Type 0 → Type 0 → List ℕ → (old new : Option StackModel) → AtPathError → Type 0
StopsAtRefusedDirectoryIfGiven told holds TreeFailed StoreFailed path None new e = ⊥
StopsAtRefusedDirectoryIfGiven told holds TreeFailed StoreFailed path (Some old) None e = ⊥
StopsAtRefusedDirectoryIfGiven told holds TreeFailed StoreFailed path (Some old) (Some new) e = StopsLookupByError told holds TreeFailed StoreFailed (delegate_calls_of_lookup old.at (components path)) old new e

-- what holds where the worktree failed, and what where the store did
abbrev pub HoldsIfFaultError : Type 0 → Type 0 → Error → Type 0
HoldsIfFaultError TreeFailed StoreFailed errors.Interrupted = Unit {0}
HoldsIfFaultError TreeFailed StoreFailed (errors.WorktreeRootIsFile path) = Unit {0}
HoldsIfFaultError TreeFailed StoreFailed (errors.NormalizeRoot root) = Unit {0}
HoldsIfFaultError TreeFailed StoreFailed (errors.SymlinkInRoot root worktree_root index) = Unit {0}
HoldsIfFaultError TreeFailed StoreFailed (errors.SymlinkMetadata path metadata.Absent) = Unit {0}
HoldsIfFaultError TreeFailed StoreFailed (errors.SymlinkMetadata path metadata.Fault) = TreeFailed
HoldsIfFaultError TreeFailed StoreFailed (errors.ExcludesAccess e) = lookups.HoldsOnFaultError TreeFailed StoreFailed e
HoldsIfFaultError TreeFailed StoreFailed (errors.ReadDir path reads.Absent) = Unit {0}
HoldsIfFaultError TreeFailed StoreFailed (errors.ReadDir path reads.NotADirectory) = Unit {0}
HoldsIfFaultError TreeFailed StoreFailed (errors.ReadDir path reads.Fault) = TreeFailed
HoldsIfFaultError TreeFailed StoreFailed (errors.DirEntry path) = TreeFailed
HoldsIfFaultError TreeFailed StoreFailed (errors.TooDeep path) = Unit {0}
HoldsIfFaultError TreeFailed StoreFailed errors.OutOfMemory = Unit {0}
