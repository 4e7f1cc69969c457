-- The way to a traversal root was refused, or nothing is entered there.
use Rattle.std.proofs.Common.{◌≡◌, ◌⊎◌, inl, ℕ, List, [], ◌∷◌, true, false, Option, Some, None, refl}
use Rattle.std.specs.Prelude.{IsSomeAnd, is_some}
use Rattle.gitbase_core.specs.Objects.{ObjectsById}
use Rattle.gitbase_core.specs.Path.{components, is_empty}
use Rattle.worktree_fs.specs.Paths.{is_relative_without_dots}
use Rattle.worktree_stack.specs.Reading.{TreeAndObjects}
use Rattle.worktree_stack.specs.Refused as lookups
use Rattle.worktree_stack.specs.Setup.{StackSetup}
use Rattle.dir_classify.specs.declared.classify.RootOutcome.{RootOutcome}
use Rattle.dir_classify.specs.declared.error.Error.{Error}
use Rattle.dir_classify.specs.declared.error.Error.TheVariants as errors
use Rattle.dir_classify.specs.Kinds.{is_some_directory_kind}
use Rattle.dir_classify.specs.Layers.{WalkSetting}
use Rattle.dir_classify.specs.Refused.{IsRulesFileErrorAbovePath, HoldsIfExcludesError}
use Rattle.dir_classify.specs.Refused as classes
use Rattle.dir_classify.specs.Rooted.{IsPathOnWayToRoot, HoldsOfPathOnWay, end_of_way_to_root}
use Rattle.dir_classify.proofs.NormalPaths.{normal-front}
use Rattle.dir_walk.specs.Refused.{IsLookupErrorOfAskedPath}
use Rattle.dir_walk.specs.Rooting.{IsNormalRootPath}
use Rattle.dir_walk.specs.Root.{walk_result_from_traversal_root}
use Rattle.dir_walk.specs.Starts.{IsNonDirectoryRootError}
use Rattle.dir_walk.specs.WalkRefused.{HasNoRootToWalk, IsRulesErrorOnWayToRoot, HoldsIfRootIsFileError, IsErrorFromRootWithinLimit, IsErrorFromRootByTree, IsErrorFromRootBySources, walk_result_or_empty}

-- ---- the way

-- a path on the way to a traversal root is normal
on-way-normal : (root path : List ℕ) → IsNormalRootPath root → IsPathOnWayToRoot root path → is_relative_without_dots path ≡ true
on-way-normal root path shape leads = normal-front root path leads.rest shape.normal leads.components_are leads.spelled_is

pub way-about : (made : Option StackSetup) (top root : List ℕ) (limit : ℕ) (e : Error) → IsNormalRootPath root → HoldsOfPathOnWay root (λ path. classes.IsClassErrorAboutPath made path e) → IsErrorFromRootWithinLimit made top root limit e
way-about made top root limit errors.Interrupted shape h = tt
way-about made top root limit (errors.WorktreeRootIsFile p) shape (path, leads, h) = absurd h
way-about made top root limit (errors.NormalizeRoot p) shape (path, leads, h) = h
way-about made top root limit (errors.SymlinkInRoot p worktree_root index) shape (path, leads, h) = h
way-about made top root limit (errors.SymlinkMetadata p why) shape (path, leads, h) = h
way-about None top root limit (errors.ExcludesAccess x) shape (path, leads, h) = h
way-about (Some rules) top root limit (errors.ExcludesAccess x) shape (path, leads, h) = inl (record { path = path; normal = on-way-normal root path shape leads; leads = leads; access = h })
way-about made top root limit (errors.TooDeep p) shape (path, leads, h) = absurd h
way-about made top root limit (errors.ReadDir p why) shape (path, leads, h) = absurd h
way-about made top root limit (errors.DirEntry p) shape (path, leads, h) = absurd h
way-about made top root limit errors.OutOfMemory shape h = tt

pub way-found : (top : List ℕ) (holds : Option ObjectsById) (s : TreeAndObjects) (made : Option StackSetup) (root : List ℕ) (e : Error) → IsNormalRootPath root → HoldsOfPathOnWay root (λ path. classes.IsClassErrorAboutPath made path e)
    → ((is_some made ≡ true → holds ≡ Some s.objects) → HoldsOfPathOnWay root (λ path. classes.IsClassErrorAboutPath made path e × classes.IsErrorOfUnreadableRules s made path e)) → IsErrorFromRootByTree top holds s made e
way-found top holds s made root errors.Interrupted shape h refused = tt
way-found top holds s made root (errors.WorktreeRootIsFile p) shape h refused = tt
way-found top holds s made root (errors.NormalizeRoot p) shape (path, leads, h) refused = h
way-found top holds s made root (errors.SymlinkInRoot p worktree_root index) shape (path, leads, h) refused = h
way-found top holds s made root (errors.SymlinkMetadata p why) shape (path, leads, h) refused = h
way-found top holds s None root (errors.ExcludesAccess x) shape (path, leads, h) refused = h
way-found top holds s (Some rules) root (errors.ExcludesAccess x) shape h refused = λ told.
    let r = refused (λ some. told) in
    record { path = r.0; normal = on-way-normal root r.0 shape r.1; access = r.2.0; refused = r.2.1 }
way-found top holds s made root (errors.TooDeep p) shape h refused = tt
way-found top holds s made root (errors.ReadDir p why) shape (path, leads, h) refused = absurd h
way-found top holds s made root (errors.DirEntry p) shape h refused = tt
way-found top holds s made root errors.OutOfMemory shape h refused = tt

pub way-refuses : (given : WalkSetting) (made : Option StackSetup) (s : TreeAndObjects) (root : List ℕ) (limit : ℕ) (Failed : Type 0) (e : Error)
    → HoldsOfPathOnWay root (λ path. classes.IsClassErrorAboutPath made path e × classes.IsErrorOfUnreadableRules s made path e) → HoldsIfExcludesError (((end_of_way_to_root given made s root).is_unread ≡ true) ⊎ Failed) e → IsErrorFromRootBySources given made s root limit Failed e
way-refuses given made s root limit F errors.Interrupted h asked = tt
way-refuses given made s root limit F (errors.WorktreeRootIsFile p) (path, leads, h) asked = absurd h.0
way-refuses given made s root limit F (errors.NormalizeRoot p) (path, leads, h) asked = h.0
way-refuses given made s root limit F (errors.SymlinkInRoot p worktree_root index) (path, leads, h) asked = h.0
way-refuses given made s root limit F (errors.SymlinkMetadata p why) (path, leads, h) asked = h.0
way-refuses given made s root limit F (errors.ExcludesAccess x) (path, leads, h) asked = go made refl h
  where
    go : (m : Option StackSetup) → made ≡ m → IsSomeAnd m (λ rules. IsRulesFileErrorAbovePath rules path x) × IsSomeAnd m (λ rules. lookups.ExplainsLookupErrorInTree s rules (components path) x)
        → IsSomeAnd m (λ rules. IsRulesErrorOnWayToRoot given made s root rules F x ⊎ IsLookupErrorOfAskedPath s rules (walk_result_or_empty (walk_result_from_traversal_root given made s root)) ⊥ x)
    go None is k = k.0
    go (Some rules) is k = inl (record { path = path; leads = leads; access = k.0; refused = k.1; unread = asked })
way-refuses given made s root limit F (errors.TooDeep p) (path, leads, h) asked = absurd h.0
way-refuses given made s root limit F (errors.ReadDir p why) (path, leads, h) asked = absurd h.0
way-refuses given made s root limit F (errors.DirEntry p) (path, leads, h) asked = absurd h.0
way-refuses given made s root limit F errors.OutOfMemory h asked = tt

pub way-no_root : (Holds : Type 0) (made : Option StackSetup) (root : List ℕ) (e : Error) → HoldsOfPathOnWay root (λ path. classes.IsClassErrorAboutPath made path e) → HoldsIfRootIsFileError Holds e
way-no_root Holds made root errors.Interrupted h = tt
way-no_root Holds made root (errors.WorktreeRootIsFile p) (path, leads, h) = absurd h
way-no_root Holds made root (errors.NormalizeRoot p) h = tt
way-no_root Holds made root (errors.SymlinkInRoot p worktree_root index) h = tt
way-no_root Holds made root (errors.SymlinkMetadata p why) h = tt
way-no_root Holds made root (errors.ExcludesAccess x) h = tt
way-no_root Holds made root (errors.TooDeep p) h = tt
way-no_root Holds made root (errors.ReadDir p why) h = tt
way-no_root Holds made root (errors.DirEntry p) h = tt
way-no_root Holds made root errors.OutOfMemory h = tt

-- ---- what is not

bare : (path : List ℕ) → is_empty path ≡ true → path ≡ []
bare [] e = refl
bare (b ∷ path) e = absurd (cc e)

pub only-about : (made : Option StackSetup) (top root : List ℕ) (limit : ℕ) (reached : RootOutcome) (e : Error) → IsNonDirectoryRootError top root reached e → IsErrorFromRootWithinLimit made top root limit e
only-about made top root limit reached errors.Interrupted h = absurd h
only-about made top root limit reached (errors.WorktreeRootIsFile p) h = (h.0, bare root h.1)
only-about made top root limit reached (errors.NormalizeRoot p) h = h
only-about made top root limit reached (errors.SymlinkInRoot p worktree_root index) h = h
only-about made top root limit reached (errors.SymlinkMetadata p why) h = h
only-about made top root limit reached (errors.ExcludesAccess x) h = absurd h
only-about made top root limit reached (errors.TooDeep p) h = absurd h
only-about made top root limit reached (errors.ReadDir p why) h = absurd h
only-about made top root limit reached (errors.DirEntry p) h = absurd h
only-about made top root limit reached errors.OutOfMemory h = tt

pub only-found : (holds : Option ObjectsById) (s : TreeAndObjects) (made : Option StackSetup) (top root : List ℕ) (reached : RootOutcome) (e : Error) → IsNonDirectoryRootError top root reached e → IsErrorFromRootByTree top holds s made e
only-found holds s made top root reached errors.Interrupted h = tt
only-found holds s made top root reached (errors.WorktreeRootIsFile p) h = tt
only-found holds s made top root reached (errors.NormalizeRoot p) h = h
only-found holds s made top root reached (errors.SymlinkInRoot p worktree_root index) h = h
only-found holds s made top root reached (errors.SymlinkMetadata p why) h = h
only-found holds s made top root reached (errors.ExcludesAccess x) h = absurd h
only-found holds s made top root reached (errors.TooDeep p) h = tt
only-found holds s made top root reached (errors.ReadDir p why) h = absurd h
only-found holds s made top root reached (errors.DirEntry p) h = tt
only-found holds s made top root reached errors.OutOfMemory h = tt

pub only-refuses : (given : WalkSetting) (made : Option StackSetup) (s : TreeAndObjects) (top root : List ℕ) (limit : ℕ) (StoreFailed : Type 0) (reached : RootOutcome) (e : Error)
    → (is_empty root ≡ true → is_some_directory_kind reached.outcome.disk_kind ≡ false → HasNoRootToWalk given made s root) → IsNonDirectoryRootError top root reached e → IsErrorFromRootBySources given made s root limit StoreFailed e
only-refuses given made s top root limit F reached errors.Interrupted none h = tt
only-refuses given made s top root limit F reached (errors.WorktreeRootIsFile p) none h = none h.1 h.2
only-refuses given made s top root limit F reached (errors.NormalizeRoot p) none h = h
only-refuses given made s top root limit F reached (errors.SymlinkInRoot p worktree_root index) none h = h
only-refuses given made s top root limit F reached (errors.SymlinkMetadata p why) none h = h
only-refuses given made s top root limit F reached (errors.ExcludesAccess x) none h = absurd h
only-refuses given made s top root limit F reached (errors.TooDeep p) none h = absurd h
only-refuses given made s top root limit F reached (errors.ReadDir p why) none h = absurd h
only-refuses given made s top root limit F reached (errors.DirEntry p) none h = tt
only-refuses given made s top root limit F reached errors.OutOfMemory none h = tt

pub only-no_root : (Holds : Type 0) (top root : List ℕ) (reached : RootOutcome) (e : Error) → (is_empty root ≡ true → is_some_directory_kind reached.outcome.disk_kind ≡ false → Holds) → IsNonDirectoryRootError top root reached e → HoldsIfRootIsFileError Holds e
only-no_root Holds top root reached errors.Interrupted none h = tt
only-no_root Holds top root reached (errors.WorktreeRootIsFile p) none h = none h.1 h.2
only-no_root Holds top root reached (errors.NormalizeRoot p) none h = tt
only-no_root Holds top root reached (errors.SymlinkInRoot p worktree_root index) none h = tt
only-no_root Holds top root reached (errors.SymlinkMetadata p why) none h = tt
only-no_root Holds top root reached (errors.ExcludesAccess x) none h = tt
only-no_root Holds top root reached (errors.TooDeep p) none h = tt
only-no_root Holds top root reached (errors.ReadDir p why) none h = tt
only-no_root Holds top root reached (errors.DirEntry p) none h = tt
only-no_root Holds top root reached errors.OutOfMemory none h = tt
