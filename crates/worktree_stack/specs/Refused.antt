-- Why a lookup is refused.
use Rattle.std.specs.Prelude.{◌≡◌, ℕ, Bool, false, List, ◌∷◌, ◌++◌, Option, Some, None, Result, Err}
use Rattle.gitbase_core.specs.Objects.{ObjectsById}
use Rattle.worktree_fs.specs.Tree.{Names}
use Rattle.worktree_fs.specs.Paths.{slash_joined_components, all_but_last}
use Rattle.worktree_stack.specs.declared.error.AtPathError.{AtPathError}
use Rattle.worktree_stack.specs.declared.error.AtPathError.TheVariants as errors
use Rattle.worktree_stack.specs.declared.error.RulesWhy.{RulesWhy}
use Rattle.worktree_stack.specs.declared.error.RulesWhy.TheVariants as whys
use Rattle.worktree_stack.specs.declared.error.BlobWhy.{BlobWhy}
use Rattle.worktree_stack.specs.declared.error.BlobWhy.TheVariants as blob_whys
use Rattle.worktree_stack.specs.Setup.{StackSetup}
use Rattle.worktree_stack.specs.Reading.{TreeAndObjects, Tells, RulesRefusal, RulesPlace, in_tree, in_store, of_file, of_blob, places_of_directory, rules_texts_of_directory}

-- What holds of a refusal, by what it is for: a rules file and why, a blob and why, want of memory. A lookup of a normal path is
-- refused for nothing else, where no directories are made in the worktree.
abbrev pub HoldsByRulesError : (List ℕ → RulesWhy → Type 0) → (List ℕ → BlobWhy → Type 0) → Type 0 → AtPathError → Type 0
HoldsByRulesError File Blob Memory errors.NotNormal = ⊥
HoldsByRulesError File Blob Memory (errors.Component why) = ⊥
HoldsByRulesError File Blob Memory (errors.Collision path) = ⊥
HoldsByRulesError File Blob Memory (errors.Directory path why) = ⊥
HoldsByRulesError File Blob Memory (errors.RulesFile path why) = File path why
HoldsByRulesError File Blob Memory (errors.Blob id why) = Blob id why
HoldsByRulesError File Blob Memory errors.OutOfMemory = Memory

-- ---- one directory

-- a place is one of those where the rules of a directory are looked for
pub record IsPlaceAmong (places : List RulesPlace) (place : RulesPlace) : Type 0 where
  pub before : List RulesPlace
  pub after : List RulesPlace
  pub among : places ≡ before ++ place ∷ after

-- Why rules are refused for a file, where `Failed` says that the worktree failed: over a told tree and a told store that is what
-- reading them gives, or it is the failure. A link is refused only where it is not followed.
abbrev pub ExplainsRefusedFile : {A : Type 0} → Option Names → Option ObjectsById → Type 0 → (TreeAndObjects → Result A RulesRefusal) → List ℕ → Bool → RulesWhy → Type 0
ExplainsRefusedFile told holds Failed read path follow whys.Link = (follow ≡ false) × ((s : TreeAndObjects) → Tells told holds s → read s ≡ Err (of_file path whys.Link))
ExplainsRefusedFile told holds Failed read path follow whys.LinkLimit = (s : TreeAndObjects) → Tells told holds s → read s ≡ Err (of_file path whys.LinkLimit)
ExplainsRefusedFile told holds Failed read path follow whys.Special = (s : TreeAndObjects) → Tells told holds s → read s ≡ Err (of_file path whys.Special)
ExplainsRefusedFile told holds Failed read path follow whys.Fault = Failed

-- likewise for a blob
abbrev pub ExplainsRefusedBlob : {A : Type 0} → Option Names → Option ObjectsById → Type 0 → (TreeAndObjects → Result A RulesRefusal) → List ℕ → BlobWhy → Type 0
ExplainsRefusedBlob told holds Failed read id blob_whys.Missing = (s : TreeAndObjects) → Tells told holds s → read s ≡ Err (of_blob id blob_whys.Missing)
ExplainsRefusedBlob told holds Failed read id blob_whys.NotABlob = (s : TreeAndObjects) → Tells told holds s → read s ≡ Err (of_blob id blob_whys.NotABlob)
ExplainsRefusedBlob told holds Failed read id blob_whys.Fault = Failed

-- rules that are looked for in these places, and read so, are refused for a file
pub record IsFileRefusedAmongPlaces {A : Type 0} (told : Option Names) (holds : Option ObjectsById) (Failed : Type 0) (places : List RulesPlace) (read : TreeAndObjects → Result A RulesRefusal) (path : List ℕ) (why : RulesWhy) : Type 0 where
  pub follow : Bool
  pub place : IsPlaceAmong places (in_tree path follow)
  pub why_is : ExplainsRefusedFile told holds Failed read path follow why

-- and for a blob
pub record IsBlobRefusedAmongPlaces {A : Type 0} (told : Option Names) (holds : Option ObjectsById) (Failed : Type 0) (places : List RulesPlace) (read : TreeAndObjects → Result A RulesRefusal) (id : List ℕ) (why : BlobWhy) : Type 0 where
  pub path : List ℕ
  pub place : IsPlaceAmong places (in_store path id)
  pub why_is : ExplainsRefusedBlob told holds Failed read id why

-- rules that are looked for in these places are refused for a file, for a blob, or for want of memory
abbrev pub IsReadingRefused : {A : Type 0} → Option Names → Option ObjectsById → Type 0 → Type 0 → List RulesPlace → (TreeAndObjects → Result A RulesRefusal) → AtPathError → Type 0
IsReadingRefused told holds TreeFailed StoreFailed places read =
    HoldsByRulesError (IsFileRefusedAmongPlaces told holds TreeFailed places read) (IsBlobRefusedAmongPlaces told holds StoreFailed places read) (Unit {0})

-- a reading of a directory is refused for a file
abbrev pub IsFileRefusedForDirectory : Option Names → Option ObjectsById → Type 0 → StackSetup → List ℕ → RulesWhy → List ℕ → Type 0
IsFileRefusedForDirectory told holds Failed made path why d = IsFileRefusedAmongPlaces told holds Failed (places_of_directory made d) (λ s. rules_texts_of_directory made s d) path why

-- a reading of a directory is refused for a blob
abbrev pub IsBlobRefusedForDirectory : Option Names → Option ObjectsById → Type 0 → StackSetup → List ℕ → BlobWhy → List ℕ → Type 0
IsBlobRefusedForDirectory told holds Failed made id why d = IsBlobRefusedAmongPlaces told holds Failed (places_of_directory made d) (λ s. rules_texts_of_directory made s d) id why

-- the readings of a directory are refused for a file, for a blob, or for want of memory
abbrev pub IsDirectoryReadingRefused : Option Names → Option ObjectsById → Type 0 → Type 0 → StackSetup → List ℕ → AtPathError → Type 0
IsDirectoryReadingRefused told holds TreeFailed StoreFailed made d =
    HoldsByRulesError (λ path why. IsFileRefusedForDirectory told holds TreeFailed made path why d) (λ id why. IsBlobRefusedForDirectory told holds StoreFailed made id why d) (Unit {0})

-- ---- a lookup

-- this holds of a proper ancestor of a path, or of the root where the path is empty
pub record HoldsOfSomeAncestor (names : List (List ℕ)) (Holds : List ℕ → Type 0) : Type 0 where
  pub ancestor : List (List ℕ)
  pub rest : List (List ℕ)
  pub above : all_but_last names ≡ ancestor ++ rest
  pub holds : Holds (slash_joined_components ancestor)

-- why the lookup of a path is refused: the rules of a directory above it are, or there is no memory
abbrev pub ExplainsLookupError : Option Names → Option ObjectsById → Type 0 → Type 0 → StackSetup → List (List ℕ) → AtPathError → Type 0
ExplainsLookupError told holds TreeFailed StoreFailed made names =
    HoldsByRulesError (λ path why. HoldsOfSomeAncestor names (IsFileRefusedForDirectory told holds TreeFailed made path why))
    (λ id why. HoldsOfSomeAncestor names (IsBlobRefusedForDirectory told holds StoreFailed made id why)) (Unit {0})

-- ---- what is said of it apart

-- whatever the worktree and the store: it is for a rules file or a blob that is looked for on the way to a path
abbrev pub IsErrorOnWayToPath : StackSetup → List (List ℕ) → AtPathError → Type 0
IsErrorOnWayToPath made names = ExplainsLookupError None None (Unit {0}) (Unit {0}) made names

-- over a tree and a store: that file or blob is refused for what it is
abbrev pub ExplainsLookupErrorInTree : TreeAndObjects → StackSetup → List (List ℕ) → AtPathError → Type 0
ExplainsLookupErrorInTree s made names = ExplainsLookupError (Some s.tree) (Some s.objects) (Unit {0}) (Unit {0}) made names

-- what holds where the worktree failed, and what where the store did
abbrev pub HoldsOnFaultError : Type 0 → Type 0 → AtPathError → Type 0
HoldsOnFaultError TreeFailed StoreFailed errors.NotNormal = Unit {0}
HoldsOnFaultError TreeFailed StoreFailed (errors.Component why) = Unit {0}
HoldsOnFaultError TreeFailed StoreFailed (errors.Collision path) = Unit {0}
HoldsOnFaultError TreeFailed StoreFailed (errors.Directory path why) = Unit {0}
HoldsOnFaultError TreeFailed StoreFailed (errors.RulesFile path whys.Link) = Unit {0}
HoldsOnFaultError TreeFailed StoreFailed (errors.RulesFile path whys.LinkLimit) = Unit {0}
HoldsOnFaultError TreeFailed StoreFailed (errors.RulesFile path whys.Special) = Unit {0}
HoldsOnFaultError TreeFailed StoreFailed (errors.RulesFile path whys.Fault) = TreeFailed
HoldsOnFaultError TreeFailed StoreFailed (errors.Blob id blob_whys.Missing) = Unit {0}
HoldsOnFaultError TreeFailed StoreFailed (errors.Blob id blob_whys.NotABlob) = Unit {0}
HoldsOnFaultError TreeFailed StoreFailed (errors.Blob id blob_whys.Fault) = StoreFailed
HoldsOnFaultError TreeFailed StoreFailed errors.OutOfMemory = Unit {0}
