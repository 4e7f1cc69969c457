-- Why there is no traversal root.
use Rattle.std.specs.Prelude.{◌≡◌, ◌⊎◌, ◌<◌, ℕ, Bool, true, false, List, [], length, Option, Some, None, is_some}
use Rattle.gitbase_core.specs.Path.{components, is_absolute, is_empty, ends_in_slash, normalized}
use Rattle.worktree_fs.specs.Paths.{root_joined_with_relative, is_relative_without_dots, slash_joined_components}
use Rattle.dir_classify.specs.declared.error.Error.{Error}
use Rattle.dir_classify.specs.declared.error.Error.TheVariants as errors
use Rattle.dir_classify.specs.declared.error.MetadataWhy.TheVariants as metadata
use Rattle.dir_classify.specs.declared.entry.Kind.{Kind}
use Rattle.dir_classify.specs.Kinds.{is_symlink_kind}
use Rattle.dir_classify.specs.Layers.{WalkSetting}
use Rattle.dir_classify.specs.Rooted.{IsPathOnWayToRoot}
use Rattle.dir_walk.specs.Root.{TraversalRootResult, missing, through_link, outside}

-- ---- any worktree

-- a root that was computed: the common directory, or the worktree root
abbrev pub IsCommonDirectoryOrEmpty : Option (List ℕ) → List ℕ → Type 0
IsCommonDirectoryOrEmpty common root = (root ≡ []) ⊎ (common ≡ Some root)

-- a root that was handed in, or computed where none was
abbrev pub IsExplicitOrCommonRoot : WalkSetting → Option (List ℕ) → List ℕ → Type 0
IsExplicitOrCommonRoot given (Some explicit) root = root ≡ explicit
IsExplicitOrCommonRoot given None root = IsCommonDirectoryOrEmpty given.common root

-- it is absolute, or leads out of the worktree
abbrev pub IsUnnormalizableOrAbsolute : Option (List ℕ) → Type 0
IsUnnormalizableOrAbsolute None = Unit {0}
IsUnnormalizableOrAbsolute (Some path) = is_absolute path ≡ true

pub record IsRootOutsideWorktree (given : WalkSetting) (explicit : Option (List ℕ)) (root : List ℕ) : Type 0 where
  pub asked : IsExplicitOrCommonRoot given explicit root
  pub out : IsUnnormalizableOrAbsolute (normalized root)

-- the whole path of the first components of a path, of one at least
pub record IsFullPathOfFront (root path full : List ℕ) : Type 0 where
  pub front : List ℕ
  pub leads : IsPathOnWayToRoot path front
  pub beneath : is_empty front ≡ false
  pub full_is : full ≡ root_joined_with_relative root front

-- what a refusal on the way through the components of a path says of what was handed in
abbrev pub IsErrorOfRootComponents : List ℕ → List ℕ → Error → Type 0
IsErrorOfRootComponents root path errors.Interrupted = ⊥
IsErrorOfRootComponents root path (errors.WorktreeRootIsFile at) = ⊥
IsErrorOfRootComponents root path (errors.NormalizeRoot at) = ⊥
IsErrorOfRootComponents root path (errors.SymlinkInRoot whole worktree_root index) = (whole ≡ root_joined_with_relative root path) × (worktree_root ≡ root) × (index < length (components path))
IsErrorOfRootComponents root path (errors.ExcludesAccess e) = ⊥
IsErrorOfRootComponents root path (errors.ReadDir at why) = ⊥
IsErrorOfRootComponents root path (errors.DirEntry at) = ⊥
IsErrorOfRootComponents root path (errors.SymlinkMetadata full why) = IsFullPathOfFront root path full
IsErrorOfRootComponents root path (errors.TooDeep at) = ⊥
IsErrorOfRootComponents root path errors.OutOfMemory = Unit {0}

-- a root that was asked for, normalised, which does not lead out of the worktree
abbrev pub IsNormalizedRoot : WalkSetting → Option (List ℕ) → List ℕ → Type 0
IsNormalizedRoot given explicit path = (root : List ℕ) × IsExplicitOrCommonRoot given explicit root × (normalized root ≡ Some path) × (is_absolute path ≡ false)

-- what the refusal of a traversal root says of what was handed in
abbrev pub IsErrorOfTraversalRoot : WalkSetting → Option (List ℕ) → Error → Type 0
IsErrorOfTraversalRoot given explicit errors.Interrupted = ⊥
IsErrorOfTraversalRoot given explicit (errors.WorktreeRootIsFile at) = ⊥
IsErrorOfTraversalRoot given explicit (errors.NormalizeRoot root) = IsRootOutsideWorktree given explicit root
IsErrorOfTraversalRoot given explicit (errors.SymlinkInRoot whole worktree_root index) =
    (path : List ℕ) × IsNormalizedRoot given explicit path × IsErrorOfRootComponents given.root path (errors.SymlinkInRoot whole worktree_root index)
IsErrorOfTraversalRoot given explicit (errors.ExcludesAccess e) = ⊥
IsErrorOfTraversalRoot given explicit (errors.ReadDir at why) = ⊥
IsErrorOfTraversalRoot given explicit (errors.DirEntry at) = ⊥
IsErrorOfTraversalRoot given explicit (errors.SymlinkMetadata full why) = (path : List ℕ) × IsNormalizedRoot given explicit path × IsFullPathOfFront given.root path full
IsErrorOfTraversalRoot given explicit (errors.TooDeep at) = ⊥
IsErrorOfTraversalRoot given explicit errors.OutOfMemory = Unit {0}

-- ---- a told tree

-- the refusal is what the way through the components of a root came to
abbrev pub IsErrorOfRootResult : TraversalRootResult → Error → Type 0
IsErrorOfRootResult end errors.Interrupted = ⊥
IsErrorOfRootResult end (errors.WorktreeRootIsFile at) = ⊥
IsErrorOfRootResult end (errors.NormalizeRoot root) = end ≡ outside root
IsErrorOfRootResult end (errors.SymlinkInRoot whole worktree_root index) = end ≡ through_link index
IsErrorOfRootResult end (errors.ExcludesAccess e) = ⊥
IsErrorOfRootResult end (errors.ReadDir at why) = ⊥
IsErrorOfRootResult end (errors.DirEntry at) = ⊥
IsErrorOfRootResult end (errors.SymlinkMetadata full metadata.Absent) = end ≡ missing full
IsErrorOfRootResult end (errors.SymlinkMetadata full metadata.Fault) = Unit {0}
IsErrorOfRootResult end (errors.TooDeep at) = ⊥
IsErrorOfRootResult end errors.OutOfMemory = Unit {0}

-- a path that a traversal root may be: normal, and spelled by its components
pub record IsNormalRootPath (path : List ℕ) : Type 0 where
  pub normal : is_relative_without_dots path ≡ true
  pub plain : ends_in_slash path ≡ false
  pub spelled_is : path ≡ slash_joined_components (components path)

-- what was found of a component: that it is a link, or another node
abbrev pub IsLinkTestOfExistingNode : Option Kind → Bool → Type 0
IsLinkTestOfExistingNode kind link = (is_some kind ≡ true) × (link ≡ is_symlink_kind kind)

-- a refusal names it by its whole path
abbrev pub IsMetadataErrorAtPath : List ℕ → Error → Type 0
IsMetadataErrorAtPath full errors.Interrupted = ⊥
IsMetadataErrorAtPath full (errors.WorktreeRootIsFile at) = ⊥
IsMetadataErrorAtPath full (errors.NormalizeRoot root) = ⊥
IsMetadataErrorAtPath full (errors.SymlinkInRoot whole worktree_root index) = ⊥
IsMetadataErrorAtPath full (errors.ExcludesAccess e) = ⊥
IsMetadataErrorAtPath full (errors.ReadDir at why) = ⊥
IsMetadataErrorAtPath full (errors.DirEntry at) = ⊥
IsMetadataErrorAtPath full (errors.SymlinkMetadata path why) = path ≡ full
IsMetadataErrorAtPath full (errors.TooDeep at) = ⊥
IsMetadataErrorAtPath full errors.OutOfMemory = Unit {0}

-- or that it is not there, by its whole path
abbrev pub IsAbsentErrorAtPath : Option Kind → List ℕ → Error → Type 0
IsAbsentErrorAtPath kind full errors.Interrupted = ⊥
IsAbsentErrorAtPath kind full (errors.WorktreeRootIsFile at) = ⊥
IsAbsentErrorAtPath kind full (errors.NormalizeRoot root) = ⊥
IsAbsentErrorAtPath kind full (errors.SymlinkInRoot whole worktree_root index) = ⊥
IsAbsentErrorAtPath kind full (errors.ExcludesAccess e) = ⊥
IsAbsentErrorAtPath kind full (errors.ReadDir at why) = ⊥
IsAbsentErrorAtPath kind full (errors.DirEntry at) = ⊥
IsAbsentErrorAtPath kind full (errors.SymlinkMetadata path metadata.Absent) = (path ≡ full) × (kind ≡ None)
IsAbsentErrorAtPath kind full (errors.SymlinkMetadata path metadata.Fault) = path ≡ full
IsAbsentErrorAtPath kind full (errors.TooDeep at) = ⊥
IsAbsentErrorAtPath kind full errors.OutOfMemory = Unit {0}
