-- The looks on the way from a directory along some names.
use Rattle.std.specs.Prelude.{◌≡◌, ◌⊎◌, ℕ, List, [], ◌∷◌, Bool, true, false, Option, Some, None}
use Rattle.gitbase_core.specs.Path.{path_joined_with_slash}
use Rattle.worktree_fs.specs.Answers.{kind_of_lookup}
use Rattle.worktree_fs.specs.Tree.{Names, look}
use Rattle.worktree_fs.specs.declared.answers.NodeKind.{NodeKind}
use Rattle.worktree_fs.specs.declared.answers.NodeKind.TheVariants as nodes

-- a directory; a link is none
abbrev pub is_directory_kind : Option NodeKind → Bool
is_directory_kind None = false
is_directory_kind (Some nodes.Directory) = true
is_directory_kind (Some nodes.File) = false
is_directory_kind (Some nodes.Symlink) = false
is_directory_kind (Some nodes.Untrackable) = false

-- a directory stands at a path, where the worktree tells
abbrev pub IsDirectoryInToldTree : Option Names → List ℕ → Type 0
IsDirectoryInToldTree told path = (t : Names) → told ≡ Some t → is_directory_kind (kind_of_lookup (look t path false)) ≡ true

-- A path is one of those that are looked at on the way from a directory along some names: that to which the first name
-- leads, and where a directory stands there, those on the way from it along the others. Along no names it is that of the
-- directory itself.
abbrev pub IsLookedAtOnWay : Option Names → List ℕ → List (List ℕ) → List ℕ → Type 0
IsLookedAtOnWay told directory [] path = path ≡ directory
IsLookedAtOnWay told directory (name ∷ names) path =
    (path ≡ path_joined_with_slash directory name) ⊎ (IsDirectoryInToldTree told (path_joined_with_slash directory name) × IsLookedAtOnWay told (path_joined_with_slash directory name) names path)
