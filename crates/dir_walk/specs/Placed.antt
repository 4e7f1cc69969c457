-- Where a walk stands.
use Rattle.std.specs.Prelude.{◌≡◌, ℕ, ◌≤◌, true, false, List, length, take, drop}
use Rattle.gitbase_core.specs.Path.{components, path_joined_with_slash, path_with_trailing_slash, ends_in_slash}
use Rattle.worktree_fs.specs.Naming.{IsValidEntryName}
use Rattle.worktree_fs.specs.Paths.{root_joined_with_relative, is_relative_without_dots, slash_joined_components}

-- a worktree root, and a path relative to it
pub record PlaceInWorktree : Type 0 where
  pub root : List ℕ
  pub path : List ℕ

-- A text begins with so many bytes of a worktree root, and from `start` on it has a path relative to that: it is the whole
-- path, and the relative one is normal, and spelled so that one slash parts each two components and none stands at the end.
pub record IsWellPlaced (root_length start : ℕ) (whole : List ℕ) : Type 0 where
  pub fits : root_length ≤ length whole
  pub start_is : start ≡ length (path_with_trailing_slash (take root_length whole))
  pub whole_is : whole ≡ root_joined_with_relative (take root_length whole) (drop start whole)
  pub plain : ends_in_slash (drop start whole) ≡ false
  pub normal : is_relative_without_dots (drop start whole) ≡ true
  pub spelled_is : drop start whole ≡ slash_joined_components (components (drop start whole))

-- what contracts see of it
abbrev pub place_from_whole_path : ℕ → ℕ → List ℕ → PlaceInWorktree
place_from_whole_path root_length start whole = record { root = take root_length whole; path = drop start whole }

-- `place` is that of a name in `directory`, whose whole path has so many bytes
pub record IsNameInPlace (bytes : ℕ) (directory place : PlaceInWorktree) : Type 0 where
  pub bytes_are : bytes ≡ length (root_joined_with_relative directory.root directory.path)
  pub plain : ends_in_slash directory.path ≡ false
  pub normal : is_relative_without_dots directory.path ≡ true
  pub spelled_is : directory.path ≡ slash_joined_components (components directory.path)
  pub name : List ℕ
  pub is_name : IsValidEntryName name
  pub place_is : place ≡ record { root = directory.root; path = path_joined_with_slash directory.path name }
