-- The git directories of a work tree that lie in it under another name than `.git`.
use Rattle.std.specs.Prelude.{ℕ, List, Bool, true, false, not, ◌&&◌, ◌∷◌, [], codes, Option, Some, None, option_and_then, if◌then◌else◌}
use Rattle.gitbase_core.specs.Path.{basename, is_empty}
use Rattle.gitbase_core.specs.Text.{is_dot_git_ignoring_case}
use Rattle.git_places.specs.Places.{RepositoryPlaces}
use Rattle.worktree_fs.specs.Changes.{real_path}
use Rattle.worktree_fs.specs.Tree.{Names}
use Rattle.git_setup.specs.Placed.{path_below_root}
use Rattle.git_setup.specs.declared.own_directories.OwnDirectories.{OwnDirectories}

-- a path below the top that a deletion could take: not the top itself, and not called `.git`, which none takes
abbrev pub is_below_top_not_dot_git : List ℕ → Bool
is_below_top_not_dot_git path = not (is_empty path) && not (is_dot_git_ignoring_case (basename path))

-- the path, if a deletion could take it: none for the top, and for the name `.git` in any letters
abbrev pub relative_path_below_top_unless_dot_git : Option (List ℕ) → Option (List ℕ)
relative_path_below_top_unless_dot_git None = None
relative_path_below_top_unless_dot_git (Some path) = if is_below_top_not_dot_git path then Some path else None

-- where a directory lies, links followed, if that is below the top
abbrev pub real_path_below_top : Names → List ℕ → List ℕ → Option (List ℕ)
real_path_below_top t root directory = option_and_then (path_below_root root) (real_path t directory (codes "/"))

-- the git directory of the work tree, and what it shares with others
abbrev pub git_dirs_needing_protection : Names → RepositoryPlaces → OwnDirectories
git_dirs_needing_protection t places =
    record { git = relative_path_below_top_unless_dot_git (real_path_below_top t places.root places.git); common = relative_path_below_top_unless_dot_git (real_path_below_top t places.root places.common) }

-- nothing to spare: no git directory lies where a deletion could take it
abbrev pub no_own_directories : OwnDirectories
no_own_directories = record { git = None; common = None }

-- those matter to a deletion alone
abbrev pub git_dirs_needing_protection_if_deleting : Bool → Names → RepositoryPlaces → OwnDirectories
git_dirs_needing_protection_if_deleting deletes t places = if deletes then git_dirs_needing_protection t places else no_own_directories
