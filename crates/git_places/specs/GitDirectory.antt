-- What stands at `.git` in a directory.
use Rattle.std.specs.Prelude.{ℕ, true, List, [], codes, Option, Some, None, Result, Ok, Err, if◌then◌else◌, unwrap_or}
use Rattle.gitbase_core.specs.Path.{path_joined_with_slash, parent}
use Rattle.worktree_fs.specs.Changes.{resolve_path_from_directory}
use Rattle.worktree_fs.specs.Tree.{Names, LookupResult, look}
use Rattle.worktree_fs.specs.Repository.{bytes_of_file_lookup, gitdir_path, is_lookup_of_directory}
use Rattle.gitbase_core.specs.Steps.{and_then}
use Rattle.git_places.specs.Whole.{is_agreed_git_directory}
use Rattle.git_places.specs.declared.error.PlacesError.{PlacesError}
use Rattle.git_places.specs.declared.error.PlacesError.TheVariants as errors

-- the path of `.git` in a directory
abbrev pub dot_git_path : List ℕ → List ℕ
dot_git_path directory = path_joined_with_slash directory (codes ".git")

-- the path that a file `.git` has to be that of a git directory, and else it is refused
abbrev pub require_git_file_target : Names → List ℕ → Result (Option (List ℕ)) PlacesError
require_git_file_target t git = and_then (λ is. if is then Ok (Some git) else Err (errors.GitFileTarget git)) (is_agreed_git_directory t git)

-- the git directory that a file names; the file is refused where it names none
abbrev pub git_directory_of_file_path : Names → List ℕ → Option (List ℕ) → Result (Option (List ℕ)) PlacesError
git_directory_of_file_path t file None = Err (errors.GitFileForm file)
git_directory_of_file_path t file (Some path) = require_git_file_target t (resolve_path_from_directory path (unwrap_or (parent file) []))

-- the git directory by a file that is there, none where none is
abbrev pub git_directory_of_file_bytes : Names → List ℕ → Option (List ℕ) → Result (Option (List ℕ)) PlacesError
git_directory_of_file_bytes t path None = Ok None
git_directory_of_file_bytes t path (Some bytes) = git_directory_of_file_path t path (gitdir_path bytes)

-- a directory, where it is a git directory
abbrev pub path_if_git_directory : Names → List ℕ → Result (Option (List ℕ)) PlacesError
path_if_git_directory t path = and_then (λ is. if is then Ok (Some path) else Ok None) (is_agreed_git_directory t path)

-- the git directory by what stands at `.git`: the directory there, where it is a git directory, or the one that the file names
abbrev pub git_directory_at_dot_git : Names → List ℕ → LookupResult → Result (Option (List ℕ)) PlacesError
git_directory_at_dot_git t path at =
    if is_lookup_of_directory at then path_if_git_directory t path else git_directory_of_file_bytes t path (bytes_of_file_lookup at)

-- a directory without one that is itself a git directory is a bare repository, and refused
abbrev pub git_directory_unless_bare : Names → List ℕ → Result (Option (List ℕ)) PlacesError → Result (Option (List ℕ)) PlacesError
git_directory_unless_bare t directory (Ok None) = and_then (λ is. if is then Err (errors.Bare directory) else Ok None) (is_agreed_git_directory t directory)
git_directory_unless_bare t directory (Ok (Some git)) = Ok (Some git)
git_directory_unless_bare t directory (Err e) = Err e

-- the git directory of the work tree whose top a directory is, if it is one
abbrev pub git_directory_of_work_tree_top : Names → List ℕ → Result (Option (List ℕ)) PlacesError
git_directory_of_work_tree_top t directory = git_directory_unless_bare t directory (git_directory_at_dot_git t (dot_git_path directory) (look t (dot_git_path directory) true))
