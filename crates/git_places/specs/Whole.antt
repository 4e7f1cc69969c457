-- What the search takes for a git directory: what git takes for one, and the walk too.
use Rattle.std.specs.Prelude.{ℕ, Bool, true, false, ◌&&◌, codes, List, Option, Some, None, Result, Ok, Err, if◌then◌else◌}
use Rattle.gitbase_core.specs.Steps.{and_then}
use Rattle.worktree_fs.specs.Answers.{kind_of_lookup}
use Rattle.worktree_fs.specs.Changes.{resolve_path_from_directory}
use Rattle.worktree_fs.specs.Repository.{bytes_of_file_lookup, is_lookup_of_directory, is_git_directory_by_commondir, is_git_directory, without_trailing_line_ends}
use Rattle.worktree_fs.specs.Tree.{Names, is_empty, look}
use Rattle.worktree_fs.specs.declared.answers.NodeKind.{NodeKind}
use Rattle.git_places.specs.Head.{head_verdict_of_lookup}
use Rattle.git_places.specs.declared.head.Head.{Head}
use Rattle.git_places.specs.declared.head.Head.TheVariants as heads
use Rattle.git_places.specs.declared.error.PlacesError.{PlacesError}
use Rattle.git_places.specs.declared.error.PlacesError.TheVariants as errors

-- ---- the common directory

-- the path of `commondir`, the file by which a git directory says that its common directory is elsewhere
abbrev pub commondir_path : List ℕ → List ℕ
commondir_path git = resolve_path_from_directory (codes "commondir") git

-- the directory at the path that the file says, taken from the git directory; that nothing, or no directory, is there is refused
abbrev pub require_commondir_target : Names → List ℕ → List ℕ → Result (List ℕ) PlacesError
require_commondir_target t git path = if is_lookup_of_directory (look t path true) then Ok path else Err (errors.CommonDir (commondir_path git))

-- by the bytes of the file `commondir`: that there are none, and that it is no file, is refused
abbrev pub common_directory_of_bytes : Names → List ℕ → Option (List ℕ) → Result (List ℕ) PlacesError
common_directory_of_bytes t git None = Err (errors.CommonDir (commondir_path git))
common_directory_of_bytes t git (Some bytes) =
    if is_empty bytes then Err (errors.CommonDir (commondir_path git)) else require_commondir_target t git (resolve_path_from_directory (without_trailing_line_ends bytes) git)

-- the common directory of a git directory: itself, where nothing is at `commondir`, a last link not followed
abbrev pub common_directory_by_commondir_kind : Names → List ℕ → Option NodeKind → Result (List ℕ) PlacesError
common_directory_by_commondir_kind t git None = Ok git
common_directory_by_commondir_kind t git (Some kind) = common_directory_of_bytes t git (bytes_of_file_lookup (look t (commondir_path git) true))

-- the common directory: the git directory itself without a `commondir`;
-- one that is there, and names no directory, is refused
abbrev pub common_directory_or_error : Names → List ℕ → Result (List ℕ) PlacesError
common_directory_or_error t git = common_directory_by_commondir_kind t git (kind_of_lookup (look t (commondir_path git) false))

-- ---- the git directory

-- the path of `HEAD`, which each work tree has in its own git directory and not in the common one
abbrev pub head_path : List ℕ → List ℕ
head_path git = resolve_path_from_directory (codes "HEAD") git

-- the refusal where git and the walk would not agree on a git directory, or that is not known
abbrev pub odd_head_error : List ℕ → Result Bool PlacesError
odd_head_error git = Err (errors.OddHead (head_path git))

-- the common directory has `objects` and `refs`, both directories, links followed; what is in them is not asked
abbrev pub has_objects_and_refs : Names → List ℕ → Bool
has_objects_and_refs t common =
    is_lookup_of_directory (look t (resolve_path_from_directory (codes "objects") common) true) && is_lookup_of_directory (look t (resolve_path_from_directory (codes "refs") common) true)

-- where git takes the directory, the walk has to take it too, or it is refused
abbrev pub require_walk_accepts : Names → List ℕ → List ℕ → Result Bool PlacesError
require_walk_accepts t git common = if is_git_directory t git common then Ok true else odd_head_error git

-- by what git says of `HEAD`, over the common directory
abbrev pub is_git_directory_by_head_and_common : Names → List ℕ → Head → List ℕ → Result Bool PlacesError
is_git_directory_by_head_and_common t git heads.Good common = if has_objects_and_refs t common then require_walk_accepts t git common else Ok false
is_git_directory_by_head_and_common t git heads.Bad common = Ok false
is_git_directory_by_head_and_common t git heads.Unknown common = if has_objects_and_refs t common then odd_head_error git else Ok false

-- by what git says of `HEAD`: what git passes over the walk has to pass over too, or it is refused
abbrev pub is_git_directory_by_head : Names → List ℕ → Head → Result Bool PlacesError
is_git_directory_by_head t git heads.Bad = if is_git_directory_by_commondir t git then odd_head_error git else Ok false
is_git_directory_by_head t git heads.Good = and_then (is_git_directory_by_head_and_common t git heads.Good) (common_directory_or_error t git)
is_git_directory_by_head t git heads.Unknown = and_then (is_git_directory_by_head_and_common t git heads.Unknown) (common_directory_or_error t git)

-- whether a directory is a git directory: where git and the walk would not agree, or where that is not known, it is refused by its `HEAD`
abbrev pub is_agreed_git_directory : Names → List ℕ → Result Bool PlacesError
is_agreed_git_directory t git = is_git_directory_by_head t git (head_verdict_of_lookup (look t (head_path git) false))
