-- Links on the way to paths: git-check-ignore(1) says nothing of what lies behind one, and git refuses it.
use Rattle.std.specs.Prelude.{ℕ, List, [], ◌∷◌, ◌++◌, Bool, true, false, Option, Some, None, Result, Ok, Err, if◌then◌else◌}
use Rattle.gitbase_core.specs.Path.{is_empty, is_slash, path_joined_with_slash}
use Rattle.gitbase_core.specs.Steps.{and_then}
use Rattle.worktree_fs.specs.Answers.{kind_of_lookup}
use Rattle.worktree_fs.specs.Tree.{Names, look}
use Rattle.worktree_fs.specs.declared.answers.NodeKind.{NodeKind}
use Rattle.worktree_fs.specs.declared.answers.NodeKind.TheVariants as kinds
use Rattle.check_ignore.specs.Asked.{parse_asked_path, path_with_slash_if_directory}
use Rattle.check_ignore.specs.Finds.{◌>>=◌}
use Rattle.check_ignore.specs.declared.asked.AskedPath.{AskedPath}
use Rattle.check_ignore.specs.declared.stop.Stop.{Stop}
use Rattle.check_ignore.specs.declared.stop.Stop.TheVariants as stops

-- what stands at a path of the work tree; a link is not followed
abbrev pub kind_below_root_unfollowed : Names → List ℕ → List ℕ → Option NodeKind
kind_below_root_unfollowed t root path = kind_of_lookup (look t (path_joined_with_slash root path) false)

-- a symbolic link stands there, whatever it leads to
abbrev pub is_symlink_kind : Option NodeKind → Bool
is_symlink_kind None = false
is_symlink_kind (Some kinds.File) = false
is_symlink_kind (Some kinds.Symlink) = true
is_symlink_kind (Some kinds.Directory) = false
is_symlink_kind (Some kinds.Untrackable) = false

-- a directory stands there; a link to one does not count
abbrev pub is_directory_kind : Option NodeKind → Bool
is_directory_kind None = false
is_directory_kind (Some kinds.File) = false
is_directory_kind (Some kinds.Symlink) = false
is_directory_kind (Some kinds.Directory) = true
is_directory_kind (Some kinds.Untrackable) = false

-- a link stands at a path from the top itself; here it is always answered
abbrev pub is_symlink_below_root : Names → List ℕ → List ℕ → Result Bool Stop
is_symlink_below_root t root path = Ok (is_symlink_kind (kind_below_root_unfollowed t root path))

-- the directories above a path, the highest first; some bytes of it stand before the others
abbrev pub directories_above_rest_of_path : List ℕ → List ℕ → List (List ℕ)
directories_above_rest_of_path passed [] = []
directories_above_rest_of_path passed (b ∷ rest) =
    if is_slash b then passed ∷ directories_above_rest_of_path (passed ++ b ∷ []) rest else directories_above_rest_of_path (passed ++ b ∷ []) rest

-- all that lead to a path, for `a/b/c` both `a` and `a/b`; a slash at its end makes it one of them
abbrev pub directories_above_path : List ℕ → List (List ℕ)
directories_above_path path = directories_above_rest_of_path [] path

-- a link stands at one of some directories; what lies behind it is not looked at
abbrev pub is_any_directory_symlink : Names → List ℕ → List (List ℕ) → Result Bool Stop
is_any_directory_symlink t root [] = Ok false
is_any_directory_symlink t root (d ∷ ds) = and_then (λ now. if now then Ok true else is_any_directory_symlink t root ds) (is_symlink_below_root t root d)

-- a link stands above a path
abbrev pub is_behind_symlink : Names → List ℕ → List ℕ → Result Bool Stop
is_behind_symlink t root path = is_any_directory_symlink t root (directories_above_path path)

-- a path, or git's refusal of one that is beyond a symbolic link
abbrev pub asked_path_or_beyond_error : AskedPath → Bool → Result AskedPath Stop
asked_path_or_beyond_error a there = if there then Err (stops.Beyond a.text) else Ok a

-- a path with no link on the way; one that asks for a directory must be no link itself
abbrev pub refuse_path_behind_link : Names → List ℕ → AskedPath → Result AskedPath Stop
refuse_path_behind_link t root a = and_then (asked_path_or_beyond_error a) (is_behind_symlink t root (path_with_slash_if_directory a.path a.names_directory))

-- a path that is asked about in the directory `prefix`, unless a link stands above it
abbrev pub parse_asked_path_not_behind_link : Names → List ℕ → List ℕ → List ℕ → Result AskedPath Stop
parse_asked_path_not_behind_link t root prefix text = and_then (refuse_path_behind_link t root) (parse_asked_path root prefix text)

-- some such paths behind others, or the first that is refused
abbrev pub append_parsed_asked_paths : Names → List ℕ → List ℕ → List AskedPath → List (List ℕ) → Result (List AskedPath) Stop
append_parsed_asked_paths t root prefix done [] = Ok done
append_parsed_asked_paths t root prefix done (text ∷ texts) = and_then (λ a. append_parsed_asked_paths t root prefix (done ++ a ∷ []) texts) (parse_asked_path_not_behind_link t root prefix text)

-- none of some paths is empty
abbrev pub require_no_empty_paths : List (List ℕ) → Result Bool Stop
require_no_empty_paths [] = Ok true
require_no_empty_paths (text ∷ texts) = if is_empty text then Err stops.Empty else require_no_empty_paths texts

-- all paths that are asked about; an empty one is refused before any other is looked at
unfoldable pub parse_nonempty_asked_paths : Names → List ℕ → List ℕ → List (List ℕ) → Result (List AskedPath) Stop
parse_nonempty_asked_paths t root prefix texts = do
  whole ← require_no_empty_paths texts
  append_parsed_asked_paths t root prefix [] texts
