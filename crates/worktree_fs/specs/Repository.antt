-- What a repository is, and what its files say.
use Rattle.std.specs.Prelude.{ℕ, zero, suc, Bool, true, false, not, ◌&&◌, ◌||◌, ◌==◌, ◌-◌, List, [], codes, length, take, drop, slice_index, Option, Some, None, if◌then◌else◌, unwrap_or, option_and_then}
use Rattle.std.specs.List.{list_any, list_all}
use Rattle.std.specs.Char.{is_ascii_hexdigit}
use Rattle.std.specs.Str.{bytes_eq}
use Rattle.gitbase_core.specs.Path.{parent}
use Rattle.worktree_fs.specs.Tree.{Names, LookupResult, found, absent, too_many_links, file, link, directory, other, look, is_empty}
use Rattle.worktree_fs.specs.Changes.{resolve_path_from_directory}

-- what stands behind a word at the front of a text; none where the text does not begin with the word
abbrev pub text_after_prefix : List ℕ → List ℕ → Option (List ℕ)
text_after_prefix front text = if bytes_eq (take (length front) text) front then Some (drop (length front) text) else None

-- a line feed or a carriage return
abbrev pub is_line_feed_or_carriage_return : ℕ → Bool
is_line_feed_or_carriage_return b = b == 10 || b == 13

-- how many of the first so many bytes of a text are left without the line feeds and carriage returns at their end
abbrev pub length_without_trailing_line_ends : List ℕ → ℕ → ℕ
length_without_trailing_line_ends text zero = zero
length_without_trailing_line_ends text (suc n) = if is_line_feed_or_carriage_return (slice_index text n) then length_without_trailing_line_ends text n else suc n

-- a text without the line feeds and carriage returns at its end
abbrev pub without_trailing_line_ends : List ℕ → List ℕ
without_trailing_line_ends text = take (length_without_trailing_line_ends text (length text)) text

-- a text without one line feed at its end, if there is one
abbrev pub without_final_line_feed : List ℕ → List ℕ
without_final_line_feed text = if slice_index text (length text - 1) == 10 then take (length text - 1) text else text

-- a path, where it is not empty
abbrev pub path_unless_empty : List ℕ → Option (List ℕ)
path_unless_empty path = if is_empty path then None else Some path

-- the path that the file of a linked git directory names: it stands behind `gitdir: `, without the line ends behind it, and is
-- not empty
abbrev pub gitdir_path : List ℕ → Option (List ℕ)
gitdir_path bytes = option_and_then (λ rest. path_unless_empty (without_trailing_line_ends rest)) (text_after_prefix (codes "gitdir: ") bytes)

-- whether bytes may be the name of a ref in a `HEAD`: there are some, and none of them is a line feed
abbrev pub is_nonempty_single_line : List ℕ → Bool
is_nonempty_single_line name = not (is_empty name) && not (list_any (λ b. b == 10) name)

-- whether a text is the id of an object: 40 or 64 hex digits
abbrev pub is_hex_object_id : List ℕ → Bool
is_hex_object_id text = (length text == 40 || length text == 64) && list_all is_ascii_hexdigit text

-- whether a `HEAD` is well formed, by what stands behind `ref: ` where it begins so: the name of a ref there, and else an id
abbrev pub is_head_ref_or_object_id : Option (List ℕ) → List ℕ → Bool
is_head_ref_or_object_id (Some name) text = is_nonempty_single_line name
is_head_ref_or_object_id None text = is_hex_object_id text

-- whether the bytes of a file are those of a `HEAD`: one line feed may stand at their end
abbrev pub is_head_file_text : List ℕ → Bool
is_head_file_text bytes = is_head_ref_or_object_id (text_after_prefix (codes "ref: ") (without_final_line_feed bytes)) (without_final_line_feed bytes)

-- whether a path led to a directory
abbrev pub is_lookup_of_directory : LookupResult → Bool
is_lookup_of_directory (found (directory names)) = true
is_lookup_of_directory (found (file bytes)) = false
is_lookup_of_directory (found (link target)) = false
is_lookup_of_directory (found other) = false
is_lookup_of_directory absent = false
is_lookup_of_directory too_many_links = false

-- the bytes of the file that a path led to; none where it led to none
abbrev pub bytes_of_file_lookup : LookupResult → Option (List ℕ)
bytes_of_file_lookup (found (file bytes)) = Some bytes
bytes_of_file_lookup (found (directory names)) = None
bytes_of_file_lookup (found (link target)) = None
bytes_of_file_lookup (found other) = None
bytes_of_file_lookup absent = None
bytes_of_file_lookup too_many_links = None

-- whether there is a file, and it is a `HEAD`
abbrev pub is_present_head_file_text : Option (List ℕ) → Bool
is_present_head_file_text None = false
is_present_head_file_text (Some bytes) = is_head_file_text bytes

-- whether a path is that of a git directory, and another that of what is common to all its worktrees, links followed: a file
-- `HEAD` in the first, and directories `objects` and `refs` in the second
abbrev pub is_git_directory : Names → List ℕ → List ℕ → Bool
is_git_directory t git common =
    is_present_head_file_text (bytes_of_file_lookup (look t (resolve_path_from_directory (codes "HEAD") git) true))
    && is_lookup_of_directory (look t (resolve_path_from_directory (codes "objects") common) true)
    && is_lookup_of_directory (look t (resolve_path_from_directory (codes "refs") common) true)

-- the common directory of a git directory, by the bytes of its file `commondir`: the path that they are without the line ends behind it,
-- taken from the git directory; the git directory itself where there is no such file
abbrev pub common_directory_by_commondir : List ℕ → Option (List ℕ) → List ℕ
common_directory_by_commondir git None = git
common_directory_by_commondir git (Some bytes) = resolve_path_from_directory (without_trailing_line_ends bytes) git

-- the common directory of a git directory that a file names
abbrev pub common_git_directory : Names → List ℕ → List ℕ
common_git_directory t git = common_directory_by_commondir git (bytes_of_file_lookup (look t (resolve_path_from_directory (codes "commondir") git) true))

-- whether the path that a file names is that of a git directory, by its own common directory
abbrev pub is_git_directory_by_commondir : Names → List ℕ → Bool
is_git_directory_by_commondir t git = is_git_directory t git (common_git_directory t git)

-- whether a file leads to a repository, by the path that it names, which is taken from what stands before the last slash of its own
-- path, as that is spelled
abbrev pub is_file_naming_git_directory : Names → List ℕ → Option (List ℕ) → Bool
is_file_naming_git_directory t q None = false
is_file_naming_git_directory t q (Some path) = is_git_directory_by_commondir t (resolve_path_from_directory path (unwrap_or (parent q) []))

-- whether a path leads to a repository, by what it leads to: a directory that is a git directory by itself, or a file that names
-- one
abbrev pub is_repository_by_lookup : Names → List ℕ → LookupResult → Bool
is_repository_by_lookup t q at = if is_lookup_of_directory at then is_git_directory t q q else is_file_naming_git_directory t q (option_and_then gitdir_path (bytes_of_file_lookup at))

-- whether a path leads to a repository, links followed
abbrev pub is_git : Names → List ℕ → Bool
is_git t q = is_repository_by_lookup t q (look t q true)

-- whether a path without links is there, and is this one
abbrev pub is_same_path_if_present : Option (List ℕ) → List ℕ → Bool
is_same_path_if_present None own = false
is_same_path_if_present (Some path) own = bytes_eq path own
