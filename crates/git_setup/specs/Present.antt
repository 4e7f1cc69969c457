-- The entries of an index by what is in the work tree: git-sparse-checkout(1), "Internals -- sparse-checkout".
use Rattle.std.specs.Prelude.{ℕ, List, [], ◌∷◌, ◌++◌, Bool, false, not, ◌&&◌, ◌||◌, Option, Some, None, Result, Ok, Err, is_some, if◌then◌else◌}
use Rattle.gitbase_core.specs.Entry.{assume_valid_flag, skip_worktree_flag, is_sparse_directory_entry}
use Rattle.gitbase_core.specs.Index.{checked_index_entries}
use Rattle.gitbase_core.specs.Kinds.{entry_has_flag}
use Rattle.std.specs.Str.{bytes_eq}
use Rattle.gitbase_core.specs.Path.{is_empty_or_root_path, path_joined_with_slash, is_beneath_directory, parent, without_trailing_slash}
use Rattle.gitbase_core.specs.declared.entry.IndexEntry.{IndexEntry}
use Rattle.git_index.specs.Head.{flags_of_assumed_and_skipped}
use Rattle.worktree_fs.specs.Answers.{kind_of_lookup}
use Rattle.worktree_fs.specs.Tree.{Names, look}
use Rattle.git_setup.specs.Refusals.{entries_result_as_git_result}
use Rattle.gitbase_core.specs.Steps.{and_then}
use Rattle.git_setup.specs.declared.error.GitRefusal.{GitRefusal}
use Rattle.git_setup.specs.declared.present.Looked.{Looked}
use Rattle.git_setup.specs.declared.present.Seen.{Seen}
use Rattle.git_setup.specs.declared.error.GitRefusal.TheVariants as errors

-- whether a node is at a path of the work tree; links on the way are followed, one at the path itself is a node
abbrev pub exists_in_work_tree : Names → List ℕ → List ℕ → Bool
exists_in_work_tree t root path = is_some (kind_of_lookup (look t (path_joined_with_slash root path) false))

-- the entry is left out of a sparse work tree: git expects no file in its place
abbrev pub has_skip_worktree_flag : IndexEntry → Bool
has_skip_worktree_flag e = entry_has_flag skip_worktree_flag e

-- the entry as one that is not left out; of its flags, none stays but that it is assumed unchanged
abbrev pub entry_without_skip_flag : IndexEntry → IndexEntry
entry_without_skip_flag e = record e { flags = flags_of_assumed_and_skipped (entry_has_flag assume_valid_flag e) false }

-- an entry that stands for a directory: what the directory holds is known only where nothing is in its place
abbrev pub refuse_sparse_entry_if_present : IndexEntry → Bool → Result IndexEntry GitRefusal
refuse_sparse_entry_if_present e present = if present then Err (errors.SparseDirectory e.path) else Ok e

-- another entry is not skipped where something is in its place, if the work tree is one that git looks through for such
abbrev pub file_entry_unskipped_if_present : Names → List ℕ → Bool → IndexEntry → IndexEntry
file_entry_unskipped_if_present t root looks e = if looks && has_skip_worktree_flag e && exists_in_work_tree t root e.path then entry_without_skip_flag e else e

-- an entry by what is in its place: a sparse directory is refused where something is, another may lose its skip flag
abbrev pub seen : Names → List ℕ → Bool → IndexEntry → Result IndexEntry GitRefusal
seen t root looks e =
    if is_sparse_directory_entry e then refuse_sparse_entry_if_present e (exists_in_work_tree t root (without_trailing_slash e.path)) else Ok (file_entry_unskipped_if_present t root looks e)

-- some entries behind others, each as it is seen in the work tree, or the first that is refused
abbrev pub append_entries_unskipped_if_present : Names → List ℕ → Bool → List IndexEntry → List IndexEntry → Result (List IndexEntry) GitRefusal
append_entries_unskipped_if_present t root looks done [] = Ok done
append_entries_unskipped_if_present t root looks done (e ∷ entries) = and_then (λ now. append_entries_unskipped_if_present t root looks (done ++ now ∷ []) entries) (seen t root looks e)

-- ---- the same with one look a directory: what is beneath a directory that is not there is not there either

-- a path lies beneath a directory that is known not to be there
abbrev pub lies_beneath_known_absent_directory : Option Looked → List ℕ → Bool
lies_beneath_known_absent_directory None path = false
lies_beneath_known_absent_directory (Some looked) path = not looked.present && is_beneath_directory looked.directory path

-- a directory is known to be there
abbrev pub is_last_look_at_present_directory : Option Looked → List ℕ → Bool
is_last_look_at_present_directory None directory = false
is_last_look_at_present_directory (Some looked) directory = looked.present && bytes_eq looked.directory directory

-- a look at a directory's path, to be kept for the entries that follow
abbrev pub presence_of_directory : Names → List ℕ → List ℕ → Looked
presence_of_directory t root directory = record { directory = directory; present = exists_in_work_tree t root directory }

-- what is known of the directory above, if there is one below the root
abbrev pub known_or_found_presence_of_directory : Names → List ℕ → Option Looked → Option (List ℕ) → Option Looked
known_or_found_presence_of_directory t root last None = last
known_or_found_presence_of_directory t root last (Some directory) = if is_empty_or_root_path directory || is_last_look_at_present_directory last directory then last else Some (presence_of_directory t root directory)

-- what is known once a path is asked about: no new look beneath a directory known to be absent
abbrev pub known_or_found_presence_of_parent : Names → List ℕ → Option Looked → List ℕ → Option Looked
known_or_found_presence_of_parent t root last path = if lies_beneath_known_absent_directory last path then last else known_or_found_presence_of_directory t root last (parent path)

-- something is at a path; beneath a directory known to be absent nothing is, without a look
abbrev pub exists_unless_directory_absent : Names → List ℕ → Option Looked → List ℕ → Bool
exists_unless_directory_absent t root last path = if lies_beneath_known_absent_directory last path then false else exists_in_work_tree t root path

-- what is in the work tree is not skipped, though the index says so
abbrev pub entry_unskipped_if_present : IndexEntry → Bool → IndexEntry
entry_unskipped_if_present e present = if present then entry_without_skip_flag e else e

-- a skipped entry, for which the directory above it is asked for first; and what is known for the next entry
unfoldable pub skipped_entry_unskipped_if_present : Names → List ℕ → Option Looked → IndexEntry → Seen
skipped_entry_unskipped_if_present t root last e =
    let now = known_or_found_presence_of_parent t root last e.path in
    record { entry = entry_unskipped_if_present e (exists_unless_directory_absent t root now e.path); last = now }

-- a sparse directory stays as it is where nothing is in its place, and else is refused; what is known stays too
unfoldable pub require_sparse_directory_absent : Names → List ℕ → Option Looked → IndexEntry → Result Seen GitRefusal
require_sparse_directory_absent t root last e = and_then (λ now. Ok (record { entry = now; last = last })) (refuse_sparse_entry_if_present e (exists_in_work_tree t root (without_trailing_slash e.path)))

-- one entry: only a sparse directory, or one that is skipped where git looks for such, is looked for
unfoldable pub entry_unskipped_or_refused_if_present : Names → List ℕ → Bool → Option Looked → IndexEntry → Result Seen GitRefusal
entry_unskipped_or_refused_if_present t root looks last e =
    if is_sparse_directory_entry e then require_sparse_directory_absent t root last e
    else if looks && has_skip_worktree_flag e then Ok (skipped_entry_unskipped_if_present t root last e)
    else Ok (record { entry = e; last = last })

-- some entries behind those done, each by what the looks before it told, or the first that is refused
abbrev pub entries_unskipped_with_cached_looks : Names → List ℕ → Bool → Option Looked → List IndexEntry → List IndexEntry → Result (List IndexEntry) GitRefusal
entries_unskipped_with_cached_looks t root looks last done [] = Ok done
entries_unskipped_with_cached_looks t root looks last done (e ∷ entries) =
    and_then (λ (seen : Seen). entries_unskipped_with_cached_looks t root looks seen.last (done ++ seen.entry ∷ []) entries) (entry_unskipped_or_refused_if_present t root looks last e)

-- the index of some entries of the file at a path
abbrev pub index_with_present_entries_unskipped : Names → List ℕ → List ℕ → Bool → List IndexEntry → Result (List IndexEntry) GitRefusal
index_with_present_entries_unskipped t root path looks entries = and_then (λ now. entries_result_as_git_result path (checked_index_entries now)) (append_entries_unskipped_if_present t root looks [] entries)
