-- What an index says of a path, by looking at all of its entries.
use Rattle.std.specs.Prelude.{ℕ, Bool, false, not, ◌==◌, ◌&&◌, ◌||◌, List, [], ◌∷◌, ◌++◌, filter, bit_and, Option, Some, None, if◌then◌else◌}
use Rattle.std.specs.List.{list_all, list_any}
use Rattle.gitbase_core.specs.Entry.{mode_bits, flag_bits, sparse_directory_mode, regular_file_mode, executable_file_mode, symlink_mode, gitlink_mode, assume_valid_flag, uptodate_flag, skip_worktree_flag}
use Rattle.gitbase_core.specs.Index.{entry_path_begins_with, first_entry_at_path}
use Rattle.gitbase_core.specs.Path.{is_empty}
use Rattle.gitbase_core.specs.declared.entry.IndexEntry.{IndexEntry}
use Rattle.gitbase_core.specs.declared.entry.Mode.{Mode}
use Rattle.gitbase_core.specs.declared.kinds.EntryKind.{EntryKind}
use Rattle.gitbase_core.specs.declared.kinds.EntryKind.TheVariants.{Repository, File, Symlink, Directory}
use Rattle.gitbase_core.specs.declared.kinds.IndexKinds.{IndexKinds}

-- the kind of an entry, from its mode; modes of directories and unknown ones have none
abbrev pub entry_kind_of_mode : Mode → Option EntryKind
entry_kind_of_mode mode =
    if mode_bits mode == gitlink_mode then Some Repository
    else if mode_bits mode == regular_file_mode || mode_bits mode == executable_file_mode then Some File
    else if mode_bits mode == symlink_mode then Some Symlink
    else None

-- an entry has a flag
abbrev pub entry_has_flag : ℕ → IndexEntry → Bool
entry_has_flag flag e = bit_and (flag_bits e.flags) flag == flag

-- what an index says that has nothing at a path or beneath it
abbrev pub index_kinds_of_unknown_path : IndexKinds
index_kinds_of_unknown_path = record { up_to_date = None; kind = None; is_left_out = false }

-- what an entry at the path says: its kind counts as up to date where it was seen to be, or is to be taken as it is
abbrev pub index_kinds_of_entry : IndexEntry → IndexKinds
index_kinds_of_entry e = record {
  up_to_date = if entry_has_flag uptodate_flag e || entry_has_flag assume_valid_flag e then entry_kind_of_mode e.mode else None;
  kind = entry_kind_of_mode e.mode;
  is_left_out = false;
}

-- the entries beneath a path; beneath the empty path none is looked for
abbrev pub entries_beneath_path : List ℕ → List IndexEntry → List IndexEntry
entries_beneath_path path entries = if is_empty path then [] else filter (entry_path_begins_with (path ++ 47 ∷ [])) entries

-- the sparse worktree leaves out all of these entries: one that stands for a directory, or several that are all skipped,
-- and none of them was seen in the worktree
abbrev pub are_left_out_of_sparse_worktree : List IndexEntry → Bool
are_left_out_of_sparse_worktree [] = false
are_left_out_of_sparse_worktree (e ∷ []) = mode_bits e.mode == sparse_directory_mode && not (entry_has_flag uptodate_flag e)
are_left_out_of_sparse_worktree (e ∷ f ∷ more) =
    not (list_any (entry_has_flag uptodate_flag) (e ∷ f ∷ more)) && list_all (entry_has_flag skip_worktree_flag) (e ∷ f ∷ more)

-- what the entries beneath a path say: there is a directory, which counts as up to date where one of them was seen
abbrev pub index_kinds_from_entries_beneath : List IndexEntry → IndexKinds
index_kinds_from_entries_beneath [] = index_kinds_of_unknown_path
index_kinds_from_entries_beneath (e ∷ more) = record {
  up_to_date = if list_any (entry_has_flag uptodate_flag) (e ∷ more) then Some Directory else None;
  kind = Some Directory;
  is_left_out = are_left_out_of_sparse_worktree (e ∷ more);
}

-- an entry at the path says it all; without one the entries beneath it do
abbrev pub kinds_from_entry_or_entries_beneath : Option IndexEntry → List IndexEntry → IndexKinds
kinds_from_entry_or_entries_beneath (Some e) beneath = index_kinds_of_entry e
kinds_from_entry_or_entries_beneath None beneath = index_kinds_from_entries_beneath beneath

-- what an index says of a path
abbrev pub kinds : List IndexEntry → List ℕ → IndexKinds
kinds entries path = kinds_from_entry_or_entries_beneath (first_entry_at_path path entries) (entries_beneath_path path entries)
