-- The entries of an index beneath one of its directories.
use Rattle.std.specs.Prelude.{◌≡◌, ℕ, ◌==◌, ◌&&◌, ◌<◌, List, [], ◌∷◌, ◌++◌, length, filter, find, if◌then◌else◌}
use Rattle.std.specs.Str.{bytes_eq}
use Rattle.gitbase_core.specs.Index.{entry_path_begins_with, key_begins_with_prefix, entry_path_after_skipped_bytes}
use Rattle.gitbase_core.specs.Kinds.{kinds_from_entry_or_entries_beneath}
use Rattle.gitbase_core.specs.Path.{is_empty, path_with_trailing_slash}
use Rattle.gitbase_core.specs.declared.entry.IndexEntry.{IndexEntry}
use Rattle.gitbase_core.specs.declared.kinds.IndexKinds.{IndexKinds}

-- some entries, and how many bytes of their paths are those of a directory
pub record DirectoryEntriesView : Type 0 where
  pub entries : List IndexEntry
  pub skip : ℕ

-- they are those of an index beneath a directory, and its bytes are skipped
pub record IsViewOfEntriesBeneath (index : List IndexEntry) (directory : List ℕ) (under : DirectoryEntriesView) : Type 0 where
  pub same : under.entries ≡ filter (entry_path_begins_with (path_with_trailing_slash directory)) index
  pub skips : 0 < length under.entries → under.skip ≡ length (path_with_trailing_slash directory)

-- what these entries say of a name in the directory, by what their paths have behind it
abbrev pub index_kinds_of_name_in_view : DirectoryEntriesView → List ℕ → IndexKinds
index_kinds_of_name_in_view under name =
    kinds_from_entry_or_entries_beneath (find (λ e. bytes_eq (entry_path_after_skipped_bytes under.skip e) name) under.entries)
    (if (under.skip == 0) && is_empty name then []
    else filter (key_begins_with_prefix (entry_path_after_skipped_bytes under.skip) (name ++ 47 ∷ [])) under.entries)
