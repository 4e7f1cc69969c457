-- The file of an index: a head of twelve bytes, the entries, extensions, and the SHA-1 of all before it, or twenty NULs in its place.
-- What a reader answers is said here; what a writer means is in `Written`.
use Rattle.std.specs.Prelude.{ℕ, ◌-◌, Bool, false, not, nat_le, nat_lt, ◌&&◌, ◌||◌, List, length, take, drop, codes, position, Option, Some, None, Result, Ok, Err, if◌then◌else◌}
use Rattle.std.specs.Str.{bytes_eq}
use Rattle.std.specs.List.{list_all}
use Rattle.sha1.specs.Sha1.{sha1}
use Rattle.gitbase_core.specs.Entry.{is_sparse_directory_entry}
use Rattle.gitbase_core.specs.declared.entry.IndexEntry.{IndexEntry}
use Rattle.gitbase_core.specs.Steps.{and_then}
use Rattle.gitbase_core.specs.Text.{is_nul}
use Rattle.git_index.specs.Parts.{nth_big_endian_u32}
use Rattle.git_index.specs.Entries.{EntriesAndRest, EntriesAndDetails, read_entries_after_others, no_entries_and_details}
use Rattle.git_index.specs.Extensions.{read_sparse_mark_of_rest}
use Rattle.git_index.specs.declared.stat.Detail.{Detail}
use Rattle.git_index.specs.declared.error.IndexFileError.{IndexFileError}
use Rattle.git_index.specs.declared.error.IndexFileError.TheVariants.{Short, Signature, Version, Sum, Directory}

-- what the file says: its entries, beside each what else is said of it, and whether it is a sparse index
pub record IndexFileContents : Type 0 where
  pub entries : List IndexEntry
  pub details : List Detail
  pub is_sparse : Bool

-- the sum of a body, or NULs in its place
abbrev pub is_checksum_or_nuls : List ℕ → List ℕ → Bool
is_checksum_or_nuls body sum = list_all is_nul sum || bytes_eq sum (sha1 body)

-- versions 2, 3 and 4 are read, as git reads them; every other is refused
abbrev pub is_supported_version : ℕ → Bool
is_supported_version version = nat_le 2 version && nat_le version 4

-- such an entry stands in a sparse index alone
abbrev pub index_or_directory_error : Bool → IndexFileContents → Option ℕ → Result IndexFileContents IndexFileError
index_or_directory_error sparse index None = Ok index
index_or_directory_error sparse index (Some at) = if sparse then Ok index else Err (Directory at)

-- the contents, once the extensions have said whether the index is sparse
abbrev pub index_of_entries_and_sparseness : EntriesAndDetails → Bool → IndexFileContents
index_of_entries_and_sparseness listed sparse = record { entries = listed.entries; details = listed.details; is_sparse = sparse }

-- the contents; refused at the first entry that stands for a directory, where no extension marks a sparse index
abbrev pub index_unless_stray_sparse_directory : EntriesAndDetails → Bool → Result IndexFileContents IndexFileError
index_unless_stray_sparse_directory listed sparse = index_or_directory_error sparse (index_of_entries_and_sparseness listed sparse) (position is_sparse_directory_entry listed.entries)

-- all that is behind the entries has to be extensions; a fault there is told before that of a directory's entry
abbrev pub index_after_extensions_and_directory_check : EntriesAndRest → Result IndexFileContents IndexFileError
index_after_extensions_and_directory_check read = and_then (index_unless_stray_sparse_directory read.listed) (read_sparse_mark_of_rest 0 false read.rest)

-- `count` entries, and extensions behind them; a fault in an entry is told before one in an extension
abbrev pub read_entries_and_extensions : ℕ → ℕ → List ℕ → Result IndexFileContents IndexFileError
read_entries_and_extensions version count bytes = and_then index_after_extensions_and_directory_check (read_entries_after_others version no_entries_and_details count bytes)

-- a body of twelve bytes at least, and what stands behind it as its sum
abbrev pub verify_and_read_body : List ℕ → List ℕ → Result IndexFileContents IndexFileError
verify_and_read_body body sum =
    if not (bytes_eq (take 4 body) (codes "DIRC")) then Err Signature
    else if not (is_supported_version (nth_big_endian_u32 1 body)) then Err (Version (nth_big_endian_u32 1 body))
    else if not (is_checksum_or_nuls body sum) then Err Sum
    else read_entries_and_extensions (nth_big_endian_u32 1 body) (nth_big_endian_u32 2 body) (drop 12 body)

-- the index that a file says, or what is wrong with it first
unfoldable pub parse_index_file_bytes : List ℕ → Result IndexFileContents IndexFileError
parse_index_file_bytes bytes =
    if nat_lt (length bytes) 32 then Err Short
    else verify_and_read_body (take (length bytes - 20) bytes) (drop (length bytes - 20) bytes)
