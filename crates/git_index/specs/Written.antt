-- What an index file is: what its entries and extensions are written as.
--
-- A relation between the bytes and what is written in them, told from the writer's side, and not by how it is read.
use Rattle.std.specs.Prelude.{◌≡◌, ◌⊎◌, ◌≤◌, ◌<◌, ℕ, ◌+◌, ◌-◌, ◌*◌, ◌^◌, min, Bool, true, false, not, ◌==◌, List, [], ◌∷◌, ◌++◌, map, length, take, drop, codes, replicate, Some, if◌then◌else◌}
use Rattle.std.specs.List.{list_any}
use Rattle.byteorder.specs.Endian.{big_bytes}
use Rattle.sha1.specs.Sha1.{sha1}
use Rattle.gitbase_core.specs.Entry.{sparse_directory_mode}
use Rattle.gitbase_core.specs.declared.entry.IndexEntry.{IndexEntry}
use Rattle.gitbase_core.specs.Text.{is_nul}
use Rattle.git_index.specs.Varint.{varint_bytes_of_number}
use Rattle.git_index.specs.Head.{flags_of_assumed_and_skipped, known_mode_of_bits, mode_with_bits}
use Rattle.git_index.specs.Name.{padding_length_after_nul}
use Rattle.git_index.specs.Extensions.{is_optional_extension_name}
use Rattle.git_index.specs.IndexFile.{IndexFileContents, is_supported_version}
use Rattle.git_index.specs.declared.stat.Stat.{Stat}
use Rattle.git_index.specs.declared.stat.Detail.{Detail}

-- ---- an entry

-- an entry as it is written: what it says, whether its second pair of flags is there, and, in version 4, how many bytes the path
-- before loses
pub record WrittenEntry : Type 0 where
  pub stat : Stat
  pub mode : ℕ
  pub id : List ℕ
  pub assumed : Bool
  pub stage : ℕ
  pub extended : Bool
  pub skipped : Bool
  pub intent_to_add : Bool
  pub path : List ℕ
  pub cut : ℕ

-- what it says
abbrev pub index_entry_of_written : WrittenEntry → IndexEntry
index_entry_of_written w = record { path = w.path; stage = w.stage; mode = mode_with_bits w.mode; flags = flags_of_assumed_and_skipped w.assumed w.skipped; id = w.id }

-- what it says that no index keeps: what git saw of the file, and whether the path is one of `git add --intent-to-add`
abbrev pub detail_of_written : WrittenEntry → Detail
detail_of_written w = record { stat = w.stat; intent_to_add = w.intent_to_add }

-- the ten numbers at its head
abbrev pub head_words_of_written : WrittenEntry → List ℕ
head_words_of_written w =
    w.stat.ctime.seconds ∷ w.stat.ctime.nanoseconds ∷ w.stat.mtime.seconds ∷ w.stat.mtime.nanoseconds ∷ w.stat.dev ∷ w.stat.ino ∷ w.mode
    ∷ w.stat.uid ∷ w.stat.gid ∷ w.stat.size ∷ []

-- four bytes for each number, the highest byte first, and nothing between the numbers
unfoldable pub big_endian_bytes_of_words : List ℕ → List ℕ
big_endian_bytes_of_words [] = []
big_endian_bytes_of_words (n ∷ ns) = big_bytes 4 n ++ big_endian_bytes_of_words ns

-- what a flag adds to the number that holds it: its bit where it is set, else nothing
abbrev pub worth_if_flag_set : Bool → ℕ → ℕ
worth_if_flag_set b worth = if b then worth else 0

-- from the highest bit: assumed unchanged, extended, two bits of the stage, and the path's length, 4095 at most
abbrev pub first_flags_number : WrittenEntry → ℕ
first_flags_number w = worth_if_flag_set w.assumed 32768 + worth_if_flag_set w.extended 16384 + w.stage * 4096 + min (length w.path) 4095

-- the second pair of flags: left out of a sparse worktree, and to be added; every other bit is 0
abbrev pub extended_flags_number : WrittenEntry → ℕ
extended_flags_number w = worth_if_flag_set w.skipped 16384 + worth_if_flag_set w.intent_to_add 8192

-- the first 62 bytes where the id has twenty: ten numbers, the id, and the first pair of flags
abbrev pub entry_head_bytes : WrittenEntry → List ℕ
entry_head_bytes w = big_endian_bytes_of_words (head_words_of_written w) ++ (w.id ++ big_bytes 2 (first_flags_number w))

-- two bytes where the entry has a second pair of flags, none where it has not
abbrev pub extended_flags_size : WrittenEntry → ℕ
extended_flags_size w = if w.extended then 2 else 0

-- the second pair of flags as it is written, and nothing where the entry has none
abbrev pub extended_flags_bytes : WrittenEntry → List ℕ
extended_flags_bytes w = if w.extended then big_bytes 2 (extended_flags_number w) else []

-- in version 4 the number of bytes that the path before loses, what is behind those that are kept, and a NUL; else the path, and one to
-- eight NULs up to a multiple of eight bytes
abbrev pub entry_path_bytes : ℕ → List ℕ → WrittenEntry → List ℕ
entry_path_bytes version previous w =
    if version == 4 then varint_bytes_of_number w.cut ++ (drop (length previous - w.cut) w.path ++ 0 ∷ [])
    else w.path ++ 0 ∷ replicate (padding_length_after_nul (62 + extended_flags_size w + length w.path)) 0

-- an entry as it is written behind the path `previous`, on which its bytes depend in version 4 alone
abbrev pub entry_bytes : ℕ → List ℕ → WrittenEntry → List ℕ
entry_bytes version previous w = entry_head_bytes w ++ (extended_flags_bytes w ++ entry_path_bytes version previous w)

-- entries one behind another: each follows the path of the one before, the first the path `previous`
abbrev pub entries_bytes : ℕ → List ℕ → List WrittenEntry → List ℕ
entries_bytes version previous [] = []
entries_bytes version previous (w ∷ ws) = entry_bytes version previous w ++ entries_bytes version w.path ws

-- each number fits four bytes
abbrev pub AreFourByteNumbers : List ℕ → Type 0
AreFourByteNumbers [] = Unit {0}
AreFourByteNumbers (n ∷ ns) = (n < 256 ^ 4) × AreFourByteNumbers ns

-- the path is that before without its last bytes, and more
pub record SharesPreviousPrefix (previous : List ℕ) (w : WrittenEntry) : Type 0 where
  pub small : w.cut < 2 ^ 32
  pub within : w.cut ≤ length previous
  pub same : take (length previous - w.cut) previous ++ drop (length previous - w.cut) w.path ≡ w.path

-- an entry may be written behind a path
pub record IsWritableEntryAfterPath (version : ℕ) (previous : List ℕ) (w : WrittenEntry) : Type 0 where
  pub words : AreFourByteNumbers (head_words_of_written w)
  pub mode : known_mode_of_bits w.mode ≡ Some (mode_with_bits w.mode)
  pub id : length w.id ≡ 20
  pub stage : w.stage < 4
  pub extended : w.extended ≡ true → (version == 2) ≡ false
  pub plain : w.extended ≡ false → (w.skipped ≡ false) × (w.intent_to_add ≡ false)
  pub path : list_any is_nul w.path ≡ false
  pub cut : (version == 4) ≡ true → SharesPreviousPrefix previous w

-- each entry may be written behind the path of the one before, the first behind the path `previous`
abbrev pub AreWritableEntriesAfterPath : ℕ → List ℕ → List WrittenEntry → Type 0
AreWritableEntriesAfterPath version previous [] = Unit {0}
AreWritableEntriesAfterPath version previous (w ∷ ws) = IsWritableEntryAfterPath version previous w × AreWritableEntriesAfterPath version w.path ws

-- ---- extensions

-- an extension: its name of four bytes, and what it holds
pub record WrittenExtension : Type 0 where
  pub name : List ℕ
  pub content : List ℕ

-- the name, how many bytes the extension holds as a number of four bytes, and these bytes
abbrev pub extension_bytes : WrittenExtension → List ℕ
extension_bytes e = e.name ++ (big_bytes 4 (length e.content) ++ e.content)

-- extensions one behind another, with no count before them and nothing between
abbrev pub extensions_bytes : List WrittenExtension → List ℕ
extensions_bytes [] = []
extensions_bytes (e ∷ es) = extension_bytes e ++ extensions_bytes es

-- one that may be passed over, or the mark of a sparse index
pub record IsWritableExtension (e : WrittenExtension) : Type 0 where
  pub name : length e.name ≡ 4
  pub size : length e.content < 256 ^ 4
  pub known : (is_optional_extension_name e.name ≡ true) ⊎ (e.name ≡ codes "sdir")

-- each may be passed over or is the mark of a sparse index, and its size fits four bytes
abbrev pub AreWritableExtensions : List WrittenExtension → Type 0
AreWritableExtensions [] = Unit {0}
AreWritableExtensions (e ∷ es) = IsWritableExtension e × AreWritableExtensions es

-- it may not be passed over: of the extensions that are writable here that is `sdir` alone
abbrev pub is_sparse_mark_extension : WrittenExtension → Bool
is_sparse_mark_extension e = not (is_optional_extension_name e.name)

-- ---- the file

-- it stands for all that is beneath a directory, which its mode `040000` says
abbrev pub is_written_sparse_directory : WrittenEntry → Bool
is_written_sparse_directory w = w.mode == sparse_directory_mode

-- all before the sum: `DIRC`, the version, how many entries there are, the entries and the extensions
abbrev pub index_body_bytes : ℕ → List WrittenEntry → List WrittenExtension → List ℕ
index_body_bytes version ws es = codes "DIRC" ++ (big_bytes 4 version ++ (big_bytes 4 (length ws) ++ (entries_bytes version [] ws ++ extensions_bytes es)))

-- Some bytes are the index file, in this version, of these entries and extensions: the entries follow one another, one that stands for a
-- directory is there only where an extension says so, and behind all is the SHA-1 of what is before it, or twenty NULs.
pub record IsIndexFileOfWritten (bytes : List ℕ) (version : ℕ) (ws : List WrittenEntry) (es : List WrittenExtension) : Type 0 where
  pub is_version : is_supported_version version ≡ true
  pub few : length ws < 256 ^ 4
  pub entries : AreWritableEntriesAfterPath version [] ws
  pub extensions : AreWritableExtensions es
  pub marked : list_any is_sparse_mark_extension es ≡ false → list_any is_written_sparse_directory ws ≡ false
  pub sum : List ℕ
  pub sum_length : length sum ≡ 20
  pub sums : (sum ≡ sha1 (index_body_bytes version ws es)) ⊎ (sum ≡ replicate 20 0)
  pub whole : bytes ≡ index_body_bytes version ws es ++ sum

-- what the file says then
abbrev pub index_of_written : List WrittenEntry → List WrittenExtension → IndexFileContents
index_of_written ws es = record { entries = map index_entry_of_written ws; details = map detail_of_written ws; is_sparse = list_any is_sparse_mark_extension es }

-- some bytes are the file of these entries
pub record IsIndexFileOfContents (bytes : List ℕ) (index : IndexFileContents) : Type 0 where
  pub version : ℕ
  pub ws : List WrittenEntry
  pub es : List WrittenExtension
  pub text : IsIndexFileOfWritten bytes version ws es
  pub says : index ≡ index_of_written ws es
