-- The entries of an index file, one behind another: each is a head of 62 bytes, maybe a second pair of flags, and a path.
use Rattle.std.specs.Prelude.{ℕ, zero, suc, ◌+◌, ◌-◌, List, [], ◌∷◌, ◌++◌, length, slice_get, Option, Some, None, Result, Ok, ok_or}
use Rattle.gitbase_core.specs.declared.entry.IndexEntry.{IndexEntry}
use Rattle.gitbase_core.specs.Steps.{◌>>=◌, and_then}
use Rattle.git_index.specs.Parts.{split_first_bytes}
use Rattle.git_index.specs.Head.{FixedEntryFields, parse_fixed_entry_fields, flags_of_assumed_and_skipped, is_assume_valid_set, is_extended_flag_set, stage_from_flags}
use Rattle.git_index.specs.More.{ExtendedFlagsAndRest, read_extended_flags_if_present}
use Rattle.git_index.specs.Name.{PathAndRest, path_if_length_matches_flags, read_entry_path}
use Rattle.git_index.specs.declared.stat.Detail.{Detail}
use Rattle.git_index.specs.declared.error.IndexFileError.{IndexFileError}
use Rattle.git_index.specs.declared.error.IndexFileError.TheVariants.{Entry as BadEntry}

-- ---- one

-- an entry, what the file says of it besides, and what is behind it
pub record EntryAndRest : Type 0 where
  pub entry : IndexEntry
  pub detail : Detail
  pub rest : List ℕ

-- the parts put together: what an index keeps goes to the entry, what only the file says to the detail
abbrev pub entry_of_parts_read : FixedEntryFields → ExtendedFlagsAndRest → PathAndRest → EntryAndRest
entry_of_parts_read fixed more named = record {
  entry = record { path = named.path; stage = stage_from_flags fixed.flags; mode = fixed.mode; flags = flags_of_assumed_and_skipped (is_assume_valid_set fixed.flags) more.is_skipped; id = fixed.id };
  detail = record { stat = fixed.stat; intent_to_add = more.intent_to_add };
  rest = named.rest;
}

-- the path in front; none where it is outside the grammar, or its length is not the one that the flags tell
abbrev pub read_path_of_flagged_length : ℕ → List ℕ → ℕ → ExtendedFlagsAndRest → Option PathAndRest
read_path_of_flagged_length version previous flags more = do
  named ← read_entry_path version previous (62 + more.size) more.rest
  path_if_length_matches_flags flags named

-- the entry whose 62 bytes are read; none where its second flags or its path are outside the grammar
abbrev pub read_entry_after_fixed_fields : ℕ → List ℕ → FixedEntryFields → List ℕ → Option EntryAndRest
read_entry_after_fixed_fields version previous fixed bytes = do
  more ← read_extended_flags_if_present version (is_extended_flag_set fixed.flags) bytes
  named ← read_path_of_flagged_length version previous fixed.flags more
  Some (entry_of_parts_read fixed more named)

-- the entry at the front of some bytes, behind an entry with this path; none where they begin with none
abbrev pub read_entry : ℕ → List ℕ → List ℕ → Option EntryAndRest
read_entry version previous bytes = do
  head ← split_first_bytes 62 bytes
  fixed ← parse_fixed_entry_fields head.part
  read_entry_after_fixed_fields version previous fixed head.rest

-- ---- all

-- entries, and beside each what the file says of it besides
pub record EntriesAndDetails : Type 0 where
  pub entries : List IndexEntry
  pub details : List Detail

-- what is listed before the first entry is read
abbrev pub no_entries_and_details : EntriesAndDetails
no_entries_and_details = record { entries = []; details = [] }

-- an entry and its detail, each put at the end of its list: the two lists keep the same length
abbrev pub entries_and_details_with_one_more : EntriesAndDetails → IndexEntry → Detail → EntriesAndDetails
entries_and_details_with_one_more listed entry detail = record { entries = listed.entries ++ entry ∷ []; details = listed.details ++ detail ∷ [] }

-- some entries, and what is behind them
pub record EntriesAndRest : Type 0 where
  pub listed : EntriesAndDetails
  pub rest : List ℕ

-- the entry's path; the empty one, from which the first path of version 4 is built, where there is no entry
abbrev pub path_of_optional_entry : Option IndexEntry → List ℕ
path_of_optional_entry None = []
path_of_optional_entry (Some e) = e.path

-- the path of the last entry; the empty one where there is none
abbrev pub path_of_last_entry : List IndexEntry → List ℕ
path_of_last_entry entries = path_of_optional_entry (slice_get entries (length entries - 1))

-- so many entries behind those that are read; the fault has the place of the first that is outside the grammar
abbrev pub read_entries_after_others : ℕ → EntriesAndDetails → ℕ → List ℕ → Result EntriesAndRest IndexFileError
read_entries_after_others version listed zero bytes = Ok (record { listed = listed; rest = bytes })
read_entries_after_others version listed (suc n) bytes =
    and_then (λ (read : EntryAndRest). read_entries_after_others version (entries_and_details_with_one_more listed read.entry read.detail) n read.rest)
    (ok_or (read_entry version (path_of_last_entry listed.entries) bytes) (BadEntry (length listed.entries)))
