-- Entries that are read, one after another.
use Rattle.std.proofs.Common.{◌≡◌, ap, ◌∙◌, arith, ℕ, suc, ◌-◌, ◌<◌, List, length, Option, Some, None, Err, ok_or}
use Rattle.gitbase_core.specs.Steps.{and_then}
use Rattle.git_index.specs.Entries.{EntriesAndDetails, EntryAndRest, read_entry, read_entries_after_others, path_of_last_entry, entries_and_details_with_one_more}
use Rattle.git_index.specs.declared.error.IndexFileError.TheVariants.{Entry}

pub by_one : (version : ℕ) (listed : EntriesAndDetails) (n : ℕ) (rest : List ℕ) (found : Option EntryAndRest) → read_entry version (path_of_last_entry listed.entries) rest ≡ found
    → read_entries_after_others version listed (suc n) rest
    ≡ and_then (λ (read : EntryAndRest). read_entries_after_others version (entries_and_details_with_one_more listed read.entry read.detail) n read.rest) (ok_or found (Entry (length listed.entries)))
by_one version listed n rest found is =
    ap (λ (r : Option EntryAndRest). and_then (λ (read : EntryAndRest). read_entries_after_others version (entries_and_details_with_one_more listed read.entry read.detail) n read.rest) (ok_or r (Entry (length listed.entries)))) is

from_left : (version : ℕ) (listed : EntriesAndDetails) (left : ℕ) (rest : List ℕ) → 0 < left
    → read_entries_after_others version listed left rest ≡ read_entries_after_others version listed (suc (left - 1)) rest
from_left version listed left rest some =
    let same : left ≡ suc (left - 1) = omega (arith, some) in
    ap (λ (n : ℕ). read_entries_after_others version listed n rest) same

-- an entry is there
pub with_one : (version : ℕ) (listed : EntriesAndDetails) (left : ℕ) (rest : List ℕ) (read : EntryAndRest) → 0 < left → read_entry version (path_of_last_entry listed.entries) rest ≡ Some read
    → read_entries_after_others version listed left rest ≡ read_entries_after_others version (entries_and_details_with_one_more listed read.entry read.detail) (left - 1) read.rest
with_one version listed left rest read some is = from_left version listed left rest some ∙ by_one version listed (left - 1) rest (Some read) is

-- none is
pub without_one : (version : ℕ) (listed : EntriesAndDetails) (left : ℕ) (rest : List ℕ) → 0 < left → read_entry version (path_of_last_entry listed.entries) rest ≡ None
    → read_entries_after_others version listed left rest ≡ Err (Entry (length listed.entries))
without_one version listed left rest some is = from_left version listed left rest some ∙ by_one version listed (left - 1) rest None is
