-- What is found in an index without regard to the case of ASCII letters.
use Rattle.std.specs.Prelude.{ℕ, Bool, false, ◌==◌, ◌||◌, List, [], ◌∷◌, ◌++◌, length, find, slice_get, nat_eq, Option, Some, None, if◌then◌else◌}
use Rattle.std.specs.List.{starts_with, range_with_len}
use Rattle.std.specs.List.Sorted.{IsPermutation, IsSorted}
use Rattle.std.specs.Ordering.{nat_cmp, ordering_then}
use Rattle.std.specs.Str.{bytes_eq}
use Rattle.std.specs.declared.cmp.Ordering.{Ordering}
use Rattle.gitbase_core.specs.Entry.{mode_bits, sparse_directory_mode, gitlink_mode, assume_valid_flag, uptodate_flag}
use Rattle.gitbase_core.specs.Index.{compare_path_bytes}
use Rattle.gitbase_core.specs.Kinds.{entry_has_flag, index_kinds_of_entry, index_kinds_of_unknown_path}
use Rattle.gitbase_core.specs.Path.{parent}
use Rattle.gitbase_core.specs.Text.{fold_case, eq_ignore_case}
use Rattle.gitbase_core.specs.declared.entry.IndexEntry.{IndexEntry}
use Rattle.gitbase_core.specs.declared.kinds.EntryKind.TheVariants.{Directory}
use Rattle.gitbase_core.specs.declared.kinds.IndexKinds.{IndexKinds}

-- the first entry that equals a path but for the case of letters
abbrev pub first_entry_at_path_icase : List ℕ → List IndexEntry → Option IndexEntry
first_entry_at_path_icase path entries = find (λ e. eq_ignore_case e.path path) entries

-- the first entry beneath a path but for the case of letters
abbrev pub first_entry_beneath_directory_icase : List ℕ → List IndexEntry → Option IndexEntry
first_entry_beneath_directory_icase path entries = find (λ e. starts_with nat_eq (fold_case e.path) (fold_case (path ++ 47 ∷ []))) entries

-- ---- numbers of entries

-- the folded path of an entry; the empty one where there is none
abbrev pub folded_path_of_optional_entry : Option IndexEntry → List ℕ
folded_path_of_optional_entry None = []
folded_path_of_optional_entry (Some e) = fold_case e.path

-- the folded path of the entry of a number
abbrev pub folded_path_of_numbered_entry : List IndexEntry → ℕ → List ℕ
folded_path_of_numbered_entry entries number = folded_path_of_optional_entry (slice_get entries number)

-- two numbers stand in the order of their entries' folded paths, and those of one folded path in their own
abbrev pub compare_entry_numbers_by_folded_path : List IndexEntry → ℕ → ℕ → Ordering
compare_entry_numbers_by_folded_path entries a b = ordering_then (compare_path_bytes (folded_path_of_numbered_entry entries a) (folded_path_of_numbered_entry entries b)) (nat_cmp a b)

-- they are all numbers of some entries, ascending by folded path, then by number
pub record IsCaseFoldedLookupOfEntries (entries : List IndexEntry) (numbers : List ℕ) : Type 0 where
  pub all : IsPermutation (range_with_len 0 (length entries)) numbers
  pub ascending : IsSorted (compare_entry_numbers_by_folded_path entries) numbers

-- ---- what an index says of a path without regard to case

-- what an entry beneath the path says: there is a directory, which counts as up to date where this entry does
abbrev pub directory_kinds_from_entry_beneath : Option IndexEntry → IndexKinds
directory_kinds_from_entry_beneath None = index_kinds_of_unknown_path
directory_kinds_from_entry_beneath (Some e) = record {
  up_to_date = if entry_has_flag uptodate_flag e || entry_has_flag assume_valid_flag e then Some Directory else None;
  kind = Some Directory;
  is_left_out = false;
}

-- the parent of a path is another, byte for byte
abbrev pub is_parent_equal_to_path : Option (List ℕ) → List ℕ → Bool
is_parent_equal_to_path None path = false
is_parent_equal_to_path (Some up) path = bytes_eq up path

-- an entry stands right in the directory of this spelling
abbrev pub is_entry_direct_child_of_path : List ℕ → Option IndexEntry → Bool
is_entry_direct_child_of_path path None = false
is_entry_direct_child_of_path path (Some e) = is_parent_equal_to_path (parent e.path) path

-- an entry of the path and one beneath it: a submodule or a sparse directory comes first, then the directory of this
-- spelling, then the entry
abbrev pub kinds_from_entry_or_beneath_icase : List ℕ → Option IndexEntry → Option IndexEntry → IndexKinds
kinds_from_entry_or_beneath_icase path None beneath = directory_kinds_from_entry_beneath beneath
kinds_from_entry_or_beneath_icase path (Some e) beneath =
    if mode_bits e.mode == gitlink_mode || mode_bits e.mode == sparse_directory_mode then index_kinds_of_entry e
    else if is_entry_direct_child_of_path path beneath then directory_kinds_from_entry_beneath beneath
    else index_kinds_of_entry e

-- what an index says of a path without regard to case
abbrev pub index_kinds_of_path_icase : List IndexEntry → List ℕ → IndexKinds
index_kinds_of_path_icase entries path = kinds_from_entry_or_beneath_icase path (first_entry_at_path_icase path entries) (first_entry_beneath_directory_icase path entries)
