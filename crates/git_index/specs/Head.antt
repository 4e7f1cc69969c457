-- What the first 62 bytes of an entry say: ten numbers of four bytes, an id, and a pair of bytes of flags.
--
--     ctime(8) mtime(8) dev(4) ino(4) mode(4) uid(4) gid(4) size(4) id(20) flags(2)
--
-- A time is its seconds and its nanoseconds. The flags are, from the highest bit: assumed unchanged, extended, two bits of the
-- stage, and twelve of the path's length, which are 4095 where that is more.
use Rattle.std.specs.Prelude.{ℕ, ◌/◌, ◌%◌, Bool, ◌==◌, List, take, drop, Option, Some, None, option_map, bit_or, if◌then◌else◌}
use Rattle.byteorder.specs.Endian.{big_number}
use Rattle.gitbase_core.specs.Entry.{regular_file_mode, executable_file_mode, symlink_mode, gitlink_mode, sparse_directory_mode, assume_valid_flag, skip_worktree_flag}
use Rattle.gitbase_core.specs.declared.entry.Mode.{Mode}
use Rattle.gitbase_core.specs.declared.entry.Flags.{Flags}
use Rattle.git_index.specs.Parts.{nth_big_endian_u32}
use Rattle.git_index.specs.declared.stat.Stat.{Stat}

-- the mode of any bits: whether git writes such is not asked here
abbrev pub mode_with_bits : ℕ → Mode
mode_with_bits bits = record { 0 = bits }

-- the mode of these bits; none where git writes no such
abbrev pub known_mode_of_bits : ℕ → Option Mode
known_mode_of_bits bits =
    if bits == regular_file_mode then Some (mode_with_bits bits)
    else if bits == executable_file_mode then Some (mode_with_bits bits)
    else if bits == symlink_mode then Some (mode_with_bits bits)
    else if bits == gitlink_mode then Some (mode_with_bits bits)
    else if bits == sparse_directory_mode then Some (mode_with_bits bits)
    else None

-- what git saw of the file: the ten numbers without the mode, which is the seventh of them
abbrev pub stat_of_entry_head : List ℕ → Stat
stat_of_entry_head head = record {
  ctime = record { seconds = nth_big_endian_u32 0 head; nanoseconds = nth_big_endian_u32 1 head };
  mtime = record { seconds = nth_big_endian_u32 2 head; nanoseconds = nth_big_endian_u32 3 head };
  dev = nth_big_endian_u32 4 head;
  ino = nth_big_endian_u32 5 head;
  uid = nth_big_endian_u32 7 head;
  gid = nth_big_endian_u32 8 head;
  size = nth_big_endian_u32 9 head;
}

-- what the 62 bytes say; the flags are the first pair as it stands, with the stage and the path's length in it
pub record FixedEntryFields : Type 0 where
  pub stat : Stat
  pub mode : Mode
  pub id : List ℕ
  pub flags : ℕ

-- none where the mode is none that git writes
abbrev pub parse_fixed_entry_fields : List ℕ → Option FixedEntryFields
parse_fixed_entry_fields head =
    option_map (λ (mode : Mode). record { stat = stat_of_entry_head head; mode = mode; id = take 20 (drop 40 head); flags = big_number 2 (drop 60 head) })
    (known_mode_of_bits (nth_big_endian_u32 6 head))

-- ---- the flags

-- the highest bit: `git update-index --assume-unchanged` was said of the path
abbrev pub is_assume_valid_set : ℕ → Bool
is_assume_valid_set flags = flags / 32768 % 2 == 1

-- the second highest bit: a second pair of bytes of flags follows, which version 2 does not have
abbrev pub is_extended_flag_set : ℕ → Bool
is_extended_flag_set flags = flags / 16384 % 2 == 1

-- 0 for a path without a conflict; in a conflict 1 is the common ancestor, 2 ours and 3 theirs
abbrev pub stage_from_flags : ℕ → ℕ
stage_from_flags flags = flags / 4096 % 4

-- how many bytes the path has; 4095 is said of every path of that length or more
abbrev pub path_length_from_flags : ℕ → ℕ
path_length_from_flags flags = flags % 4096

-- the flags of an entry that is assumed unchanged, or left out of a sparse worktree
abbrev pub flags_of_assumed_and_skipped : Bool → Bool → Flags
flags_of_assumed_and_skipped assumed skipped = record { 0 = bit_or (if assumed then assume_valid_flag else 0) (if skipped then skip_worktree_flag else 0) }
