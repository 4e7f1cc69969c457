-- The fields of an entry against those of the node at its path: git-update-index(1), git-config(1), and racy-git in git's documentation.
use Rattle.std.specs.Prelude.{ℕ, ◌%◌, ◌^◌, List, [], ◌∷◌, Bool, not, ◌&&◌, ◌||◌, ◌==◌, nat_lt, bytes_eq}
use Rattle.gitbase_core.specs.Entry.{mode_bits}
use Rattle.gitbase_core.specs.declared.entry.IndexEntry.{IndexEntry}
use Rattle.git_index.specs.declared.stat.Detail.{Detail}
use Rattle.git_index.specs.declared.stat.Stat.{Stat}
use Rattle.diff_files.specs.declared.comparison.Comparison.{Comparison}
use Rattle.diff_files.specs.declared.stats.node_stat.NodeStat.{NodeStat}
use Rattle.diff_files.specs.Modes.{owner_executable_bit, is_symlink_mode, is_regular_file_mode}

-- `core.trustctime`: "If false, the ctime differences between the index and the working tree are ignored"; with `core.checkStat` of
-- "minimal" they are too
abbrev pub differs_in_ctime : Comparison → Stat → NodeStat → Bool
differs_in_ctime o seen at = o.trust_ctime && (o.check_stat && not (seen.ctime.seconds == at.ctime))

-- the owner and the number of the file, which `core.checkStat` of "minimal" leaves out
abbrev pub differs_in_owner_or_inode : Comparison → Stat → NodeStat → Bool
differs_in_owner_or_inode o seen at =
    o.check_stat && (not (seen.uid == at.uid) || (not (seen.gid == at.gid) || not (seen.ino == at.ino % 2 ^ 32)))

-- whole seconds of the time, and the lowest 32 bits of the size
abbrev pub differs_in_stat_fields : Comparison → Stat → NodeStat → Bool
differs_in_stat_fields o seen at =
    not (seen.mtime.seconds == at.mtime)
    || (not (seen.size == at.size % 2 ^ 32) || (differs_in_ctime o seen at || differs_in_owner_or_inode o seen at))

-- no file in the place of one, or one that may be executed in the place of one that may not, or the other way round
abbrev pub differs_from_regular_file_mode : Comparison → ℕ → ℕ → Bool
differs_from_regular_file_mode o old mode = not (is_regular_file_mode mode) || (o.file_mode && not (owner_executable_bit old == owner_executable_bit mode))

-- no link in the place of one, and, where links are checked out as files, no file either
abbrev pub differs_from_symlink_mode : Comparison → ℕ → Bool
differs_from_symlink_mode o mode = not (is_symlink_mode mode) && (o.symlinks || not (is_regular_file_mode mode))

-- a node is not what the mode of an entry says: that of a link, else of a file
abbrev pub differs_from_entry_mode : Comparison → ℕ → ℕ → Bool
differs_from_entry_mode o old mode = (is_symlink_mode old && differs_from_symlink_mode o mode) || (not (is_symlink_mode old) && differs_from_regular_file_mode o old mode)

-- the id of the blob without bytes, e69de29bb2d1d6434b8b29ae775ad8c2e48c5391
abbrev pub id_of_empty_blob : List ℕ
id_of_empty_blob = 230 ∷ 157 ∷ 226 ∷ 155 ∷ 178 ∷ 209 ∷ 214 ∷ 67 ∷ 75 ∷ 139 ∷ 41 ∷ 174 ∷ 119 ∷ 90 ∷ 216 ∷ 194 ∷ 228 ∷ 140 ∷ 83 ∷ 145 ∷ []

-- git writes a size of 0 for a file that it knows to differ, so that it is looked at again
abbrev pub is_smudged : IndexEntry → Detail → Bool
is_smudged e d = d.stat.size == 0 && not (bytes_eq e.id id_of_empty_blob)

-- what stands at the path of an entry of a file or a link differs from it, without a look at its bytes
unfoldable pub is_changed_by_mode_or_stat : Comparison → IndexEntry → Detail → NodeStat → Bool
is_changed_by_mode_or_stat o e d at = differs_from_entry_mode o (mode_bits e.mode) at.mode || (differs_in_stat_fields o d.stat at || is_smudged e d)

-- The file of the index was not written later than the file of an entry, in whole seconds, which may so have changed unseen. An index
-- file of the time 0 is later than all.
abbrev pub is_racy : Comparison → Detail → Bool
is_racy o d = not (o.index_time == 0) && not (nat_lt d.stat.mtime.seconds o.index_time)
