-- The lines of a setup that give the index.
use Rattle.std.specs.Prelude.{ℕ, ◌-◌, List, [], ◌∷◌, nat_le, ◌&&◌, bit_or, if◌then◌else◌, codes, replicate, Option, Some, None}
use Rattle.std.specs.Str.{bytes_eq}
use Rattle.std.specs.Result.{result_ok}
use Rattle.gitbase_core.specs.Entry.{regular_file_mode, executable_file_mode, symlink_mode, gitlink_mode, sparse_directory_mode, assume_valid_flag, uptodate_flag, skip_worktree_flag}
use Rattle.gitbase_core.specs.Id.{parse_hex_object_id}
use Rattle.gitbase_core.specs.declared.entry.Mode.{Mode}
use Rattle.gitbase_core.specs.declared.entry.Flags.{Flags}
use Rattle.gitbase_core.specs.declared.entry.IndexEntry.{IndexEntry}
use Rattle.gitbase_core.specs.Steps.{◌>>=◌}
use Rattle.worktree_report.specs.Escapes.{unescape_path}
use Rattle.worktree_report.specs.SetupFields.{split_at_first_space}

-- bits as the mode of an entry, unchecked
abbrev mode_from_bits : ℕ → Mode
mode_from_bits bits = record { 0 = bits }

-- the word of a mode: six octal digits
abbrev pub parse_mode_word : List ℕ → Option Mode
parse_mode_word word =
    if bytes_eq word (codes "100644") then Some (mode_from_bits regular_file_mode)
    else if bytes_eq word (codes "100755") then Some (mode_from_bits executable_file_mode)
    else if bytes_eq word (codes "120000") then Some (mode_from_bits symlink_mode)
    else if bytes_eq word (codes "160000") then Some (mode_from_bits gitlink_mode)
    else if bytes_eq word (codes "040000") then Some (mode_from_bits sparse_directory_mode)
    else None

-- the word of a stage: one digit from 0 to 3
abbrev pub parse_stage_word : List ℕ → Option ℕ
parse_stage_word (b ∷ []) = if nat_le 48 b && nat_le b 51 then Some (b - 48) else None
parse_stage_word _ = None

-- bits as the flags of an entry, unchecked
abbrev flags_from_bits : ℕ → Flags
flags_from_bits bits = record { 0 = bits }

-- The word of the flags: a dash for none of them, or letters in this order. `u` says that the file is up to date, `a` that it is to
-- be taken as unchanged, `s` that it is left out of a sparse worktree.
abbrev pub parse_flags_of_several_letters : List ℕ → Option Flags
parse_flags_of_several_letters word =
    if bytes_eq word (codes "ua") then Some (flags_from_bits (bit_or uptodate_flag assume_valid_flag))
    else if bytes_eq word (codes "us") then Some (flags_from_bits (bit_or uptodate_flag skip_worktree_flag))
    else if bytes_eq word (codes "as") then Some (flags_from_bits (bit_or assume_valid_flag skip_worktree_flag))
    else if bytes_eq word (codes "uas") then Some (flags_from_bits (bit_or uptodate_flag (bit_or assume_valid_flag skip_worktree_flag)))
    else None

-- a dash or letters of `u`, `a` and `s`, each at most once and in this order; any other word is refused
abbrev pub parse_flags_word : List ℕ → Option Flags
parse_flags_word word =
    if bytes_eq word (codes "-") then Some (flags_from_bits 0)
    else if bytes_eq word (codes "u") then Some (flags_from_bits uptodate_flag)
    else if bytes_eq word (codes "a") then Some (flags_from_bits assume_valid_flag)
    else if bytes_eq word (codes "s") then Some (flags_from_bits skip_worktree_flag)
    else parse_flags_of_several_letters word

-- the word of an id: a dash for that of no object, or its hexadecimal digits
abbrev pub parse_id_word : List ℕ → Option (List ℕ)
parse_id_word word = if bytes_eq word (codes "-") then Some (replicate 20 0) else result_ok (parse_hex_object_id word)

-- the five words of an entry; the last one is all that is left
pub record IndexWords : Type 0 where
  pub mode : List ℕ
  pub stage : List ℕ
  pub flags : List ℕ
  pub id : List ℕ
  pub path : List ℕ

-- four spaces part the words; the path is all that is behind the fourth, further spaces too
abbrev pub split_index_words : List ℕ → Option IndexWords
split_index_words rest = do
  first ← split_at_first_space rest
  second ← split_at_first_space first.rest
  third ← split_at_first_space second.rest
  fourth ← split_at_first_space third.rest
  Some (record { mode = first.word; stage = second.word; flags = third.word; id = fourth.word; path = fourth.rest })

-- what the words of an entry say
abbrev pub index_entry_from_words : IndexWords → Option IndexEntry
index_entry_from_words words = do
  mode ← parse_mode_word words.mode
  stage ← parse_stage_word words.stage
  flags ← parse_flags_word words.flags
  id ← parse_id_word words.id
  path ← unescape_path words.path
  Some (record { path = path; stage = stage; mode = mode; flags = flags; id = id })

-- `MODE STAGE FLAGS ID PATH`, behind the keyword
abbrev pub parse_index_entry : List ℕ → Option IndexEntry
parse_index_entry rest = do
  words ← split_index_words rest
  index_entry_from_words words
