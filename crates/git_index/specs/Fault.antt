-- Where an index file has fewer entries than its head promises, told from the writer's side.
use Rattle.std.specs.Prelude.{◌≡◌, ◌<◌, ℕ, ◌-◌, ◌^◌, true, List, [], ◌∷◌, ◌++◌, length, take, codes}
use Rattle.byteorder.specs.Endian.{big_bytes}
use Rattle.git_index.specs.IndexFile.{is_supported_version}
use Rattle.git_index.specs.Written.{AreWritableEntriesAfterPath, IsWritableEntryAfterPath, WrittenEntry, entries_bytes, entry_bytes}

-- the path that the entry behind some entries follows
abbrev pub path_of_last_written_entry : List ℕ → List WrittenEntry → List ℕ
path_of_last_written_entry previous [] = previous
path_of_last_written_entry previous (w ∷ ws) = path_of_last_written_entry w.path ws

-- so many entries stand behind the head, which promises more, and what is behind them begins with none
pub record IsFirstBadEntryAt (bytes : List ℕ) (at : ℕ) : Type 0 where
  pub version : ℕ
  pub is_version : is_supported_version version ≡ true
  pub count : ℕ
  pub few : count < 256 ^ 4
  pub ws : List WrittenEntry
  pub rest : List ℕ
  pub place : length ws ≡ at
  pub promised : at < count
  pub entries : AreWritableEntriesAfterPath version [] ws
  pub front : take (length bytes - 20) bytes ≡ codes "DIRC" ++ (big_bytes 4 version ++ (big_bytes 4 count ++ (entries_bytes version [] ws ++ rest)))
  pub none : (w : WrittenEntry) (behind : List ℕ) → IsWritableEntryAfterPath version (path_of_last_written_entry [] ws) w → rest ≡ entry_bytes version (path_of_last_written_entry [] ws) w ++ behind → ⊥
