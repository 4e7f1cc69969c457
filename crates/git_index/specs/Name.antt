-- The path of an entry. In versions 2 and 3 it stands whole, with a NUL behind it and then NULs up to a multiple of eight bytes of the
-- entry. In version 4 a number says how many bytes at its end the path before loses, and the rest of this one follows, with a NUL.
use Rattle.std.specs.Prelude.{ℕ, ◌+◌, ◌-◌, ◌%◌, min, Bool, nat_le, ◌==◌, List, ◌++◌, length, take, Option, Some, None, option_map, if◌then◌else◌}
use Rattle.std.specs.List.{list_all}
use Rattle.gitbase_core.specs.Steps.{◌>>=◌}
use Rattle.gitbase_core.specs.Text.{is_nul}
use Rattle.git_index.specs.Parts.{PartAndRest, split_first_bytes, text}
use Rattle.git_index.specs.Varint.{read_varint}
use Rattle.git_index.specs.Head.{path_length_from_flags}

-- a path, and what is behind it
pub record PathAndRest : Type 0 where
  pub path : List ℕ
  pub rest : List ℕ

-- how many NULs fill up behind the one that ends a text, where so many bytes are before that one
abbrev pub padding_length_after_nul : ℕ → ℕ
padding_length_after_nul before = 7 - before % 8

-- behind a path: nothing but NULs up to a multiple of eight bytes
abbrev pub path_with_checked_padding : List ℕ → ℕ → List ℕ → Option PathAndRest
path_with_checked_padding path before bytes = do
  fill ← split_first_bytes (padding_length_after_nul before) bytes
  (if list_all is_nul fill.part then Some (record { path = path; rest = fill.rest }) else None)

-- in versions 2 and 3, where so many bytes of the entry are before it
abbrev pub read_padded_path : ℕ → List ℕ → Option PathAndRest
read_padded_path before bytes = do
  name ← text bytes
  path_with_checked_padding name.part (before + length name.part) name.rest

-- the path before without its last `cut` bytes, and the text in front; none where it is shorter, or no NUL is there
abbrev pub path_with_kept_prefix : List ℕ → ℕ → List ℕ → Option PathAndRest
path_with_kept_prefix previous cut bytes =
    if nat_le cut (length previous)
    then option_map (λ (name : PartAndRest). record { path = take (length previous - cut) previous ++ name.part; rest = name.rest }) (text bytes)
    else None

-- in version 4, behind another path
abbrev pub read_prefix_compressed_path : List ℕ → List ℕ → Option PathAndRest
read_prefix_compressed_path previous bytes = do
  cut ← read_varint bytes
  path_with_kept_prefix previous cut.value cut.rest

-- the path in front, by version: 4 builds it from the path before, 2 and 3 have it whole, with NULs behind
abbrev pub read_entry_path : ℕ → List ℕ → ℕ → List ℕ → Option PathAndRest
read_entry_path version previous before bytes = if version == 4 then read_prefix_compressed_path previous bytes else read_padded_path before bytes

-- the flags tell the length
abbrev pub path_length_matches_flags : ℕ → PathAndRest → Bool
path_length_matches_flags flags named = min (length named.path) 4095 == path_length_from_flags flags

-- the path again; none where the flags tell another length
abbrev pub path_if_length_matches_flags : ℕ → PathAndRest → Option PathAndRest
path_if_length_matches_flags flags named = if path_length_matches_flags flags named then Some named else None
