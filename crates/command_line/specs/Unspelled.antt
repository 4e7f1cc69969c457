-- Paths as they are, from the text that spells some of their bytes.
use Rattle.std.specs.Prelude.{ℕ, zero, suc, List, [], ◌∷◌, ◌==◌, Option, Some, None, if◌then◌else◌}
use Rattle.worktree_report.specs.Escapes.{byte_from_two_hex_digits}

-- the byte that a backslash and two digits spell at the beginning of a text
abbrev pub byte_of_backslash_hex_escape : ℕ → List ℕ → Option ℕ
byte_of_backslash_hex_escape b rest = if b == 92 then byte_from_two_hex_digits rest else None

-- the byte that is spelled, before what is behind its spelling; or the byte as it stands
abbrev pub decoded_byte_or_itself_with_rest : Option ℕ → ℕ → List ℕ → List ℕ → List ℕ
decoded_byte_or_itself_with_rest (Some byte) b behind after = byte ∷ behind
decoded_byte_or_itself_with_rest None b behind after = b ∷ after

-- the bytes behind those that are still to be skipped; a backslash and two lower-case hexadecimal digits are one
unfoldable pub decoded_bytes_after_skipping : ℕ → List ℕ → List ℕ
decoded_bytes_after_skipping skip [] = []
decoded_bytes_after_skipping (suc skip) (b ∷ bytes) = decoded_bytes_after_skipping skip bytes
decoded_bytes_after_skipping zero (b ∷ bytes) = decoded_byte_or_itself_with_rest (byte_of_backslash_hex_escape b bytes) b (decoded_bytes_after_skipping 2 bytes) (decoded_bytes_after_skipping 0 bytes)

-- the bytes that a text spells
abbrev pub bytes_with_hex_escapes_decoded : List ℕ → List ℕ
bytes_with_hex_escapes_decoded bytes = decoded_bytes_after_skipping 0 bytes
