-- What the texts of git's files and names have in common.
use Rattle.std.specs.Prelude.{ℕ, Bool, ◌==◌, nat_eq, List, [], ◌∷◌, codes, map, drop, if◌then◌else◌}
use Rattle.std.specs.Char.{to_ascii_lowercase}
use Rattle.std.specs.List.{starts_with}
use Rattle.std.specs.Str.{bytes_eq}

-- a byte is NUL, which ends a text
abbrev pub is_nul : ℕ → Bool
is_nul b = b == 0

-- the bytes of a text with the ASCII letters in lower case, as they are compared where case makes no difference
abbrev pub fold_case : List ℕ → List ℕ
fold_case text = map to_ascii_lowercase text

-- two texts are equal but for the case of ASCII letters
abbrev pub eq_ignore_case : List ℕ → List ℕ → Bool
eq_ignore_case left right = bytes_eq (fold_case left) (fold_case right)

-- a name is `.git`, whatever the case of its ASCII letters
abbrev pub is_dot_git_ignoring_case : List ℕ → Bool
is_dot_git_ignoring_case name = eq_ignore_case name (codes ".git")

-- a text without the byte order mark of UTF-8 at its start, the bytes EF BB BF
abbrev pub without_byte_order_mark : List ℕ → List ℕ
without_byte_order_mark text = if starts_with nat_eq text (239 ∷ 187 ∷ 191 ∷ []) then drop 3 text else text
