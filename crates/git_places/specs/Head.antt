-- What git takes for the `HEAD` of a git directory.
use Rattle.std.specs.Prelude.{ℕ, Bool, false, ◌||◌, ◌==◌, is_some, codes, length, nat_lt, take, List, [], ◌∷◌, Option, Some, None, if◌then◌else◌}
use Rattle.std.specs.List.{list_all}
use Rattle.std.specs.Char.{is_ascii_hexdigit}
use Rattle.worktree_fs.specs.Repository.{text_after_prefix}
use Rattle.worktree_fs.specs.Tree.{LookupResult, found, absent, too_many_links, file, link, directory, other}
use Rattle.git_places.specs.declared.head.Head.{Head}
use Rattle.git_places.specs.declared.head.Head.TheVariants as heads

-- a blank, as git has them here: a space, a tab, or a byte that ends a line
abbrev pub is_space_tab_or_line_end : ℕ → Bool
is_space_tab_or_line_end b = b == 32 || (b == 9 || (b == 10 || b == 13))

-- a text without the blanks at its front
abbrev pub without_leading_blanks : List ℕ → List ℕ
without_leading_blanks [] = []
without_leading_blanks (b ∷ bs) = if is_space_tab_or_line_end b then without_leading_blanks bs else b ∷ bs

-- whether a text begins with another one
abbrev pub begins_with : List ℕ → List ℕ → Bool
begins_with front text = is_some (text_after_prefix front text)

-- whether what stands behind `ref:` names a ref: `refs/` behind any blanks
abbrev pub begins_with_refs_after_blanks : Option (List ℕ) → Bool
begins_with_refs_after_blanks None = false
begins_with_refs_after_blanks (Some rest) = begins_with (codes "refs/") (without_leading_blanks rest)

-- whether a text begins with the 40 hex digits of an id
abbrev pub begins_with_40_hex_digits : List ℕ → Bool
begins_with_40_hex_digits text = if nat_lt (length text) 40 then false else list_all is_ascii_hexdigit (take 40 text)

-- `ref:` and a name in `refs/`, or 40 hex digits in front; what is behind them is not looked at
abbrev pub is_valid_head_text : List ℕ → Bool
is_valid_head_text text = begins_with_refs_after_blanks (text_after_prefix (codes "ref:") text) || begins_with_40_hex_digits text

-- git looks at the first 255 bytes of the file
abbrev pub head_verdict_of_bytes : List ℕ → Head
head_verdict_of_bytes bytes = if is_valid_head_text (take 255 bytes) then heads.Good else heads.Bad

-- what git says, by the node at `HEAD`, a last link not followed: of a link it asks for the target, which no call here tells, and a node of
-- another kind than a file may give any bytes
abbrev pub head_verdict_of_lookup : LookupResult → Head
head_verdict_of_lookup (found (file bytes)) = head_verdict_of_bytes bytes
head_verdict_of_lookup (found (directory names)) = heads.Bad
head_verdict_of_lookup (found (link target)) = heads.Unknown
head_verdict_of_lookup (found other) = heads.Unknown
head_verdict_of_lookup absent = heads.Bad
head_verdict_of_lookup too_many_links = heads.Unknown
