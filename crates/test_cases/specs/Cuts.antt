-- How a row of a table is cut.
use Rattle.std.specs.Prelude.{ℕ, List, [], ◌+◌, ◌==◌, if◌then◌else◌, take, drop, length, map, Option, Some, None}
use Rattle.std.specs.List.{before_first, after_first}
use Rattle.bstr.specs.Find.{is_byte}
use Rattle.memchr.specs.Find.{first_of, matches}

-- what stands before the first such byte; the whole row where there is none
abbrev pub row_before_byte : ℕ → List ℕ → List ℕ
row_before_byte byte row = before_first (is_byte byte) row

-- what stands behind the first such byte; nothing where there is none
abbrev pub row_after_byte : ℕ → List ℕ → List ℕ
row_after_byte byte row = after_first (is_byte byte) row

-- a row up to a place; the whole row where there is none
abbrev pub row_up_to_place : List ℕ → Option ℕ → List ℕ
row_up_to_place row None = row
row_up_to_place row (Some place) = take place row

-- a row behind so many bytes from a place on; nothing where there is none
abbrev pub row_after_place : List ℕ → ℕ → Option ℕ → List ℕ
row_after_place row many None = []
row_after_place row many (Some place) = drop (place + many) row

-- what stands before the first such mark; the whole row where there is none
abbrev pub row_before_mark : List ℕ → List ℕ → List ℕ
row_before_mark mark row = row_up_to_place row (first_of (matches row mark 0))

-- what stands behind the first such mark; nothing where there is none
abbrev pub row_after_mark : List ℕ → List ℕ → List ℕ
row_after_mark mark row = row_after_place row (length mark) (first_of (matches row mark 0))

-- a byte of a text: an LF in the place of the mark
abbrev pub line_feed_if_mark : ℕ → ℕ → ℕ
line_feed_if_mark mark byte = if byte == mark then 10 else byte

-- a text with an LF in the place of each mark
abbrev pub lines : ℕ → List ℕ → List ℕ
lines mark text = map (line_feed_if_mark mark) text
