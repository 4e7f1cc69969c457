-- Where a byte or a part stands in a text, and what is before and behind it.
use Rattle.std.specs.Prelude.{ℕ, ◌+◌, List, Bool, drop, length}
use Rattle.std.specs.List.{list_any, position_or_len, before_first, before_last, after_last}
use Rattle.bstr.specs.Find.{is_byte, occurs_at}
use Rattle.glob_rules.specs.Glob.{any_number_below_passes}

-- some byte of the text is this one, which is the first argument
abbrev pub contains_byte : ℕ → List ℕ → Bool
contains_byte byte text = list_any (is_byte byte) text

-- where the first such byte stands; the length of the text where there is none
abbrev pub offset_of_first_occurrence : ℕ → List ℕ → ℕ
offset_of_first_occurrence byte text = position_or_len (is_byte byte) text

-- what stands before the first such byte, or the whole text
abbrev pub text_before_first_occurrence : ℕ → List ℕ → List ℕ
text_before_first_occurrence byte text = before_first (is_byte byte) text

-- the first such byte and what is behind it, or nothing
abbrev pub text_from_first_occurrence : ℕ → List ℕ → List ℕ
text_from_first_occurrence byte text = drop (offset_of_first_occurrence byte text) text

-- what stands behind the last such byte, or the whole text
abbrev pub text_after_last_occurrence : ℕ → List ℕ → List ℕ
text_after_last_occurrence byte text = after_last (is_byte byte) text

-- what stands before the last such byte, or nothing
abbrev pub text_before_last_occurrence : ℕ → List ℕ → List ℕ
text_before_last_occurrence byte text = before_last (is_byte byte) text

-- a part stands somewhere in a text
abbrev pub contains : List ℕ → List ℕ → Bool
contains part text = any_number_below_passes (occurs_at text part) (length text + 1)
