-- Rules that leave the top of the work tree alone.
--
-- Git asks no rule about the top. Here a rule is asked about it, by a name without bytes, and what excludes the top excludes all. So a rule
-- of stars alone, which matches that name too, gets a `?` in front: `?*` matches every other name, as `*` does. For example:
--
--   *        ?*
--   !**/     !?**/
--   *.o      *.o
use Rattle.std.specs.Prelude.{ℕ, List, [], ◌∷◌, Bool, true, false, ◌||◌, ◌==◌, bytes_eq, if◌then◌else◌}
use Rattle.std.specs.List.{flat_map}
use Rattle.bstr.specs.Text.{lines_of}

-- what follows a byte at the front of a text, as often as it stands there
abbrev pub skip_repeated_byte : ℕ → List ℕ → List ℕ
skip_repeated_byte mark [] = []
skip_repeated_byte mark (b ∷ rest) = if b == mark then skip_repeated_byte mark rest else b ∷ rest

-- what follows a slash at the front, if one is there
abbrev pub skip_one_leading_slash : List ℕ → List ℕ
skip_one_leading_slash [] = []
skip_one_leading_slash (b ∷ rest) = if b == 47 then rest else b ∷ rest

-- nothing is left of a line, but for a line feed, or a carriage return and that
abbrev pub is_line_end_or_empty : List ℕ → Bool
is_line_end_or_empty [] = true
is_line_end_or_empty (b ∷ rest) = bytes_eq (b ∷ rest) (10 ∷ []) || bytes_eq (b ∷ rest) (13 ∷ 10 ∷ [])

-- a rule without its sign is of stars alone, one at least; a slash may stand behind them, and spaces
abbrev pub is_rule_of_stars_only : List ℕ → Bool
is_rule_of_stars_only [] = false
is_rule_of_stars_only (b ∷ rest) = if b == 42 then is_line_end_or_empty (skip_repeated_byte 32 (skip_one_leading_slash (skip_repeated_byte 42 (b ∷ rest)))) else false

-- `?*` for `*`, which so does not match the name without bytes; any other rule stays as it is
abbrev pub rule_question_marked_if_stars : List ℕ → List ℕ
rule_question_marked_if_stars rule = if is_rule_of_stars_only rule then 63 ∷ rule else rule

-- a line, which may begin with an exclamation mark
abbrev pub line : List ℕ → List ℕ
line [] = []
line (b ∷ rest) = if b == 33 then 33 ∷ rule_question_marked_if_stars rest else rule_question_marked_if_stars (b ∷ rest)

-- the same rules, line by line
unfoldable pub exempt_top_from_star_rules : List ℕ → List ℕ
exempt_top_from_star_rules rules = flat_map line (lines_of rules)
