-- Patterns that stand before all other ignore rules.
use Rattle.std.specs.Prelude.{ℕ, List, [], ◌∷◌, Bool, true, false, nat_eq, codes, if◌then◌else◌}
use Rattle.std.specs.List.{flat_map, starts_with}
use Rattle.git_setup.specs.BelowTop.{exempt_top_from_star_rules}

-- there are some
abbrev pub is_nonempty_list : List (List ℕ) → Bool
is_nonempty_list [] = false
is_nonempty_list (pattern ∷ patterns) = true

-- a pattern as a line of a rules file: a `#` in front is a byte like any other
abbrev pub pattern_with_escaped_hash : List ℕ → List ℕ
pattern_with_escaped_hash pattern = if starts_with nat_eq pattern (codes "#") then 92 ∷ pattern else pattern

-- each behind a line feed
abbrev pub rule_line_of_pattern : List ℕ → List ℕ
rule_line_of_pattern pattern = 10 ∷ pattern_with_escaped_hash pattern

-- as they leave the top of the work tree alone
abbrev pub rules_text_of_patterns : List (List ℕ) → List ℕ
rules_text_of_patterns patterns = exempt_top_from_star_rules (flat_map rule_line_of_pattern patterns)
