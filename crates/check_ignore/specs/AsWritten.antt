-- The text of a rule as it stands in its file.
--
-- A rule of stars alone is asked with a `?` in front, so that it leaves the top of the work tree alone. Git prints it without: with `*` in
-- `info/exclude` the rule is `*`, and where the user wrote `?*` there, it is `?*`.
use Rattle.std.specs.Prelude.{ℕ, ◌+◌, List, [], ◌∷◌, Bool, false, ◌==◌, bytes_eq, map, Option, Some, None, if◌then◌else◌}
use Rattle.std.specs.Option.{option_or}
use Rattle.bstr.specs.Text.{lines_of, without_terminator}
use Rattle.glob_rules.specs.declared.ignore.RuleGroup.{RuleGroup}
use Rattle.glob_rules.specs.declared.ignore.RuleGroup.TheVariants as groups
use Rattle.check_ignore.specs.declared.options.NamedRules.{NamedRules}
use Rattle.check_ignore.specs.declared.options.OuterRules.{OuterRules}
use Rattle.check_ignore.specs.declared.found_rule.FoundRule.{FoundRule}

-- ---- a line of a file

-- of some lines, of which the first has the number `at`; no bytes where there is none
abbrev pub line_at_number_counting_from : ℕ → ℕ → List (List ℕ) → List ℕ
line_at_number_counting_from at number [] = []
line_at_number_counting_from at number (line ∷ rest) = if at == number then line else line_at_number_counting_from (at + 1) number rest

-- the line of this number, from 1, without what ends it; no bytes where the text has no such line
abbrev pub line_at_number_or_empty : List ℕ → ℕ → List ℕ
line_at_number_or_empty bytes number = line_at_number_counting_from 1 number (map without_terminator (lines_of bytes))

-- ---- a rule of stars

-- `*` is the first byte
abbrev pub has_leading_star : List ℕ → Bool
has_leading_star [] = false
has_leading_star (b ∷ rest) = b == 42

-- a star stands at the front of a rule, behind its sign
abbrev pub begins_with_star_past_negation : List ℕ → Bool
begins_with_star_past_negation [] = false
begins_with_star_past_negation (b ∷ rest) = if b == 33 then has_leading_star rest else b == 42

-- the text of a rule that stands in a line
abbrev pub strip_question_mark_of_star_rule : List ℕ → List ℕ → List ℕ
strip_question_mark_of_star_rule line [] = []
strip_question_mark_of_star_rule line (b ∷ rest) = if b == 63 then (if begins_with_star_past_negation line then rest else b ∷ rest) else b ∷ rest

-- ---- a rule outside the work tree

-- what stands in a file of rules, if it is the one that a rule names as its source
abbrev pub rules_bytes_if_name_matches : List ℕ → Option NamedRules → Option (List ℕ)
rules_bytes_if_name_matches source None = None
rules_bytes_if_name_matches source (Some given) = if bytes_eq given.name source then Some given.bytes else None

-- what stands in a file outside the work tree
abbrev pub bytes_of_outer_rules_named : OuterRules → List ℕ → Option (List ℕ)
bytes_of_outer_rules_named outer source = option_or (rules_bytes_if_name_matches source outer.repository) (rules_bytes_if_name_matches source outer.user)

-- the text of a rule as its file has it; where no file has its source as a name, as it was asked
abbrev pub written_text_of_outer_rule : FoundRule → Option (List ℕ) → List ℕ
written_text_of_outer_rule rule None = rule.text
written_text_of_outer_rule rule (Some bytes) = strip_question_mark_of_star_rule (line_at_number_or_empty bytes rule.line) rule.text

-- the same rule of the same line, with another text
abbrev pub rule_with_text : FoundRule → List ℕ → FoundRule
rule_with_text rule text = record rule { text = text }

-- a rule of a file outside the work tree, without the `?` that was put in front of its stars
abbrev pub outer_rule_as_written : OuterRules → FoundRule → FoundRule
outer_rule_as_written outer rule = rule_with_text rule (written_text_of_outer_rule rule (bytes_of_outer_rules_named outer rule.source))

-- a rule of a `.gitignore` stays: only rules outside the work tree are asked in another form
abbrev pub rule_as_written_if_globals_group : OuterRules → FoundRule → RuleGroup → FoundRule
rule_as_written_if_globals_group outer rule groups.Overrides = rule
rule_as_written_if_globals_group outer rule (groups.Directory depth) = rule
rule_as_written_if_globals_group outer rule groups.Globals = outer_rule_as_written outer rule

-- the rule that decides, if one does, with its text as it is written
unfoldable pub rule_as_written_if_outer : OuterRules → Option FoundRule → Option FoundRule
rule_as_written_if_outer outer None = None
rule_as_written_if_outer outer (Some rule) = Some (rule_as_written_if_globals_group outer rule rule.group)
