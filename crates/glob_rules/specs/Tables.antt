-- Tables of the rules of a long list.
--
-- Most rules are found by a text: a plain pattern by its own, and a star with an ending that begins with a dot, matched with
-- the last component of a path, by what stands behind its star. This text is the core of the pattern. What such a rule matches
-- tells the core: it is the last component of the path, or the path as it reads from the rules' directory, or what the last
-- component has from one of its dots on. So these rules stand in a table in the order of their cores. The others are tried.
use Rattle.std.specs.Prelude.{◌≡◌, ℕ, ◌-◌, ◌<◌, Bool, true, false, not, ◌&&◌, List, [], length, drop, get_or, slice_get, Option, Some, None, ◌==◌, if◌then◌else◌}
use Rattle.std.specs.List.{Contains, filter, range_with_len}
use Rattle.std.specs.List.Sorted.{IsPermutation, IsSorted}
use Rattle.std.specs.Ordering.{nat_cmp, ordering_then}
use Rattle.std.specs.declared.cmp.Ordering.{Ordering}
use Rattle.gitbase_core.specs.Index.{compare_path_bytes}
use Rattle.glob_rules.specs.declared.Case.TheVariants.{Sensitive}
use Rattle.glob_rules.specs.declared.ignore.line.Entry.{Entry}
use Rattle.glob_rules.specs.declared.pattern.Shape.{Shape}
use Rattle.glob_rules.specs.declared.pattern.Shape.TheVariants.{Plain, Ending, Wild}
use Rattle.glob_rules.specs.Marks.{star, dot}
use Rattle.glob_rules.specs.Rule.{Rule, strip_leading_byte, rule_matches_name_or_relative_path}
use Rattle.glob_rules.specs.Shape.{wildcard_shape_of_pattern}
use Rattle.glob_rules.specs.Texts.{first_byte_passes}

-- the core of a pattern: its bytes without a star at their front
abbrev pub text_without_leading_star : List ℕ → List ℕ
text_without_leading_star text = (strip_leading_byte star text).1

-- a rule whose pattern has this shape is found by its core
abbrev pub is_found_by_core_with_shape : Shape → Rule → Bool
is_found_by_core_with_shape Plain rule = true
is_found_by_core_with_shape Ending rule = rule.by_name && first_byte_passes (λ b. b == dot) (text_without_leading_star rule.text)
is_found_by_core_with_shape Wild rule = false

-- the rule is found by its core
abbrev pub is_rule_found_by_core : Rule → Bool
is_rule_found_by_core rule = is_found_by_core_with_shape (wildcard_shape_of_pattern rule.text) rule

-- the core of a rule; the empty text where there is none
abbrev pub core_of_optional_rule : Option Entry → List ℕ
core_of_optional_rule None = []
core_of_optional_rule (Some e) = text_without_leading_star e.pattern.text

-- the core of the rule of a number
abbrev pub core_of_numbered_rule : List Entry → ℕ → List ℕ
core_of_numbered_rule rules number = core_of_optional_rule (slice_get rules number)

-- there is a rule, and it is found by its core
abbrev pub is_optional_rule_found_by_core : Option Entry → Bool
is_optional_rule_found_by_core None = false
is_optional_rule_found_by_core (Some e) = is_rule_found_by_core e.pattern

-- the rule of a number is found by its core
abbrev pub is_numbered_rule_found_by_core : List Entry → ℕ → Bool
is_numbered_rule_found_by_core rules number = is_optional_rule_found_by_core (slice_get rules number)

-- the rule of a number is found by its core where that is asked for, and else is not
abbrev pub agrees_with_found_by_core_flag : List Entry → Bool → ℕ → Bool
agrees_with_found_by_core_flag rules found number = if found then is_numbered_rule_found_by_core rules number else not (is_numbered_rule_found_by_core rules number)

-- there is a rule, and it matches a path in its parts, byte for byte
abbrev pub optional_rule_matches_path : Option Entry → List ℕ → Option (List ℕ) → Option Bool → Bool
optional_rule_matches_path None name relative is_dir = false
optional_rule_matches_path (Some e) name relative is_dir = rule_matches_name_or_relative_path e.pattern name relative is_dir Sensitive

-- the rule of a number matches a path in its parts, byte for byte
abbrev pub numbered_rule_matches_path : List Entry → List ℕ → Option (List ℕ) → Option Bool → ℕ → Bool
numbered_rule_matches_path rules name relative is_dir number = optional_rule_matches_path (slice_get rules number) name relative is_dir

-- two numbers stand in the order of their rules' cores, and those of one core in their own
abbrev pub compare_rule_numbers_by_core : List Entry → ℕ → ℕ → Ordering
compare_rule_numbers_by_core rules a b = ordering_then (compare_path_bytes (core_of_numbered_rule rules a) (core_of_numbered_rule rules b)) (nat_cmp a b)

-- The tables of some rules: the numbers of those that are found by their cores, in the order of these, and then the numbers of
-- the others, ascending.
pub record IsTableOfRules (rules : List Entry) (sorted rest : List ℕ) : Type 0 where
  pub all : IsPermutation (filter (is_numbered_rule_found_by_core rules) (range_with_len 0 (length rules))) sorted
  pub ascending : IsSorted (compare_rule_numbers_by_core rules) sorted
  pub others : rest ≡ filter (λ k. not (is_numbered_rule_found_by_core rules k)) (range_with_len 0 (length rules))

-- it counts rules from the first on, the last of which passes the test, or none
abbrev pub LastCountedPasses : (ℕ → Bool) → ℕ → Type 0
LastCountedPasses test found = 0 < found → test (found - 1) ≡ true

-- the numbers in a table of the rules that have this core and pass the test lie below `found`
abbrev pub AllMatchesWithCoreAreBelow : (ℕ → Bool) → (ℕ → List ℕ) → List ℕ → List ℕ → ℕ → Type 0
AllMatchesWithCoreAreBelow test key numbers text found = (k : ℕ) → Contains numbers k → key k ≡ text → test k ≡ true → k < found

-- the same of those whose core is what the text has from one of its dots on, which stands before the place `up`
abbrev pub AllMatchesWithDottedEndingAreBelow : (ℕ → Bool) → (ℕ → List ℕ) → List ℕ → List ℕ → ℕ → ℕ → Type 0
AllMatchesWithDottedEndingAreBelow test key numbers text up found = (k i : ℕ) → Contains numbers k → i < up → i < length text → get_or text i 0 ≡ dot
    → key k ≡ drop i text → test k ≡ true → k < found

-- the numbers that pass the test lie below `found`
abbrev pub AllPassingNumbersAreBelow : (ℕ → Bool) → List ℕ → ℕ → Type 0
AllPassingNumbersAreBelow test numbers found = (k : ℕ) → Contains numbers k → test k ≡ true → k < found

-- the rules of these numbers are found by their cores
abbrev pub AreRulesFoundByCore : List Entry → List ℕ → Type 0
AreRulesFoundByCore rules numbers = (k : ℕ) → Contains numbers k → is_numbered_rule_found_by_core rules k ≡ true
