-- What is written of a path: git-check-ignore(1), "OUTPUT".
use Rattle.std.specs.Prelude.{ℕ, List, [], ◌∷◌, ◌++◌, ◌-◌, ◌==◌, Bool, true, false, codes, decimal, bytes_eq, slice_get, unwrap_or, Option, Some, None, if◌then◌else◌}
use Rattle.std.specs.List.{slice_split}
use Rattle.gitbase_core.specs.Path.{strip_directory_prefix}
use Rattle.gitbase_core.specs.Text.{without_byte_order_mark}
use Rattle.git_paths.specs.QuotedNames.{path_quoted_if_needed}
use Rattle.glob_rules.specs.Rule.{strip_leading_byte}
use Rattle.glob_rules.specs.declared.ignore.RuleGroup.{RuleGroup}
use Rattle.glob_rules.specs.declared.ignore.RuleGroup.TheVariants.{Overrides, Directory, Globals}
use Rattle.worktree_fs.specs.Tree.{Names, LookupResult, found, absent, too_many_links, file, link, directory, other, look}
use Rattle.check_ignore.specs.declared.options.Checking.{Checking}
use Rattle.check_ignore.specs.declared.options.NamedRules.{NamedRules}
use Rattle.check_ignore.specs.declared.options.OuterRules.{OuterRules}
use Rattle.check_ignore.specs.declared.found_rule.FoundRule.{FoundRule}

-- ---- the pattern, as its line has it

-- the text of what a path leads to, no bytes where that is no file
abbrev pub bytes_of_found_file_or_empty : LookupResult → List ℕ
bytes_of_found_file_or_empty (found (file bytes)) = bytes
bytes_of_found_file_or_empty (found (directory names)) = []
bytes_of_found_file_or_empty (found (link target)) = []
bytes_of_found_file_or_empty (found other) = []
bytes_of_found_file_or_empty absent = []
bytes_of_found_file_or_empty too_many_links = []

-- what is read at a path, links followed; no bytes where no file is there
abbrev pub read_file_or_empty : Names → List ℕ → List ℕ
read_file_or_empty t path = bytes_of_found_file_or_empty (look t path true)

-- the rules are given, and their file is called so
abbrev pub has_rules_name : Option NamedRules → List ℕ → Bool
has_rules_name None name = false
has_rules_name (Some given) name = bytes_eq given.name name

-- the text of a file of rules; no bytes where it is not given
abbrev pub bytes_of_rules_or_empty : Option NamedRules → List ℕ
bytes_of_rules_or_empty None = []
bytes_of_rules_or_empty (Some given) = given.bytes

-- the text of the rules outside the work tree that are named so
abbrev pub repository_rules_if_named_else_user : OuterRules → List ℕ → List ℕ
repository_rules_if_named_else_user outer name = if has_rules_name outer.repository name then bytes_of_rules_or_empty outer.repository else bytes_of_rules_or_empty outer.user

-- the text of a list that was read there
abbrev pub text_of_source_by_group : Names → OuterRules → List ℕ → RuleGroup → List ℕ
text_of_source_by_group t outer source Overrides = read_file_or_empty t source
text_of_source_by_group t outer source (Directory depth) = read_file_or_empty t source
text_of_source_by_group t outer source Globals = repository_rules_if_named_else_user outer source

-- all of the file in which the rule stands, in which its line is looked up again
abbrev pub text_of_rule_source : Names → OuterRules → FoundRule → List ℕ
text_of_rule_source t outer rule = text_of_source_by_group t outer rule.source rule.group

-- the pieces between line feeds; a carriage return stays at the end of its line
abbrev pub lines_at_line_feeds : List ℕ → List (List ℕ)
lines_at_line_feeds text = slice_split (λ b. b == 10) text

-- what is left of a line without the sign at its front, if there is one
abbrev pub without_negation_sign : List ℕ → List ℕ
without_negation_sign line = (strip_leading_byte 33 line).1

-- a slash stands before the pattern of a line
abbrev pub begins_with_slash_past_negation : List ℕ → Bool
begins_with_slash_past_negation line = (strip_leading_byte 47 (without_negation_sign line)).0

-- no slash stands where there is no such line
abbrev pub is_optional_line_anchored : Option (List ℕ) → Bool
is_optional_line_anchored None = false
is_optional_line_anchored (Some line) = begins_with_slash_past_negation line

-- one stands before that of the line of this number, from 1
abbrev pub is_line_at_number_anchored : List ℕ → ℕ → Bool
is_line_at_number_anchored text number = is_optional_line_anchored (slice_get (lines_at_line_feeds (without_byte_order_mark text)) (number - 1))

-- a mark, where it stands
abbrev pub bytes_or_empty_by_flag : Bool → List ℕ → List ℕ
bytes_or_empty_by_flag there bytes = if there then bytes else []

-- the pattern with the marks around it
abbrev pub pattern_with_negation_and_slashes : FoundRule → Bool → List ℕ
pattern_with_negation_and_slashes rule anchored =
    bytes_or_empty_by_flag rule.is_negative (codes "!") ++ bytes_or_empty_by_flag anchored (codes "/") ++ rule.text ++ bytes_or_empty_by_flag rule.must_be_dir (codes "/")

-- the pattern that `-v` prints, with its `!` and slashes; whether one stood in front is read from its file again
abbrev pub written_pattern_of_rule : Names → OuterRules → FoundRule → List ℕ
written_pattern_of_rule t outer rule = pattern_with_negation_and_slashes rule (is_line_at_number_anchored (text_of_rule_source t outer rule) rule.line)

-- ---- lines

-- a path from the top, or the path itself where it does not lie beneath that
abbrev pub path_relative_to_root_if_beneath : List ℕ → List ℕ → List ℕ
path_relative_to_root_if_beneath root path = unwrap_or (strip_directory_prefix root path) path

-- where a list was read: from the top that of a directory
abbrev pub displayed_source_of_rule : List ℕ → List ℕ → RuleGroup → List ℕ
displayed_source_of_rule root source Overrides = source
displayed_source_of_rule root source (Directory depth) = path_relative_to_root_if_beneath root source
displayed_source_of_rule root source Globals = source

-- a path, in quotes where it needs them; with `-z` as it is
abbrev pub path_quoted_unless_z : Checking → List ℕ → List ℕ
path_quoted_unless_z c path = if c.ends_in_nul then path else path_quoted_if_needed c.quote_path path

-- a byte between fields or behind them; with `-z` a NUL stands in its place
abbrev pub byte_or_nul_if_z : Checking → ℕ → ℕ
byte_or_nul_if_z c byte = if c.ends_in_nul then 0 else byte

-- a path and the line feed that ends its line
abbrev pub path_with_terminator : Checking → List ℕ → List ℕ
path_with_terminator c path = path_quoted_unless_z c path ++ byte_or_nul_if_z c 10 ∷ []

-- the rule that decides about a path: where it was read, its line and its pattern, parted by colons
abbrev pub source_line_number_and_pattern : Checking → List ℕ → FoundRule → List ℕ → List ℕ
source_line_number_and_pattern c root rule pattern =
    path_quoted_unless_z c (displayed_source_of_rule root rule.source rule.group) ++ byte_or_nul_if_z c 58 ∷ decimal rule.line ++ byte_or_nul_if_z c 58 ∷ pattern ++ byte_or_nul_if_z c 9 ∷ []

-- a path, and behind a tab before it the rule
abbrev pub verbose_line_of_rule : Checking → List ℕ → List ℕ → FoundRule → List ℕ → List ℕ
verbose_line_of_rule c root path rule pattern = source_line_number_and_pattern c root rule pattern ++ path_with_terminator c path

-- a path about which none decides
abbrev pub unmatched_path_line_if_requested : Checking → List ℕ → List ℕ
unmatched_path_line_if_requested c text = if c.non_matching then byte_or_nul_if_z c 58 ∷ byte_or_nul_if_z c 58 ∷ byte_or_nul_if_z c 9 ∷ path_with_terminator c text else []

-- with `-v`
abbrev pub verbose_line : Names → List ℕ → OuterRules → Checking → List ℕ → Option FoundRule → List ℕ
verbose_line t root outer c text None = unmatched_path_line_if_requested c text
verbose_line t root outer c text (Some rule) = verbose_line_of_rule c root text rule (written_pattern_of_rule t outer rule)

-- without: an excluded path
abbrev pub path_line_if_matched : Checking → List ℕ → Option FoundRule → List ℕ
path_line_if_matched c text None = []
path_line_if_matched c text (Some rule) = path_with_terminator c text

-- what is written of a path by the rule that decides
abbrev pub line : Names → List ℕ → OuterRules → Checking → List ℕ → Option FoundRule → List ℕ
line t root outer c text rule =
    if c.quiet then [] else if c.verbose then verbose_line t root outer c text rule else path_line_if_matched c text rule
