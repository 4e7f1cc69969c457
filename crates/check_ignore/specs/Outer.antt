-- Ignore rules, and what a stack of them is made with: gitignore(5).
use Rattle.std.specs.Prelude.{ℕ, List, [], ◌∷◌, ◌++◌, Bool, true, false, codes, Option, Some, None, unwrap_or, if◌then◌else◌}
use Rattle.git_setup.specs.BelowTop.{exempt_top_from_star_rules}
use Rattle.gitbase_core.specs.declared.entry.IndexEntry.{IndexEntry}
use Rattle.glob_rules.specs.Ignore.{MatchedRule, RulesList, entries, rule_of_last_matching_list}
use Rattle.worktree_stack.specs.Mappings.{case_by_ignore_case, rules_file_mappings_of_index}
use Rattle.worktree_stack.specs.Setup.{Setup, StackSetup}
use Rattle.worktree_stack.specs.declared.ignore_source.Source.TheVariants.{WorktreeThenIdMappingIfNotSkipped}
use Rattle.check_ignore.specs.declared.options.NamedRules.{NamedRules}
use Rattle.check_ignore.specs.declared.options.OuterRules.{OuterRules}
use Rattle.check_ignore.specs.declared.found_rule.RulePlace.{RulePlace}

-- the rules of a file outside the work tree: they are for every path beneath the top
abbrev pub list_of : NamedRules → RulesList
list_of given = record { entries = entries false (exempt_top_from_star_rules given.bytes); source = Some given.name; base = [] }

-- one list of rules, or none where there is no such file
abbrev pub lists_of_optional_rules : Option NamedRules → List RulesList
lists_of_optional_rules None = []
lists_of_optional_rules (Some given) = list_of given ∷ []

-- the lists outside the work tree; a later one wins, so `info/exclude` wins over the user's file
abbrev pub search_of_user_and_repository_rules : OuterRules → List RulesList
search_of_user_and_repository_rules outer = lists_of_optional_rules outer.user ++ lists_of_optional_rules outer.repository

-- where the list of a rule was read
abbrev pub source_or_empty : MatchedRule → List ℕ
source_or_empty hit = unwrap_or hit.source []

-- its file and its line
abbrev pub file_and_line_of_hit : MatchedRule → RulePlace
file_and_line_of_hit hit = record { file = source_or_empty hit; line = hit.line }

-- where a rule stands that excludes
abbrev pub place_of_match_if_excluding : Option MatchedRule → Option RulePlace
place_of_match_if_excluding None = None
place_of_match_if_excluding (Some hit) = if hit.pattern.is_negative then None else Some (file_and_line_of_hit hit)

-- where the rule outside the work tree stands that excludes a path without a name
abbrev pub place_of_outer_rule_excluding_top : OuterRules → Bool → Option RulePlace
place_of_outer_rule_excluding_top outer ignore_case = place_of_match_if_excluding (rule_of_last_matching_list (search_of_user_and_repository_rules outer) [] (Some true) (case_by_ignore_case ignore_case))

-- the rules of each directory's `.gitignore`, and below them those of the repository, and then those of the user; an excluded directory
-- keeps all beneath it excluded
abbrev pub ignore_setup_of_outer_rules : OuterRules → Setup
ignore_setup_of_outer_rules outer =
    record {
      overrides = [];
      globals = search_of_user_and_repository_rules outer;
      file_name = codes ".gitignore";
      source = WorktreeThenIdMappingIfNotSkipped;
      precious = false;
      strict = true;
    }

-- what the rules of the work tree at `root` are made with; skipped rules files are mapped to the blobs that the index has for them
abbrev pub stack_setup_of_work_tree : List ℕ → List IndexEntry → OuterRules → Bool → StackSetup
stack_setup_of_work_tree root index outer ignore_case =
    record {
      root = root;
      case = case_by_ignore_case ignore_case;
      mappings = rules_file_mappings_of_index (case_by_ignore_case ignore_case) None (Some (ignore_setup_of_outer_rules outer)) index;
      checkout = None;
      attributes = None;
      ignore = Some (ignore_setup_of_outer_rules outer);
    }
