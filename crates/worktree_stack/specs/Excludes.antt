-- Which rule says whether a path is excluded, with each ancestor looked at afresh.
--
-- Rules come from the overrides, from the rules files of the directories above a path, the nearest first, and from the
-- globals: the first of these that has a match gives the path its own match. A directory above the path that has a match
-- of its own comes before that: the nearest such one. If its rule is positive the path is excluded with it, whatever the
-- rules say of the path itself. If it is negative, the path's own match decides, and where that is none, the negative rule.
-- With strict parents a negative rule of a directory decides nothing beneath it, and of several directories that are excluded
-- the one nearest to the root decides.
--
-- Paths are lists of components here, and directories too; the root is the empty list.
use Rattle.std.specs.Prelude.{ℕ, Bool, true, false, not, List, [], ◌∷◌, length, reverse, map, Option, Some, None, option_map, if◌then◌else◌}
use Rattle.std.specs.Option.{option_or}
use Rattle.glob_rules.specs.declared.Case.{Case}
use Rattle.glob_rules.specs.declared.ignore.RuleGroup.{RuleGroup}
use Rattle.glob_rules.specs.declared.ignore.RuleGroup.TheVariants.{Overrides, Directory, Globals}
use Rattle.glob_rules.specs.declared.ignore.Origin.{Origin}
use Rattle.glob_rules.specs.Ignore.{RulesList, MatchedRule, rule_matching_path_in_list, rule_of_last_matching_list}
use Rattle.worktree_fs.specs.Paths.{slash_joined_components, all_prefixes_shortest_first, all_but_last}

-- Where rules come from: lists above those of directories, the list of each directory, lists below, how letters compare, and
-- whether an excluded directory keeps all beneath it excluded.
pub record ExcludeRulebook : Type 0 where
  pub overrides : List RulesList
  pub of_directory : List (List ℕ) → RulesList
  pub globals : List RulesList
  pub case : Case
  pub strict : Bool

-- What decides about a path: a rule, and the group that it comes from.
pub record ExcludeDecision : Type 0 where
  pub group : RuleGroup
  pub rule : MatchedRule

-- a rule of a list as a decision, with the group of that list
abbrev pub decision_with_group : RuleGroup → Option MatchedRule → Option ExcludeDecision
decision_with_group group hit = option_map (λ (rule : MatchedRule). record { group = group; rule = rule }) hit

-- the directories above a path, the root first; none is above the root
abbrev pub proper_ancestor_directories : List (List ℕ) → List (List (List ℕ))
proper_ancestor_directories [] = []
proper_ancestor_directories (name ∷ names) = all_prefixes_shortest_first (all_but_last (name ∷ names))

-- the rule excludes what it decides about
abbrev pub is_excluding_decision : Option ExcludeDecision → Bool
is_excluding_decision None = false
is_excluding_decision (Some decision) = not decision.rule.pattern.is_negative

-- the match of a path in the list of the first of these directories that has one
abbrev pub first_match_in_directories : ExcludeRulebook → List ℕ → Option Bool → List (List (List ℕ)) → Option ExcludeDecision
first_match_in_directories book path is_dir [] = None
first_match_in_directories book path is_dir (directory ∷ rest) =
    option_or (decision_with_group (Directory (length directory)) (rule_matching_path_in_list path is_dir book.case (book.of_directory directory)))
    (first_match_in_directories book path is_dir rest)

-- the own match of a path: in the overrides, else in the lists of its proper ancestors, the nearest first, else in the globals
unfoldable pub own : ExcludeRulebook → List (List ℕ) → Option Bool → Option ExcludeDecision
own book names is_dir =
    let path = slash_joined_components names in
    option_or (decision_with_group Overrides (rule_of_last_matching_list book.overrides path is_dir book.case))
    (option_or (first_match_in_directories book path is_dir (reverse (proper_ancestor_directories names)))
    (decision_with_group Globals (rule_of_last_matching_list book.globals path is_dir book.case)))

-- the own match of a directory
abbrev pub own_match_of_directory : ExcludeRulebook → List (List ℕ) → Option ExcludeDecision
own_match_of_directory book names = own book names (Some true)

-- the first of some decisions that is one
abbrev pub first_present_decision : List (Option ExcludeDecision) → Option ExcludeDecision
first_present_decision [] = None
first_present_decision (decision ∷ rest) = option_or decision (first_present_decision rest)

-- the first of some decisions that excludes
abbrev pub first_excluding_decision : List (Option ExcludeDecision) → Option ExcludeDecision
first_excluding_decision [] = None
first_excluding_decision (decision ∷ rest) = if is_excluding_decision decision then decision else first_excluding_decision rest

-- which of the own matches of some directories, the root first, decides about a path beneath them: that of the nearest one, or
-- with strict parents the excluding one that is nearest to the root
abbrev pub deciding_match_of_parents : Bool → List (Option ExcludeDecision) → Option ExcludeDecision
deciding_match_of_parents strict matches = if strict then first_excluding_decision matches else first_present_decision (reverse matches)

-- the own match of a directory above a path that decides about the path
unfoldable pub above : ExcludeRulebook → List (List ℕ) → Option ExcludeDecision
above book names = deciding_match_of_parents book.strict (map (own_match_of_directory book) (proper_ancestor_directories names))

-- what decides whether a path is excluded
unfoldable pub exclude : ExcludeRulebook → List (List ℕ) → Option Bool → Option ExcludeDecision
exclude book names is_dir = if is_excluding_decision (above book names) then above book names else option_or (own book names is_dir) (above book names)

-- the rule of a decision
abbrev pub rule_of_decision : Option ExcludeDecision → Option MatchedRule
rule_of_decision decision = option_map (λ (d : ExcludeDecision). d.rule) decision

-- where the rule of a decision comes from
abbrev pub origin_of_decision : Option ExcludeDecision → Option Origin
origin_of_decision decision = option_map (λ (d : ExcludeDecision). record { group = d.group; line = d.rule.line; negative = d.rule.pattern.is_negative }) decision
