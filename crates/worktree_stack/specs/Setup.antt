-- What a stack was made with, and what it holds of each directory that is pushed.
use Rattle.std.specs.Option.{option_or}
use Rattle.std.specs.Prelude.{◌≡◌, ℕ, ◌-◌, ◌||◌, not, Bool, List, [], ◌∷◌, ◌++◌, length, take, slice_get, Option, Some, None, option_map, is_some, codes, if◌then◌else◌}
use Rattle.std.specs.Str.{bytes_eq}
use Rattle.glob_rules.specs.declared.Case.{Case}
use Rattle.glob_rules.specs.declared.ignore.Kind.{Kind}
use Rattle.glob_rules.specs.declared.ignore.RuleGroup.TheVariants.{Overrides, Directory, Globals}
use Rattle.glob_rules.specs.AttributeNames.{names_with_names_added_once}
use Rattle.glob_rules.specs.Attributes.{AttributeList}
use Rattle.glob_rules.specs.Ignore.{RulesList, MatchedRule, rule_of_last_matching_list, numbered_rule_of_last_list}
use Rattle.worktree_stack.specs.declared.attributes_source.Source.{Source as AttributesSource}
use Rattle.worktree_stack.specs.declared.ignore_source.Source.{Source}
use Rattle.worktree_stack.specs.declared.state.Checkout.{Checkout}
use Rattle.worktree_stack.specs.Excludes.{ExcludeDecision, decision_with_group, is_excluding_decision, deciding_match_of_parents}

-- What an exclude state was made with: lists above and below those of directories, the name of a directory's rules file, where
-- such files are read, whether a leading `$` makes a rule precious, and whether an excluded directory keeps all beneath it
-- excluded.
pub record Setup : Type 0 where
  pub overrides : List RulesList
  pub globals : List RulesList
  pub file_name : List ℕ
  pub source : Source
  pub precious : Bool
  pub strict : Bool

-- The path of a rules file, and the id of the blob that it is mapped to.
abbrev pub RulesFileMapping : Type 0
RulesFileMapping = List ℕ × List ℕ

-- What an attribute state was made with: lists below those of directories, the path of the file that speaks of the repository
-- beside its worktree (`info/attributes`), if there is one, and where the `.gitattributes` of directories are read.
pub record AttributesSetup : Type 0 where
  pub globals : List AttributeList
  pub info : Option (List ℕ)
  pub source : AttributesSource

-- What a stack was made with: its root, how letters compare, the blobs of rules files, how it makes the directories on the way to a
-- path, if it does, its attribute state, if it has one, and its exclude state, if it has one.
pub record StackSetup : Type 0 where
  pub root : List ℕ
  pub case : Case
  pub mappings : List RulesFileMapping
  pub checkout : Option Checkout
  pub attributes : Option AttributesSetup
  pub ignore : Option Setup

-- it tells which paths are excluded
abbrev pub has_excludes : StackSetup → Bool
has_excludes made = is_some made.ignore

-- it tells the attributes of paths
abbrev pub has_attributes : StackSetup → Bool
has_attributes made = is_some made.attributes

-- it makes the directories on the way to a path
abbrev pub makes_directories : StackSetup → Bool
makes_directories made = is_some made.checkout

-- its lookups leave every tree as it was
abbrev pub keeps_tree_in_lookups : StackSetup → Bool
keeps_tree_in_lookups made = has_excludes made || not (makes_directories made)

-- the blob that a path is mapped to
abbrev pub blob_id_mapped_to_path : List RulesFileMapping → List ℕ → Option (List ℕ)
blob_id_mapped_to_path [] path = None
blob_id_mapped_to_path (mapping ∷ more) path = if bytes_eq mapping.0 path then Some mapping.1 else blob_id_mapped_to_path more path

-- `.gitignore`, where no name was given
abbrev pub rules_file_name_or_gitignore : Option (List ℕ) → List ℕ
rules_file_name_or_gitignore None = codes ".gitignore"
rules_file_name_or_gitignore (Some name) = name

-- the file of a directory that speaks of attributes
abbrev pub gitattributes_file_name : List ℕ
gitattributes_file_name = codes ".gitattributes"

-- With an attribute state, the names of attributes that were seen, and the lists of each directory that is pushed, the root first.
pub record HeldAttributeLists : Type 0 where
  pub setup : AttributesSetup
  pub names : List (List ℕ)
  pub lists : List AttributeList

-- what an attribute state was made with, if there is one
abbrev pub setup_of_held_attributes : Option HeldAttributeLists → Option AttributesSetup
setup_of_held_attributes held = option_map (λ (h : HeldAttributeLists). h.setup) held

-- with one list more, in which these names are seen
abbrev pub push_list : AttributeList → List (List ℕ) → Option HeldAttributeLists → Option HeldAttributeLists
push_list list seen held = option_map (λ (h : HeldAttributeLists). record h { names = names_with_names_added_once h.names seen; lists = h.lists ++ list ∷ [] }) held

-- all lists but the highest
abbrev pub lists_without_last : List AttributeList → List AttributeList
lists_without_last lists = take (length lists - 1) lists

-- all lists but that of the info file, if there is one and it stands above those of this directory, which it does at the root
abbrev pub lists_without_info_file : Option (List ℕ) → List ℕ → List AttributeList → List AttributeList
lists_without_info_file None d lists = lists
lists_without_info_file (Some path) [] lists = lists_without_last lists
lists_without_info_file (Some path) (b ∷ bs) lists = lists

-- with the highest list less; the names stay seen
abbrev pub held_without_highest_list : Option HeldAttributeLists → Option HeldAttributeLists
held_without_highest_list held = option_map (λ (h : HeldAttributeLists). record h { lists = lists_without_last h.lists }) held

-- with the lists of this directory less, which are the highest
abbrev pub held_without_lists_of_directory : List ℕ → Option HeldAttributeLists → Option HeldAttributeLists
held_without_lists_of_directory d held = option_map (λ (h : HeldAttributeLists). record h { lists = lists_without_last (lists_without_info_file h.setup.info d h.lists) }) held

-- with no directory pushed
abbrev pub held_attributes_without_lists : Option HeldAttributeLists → Option HeldAttributeLists
held_attributes_without_lists held = option_map (λ (h : HeldAttributeLists). record h { lists = [] }) held

-- the lists of the directories that are pushed
abbrev pub held_attribute_lists : Option HeldAttributeLists → List AttributeList
held_attribute_lists None = []
held_attribute_lists (Some held) = held.lists

-- So many lists were pushed upon some.
pub record HasListsAppended (count : ℕ) (before after : List AttributeList) : Type 0 where
  pub more : List AttributeList
  pub longer : after ≡ before ++ more
  pub many : length more ≡ count

-- the names that were seen
abbrev pub seen_attribute_names : Option HeldAttributeLists → List (List ℕ)
seen_attribute_names None = []
seen_attribute_names (Some held) = held.names

-- the lists below those of directories
abbrev pub global_attribute_lists : Option AttributesSetup → List AttributeList
global_attribute_lists None = []
global_attribute_lists (Some setup) = setup.globals

-- the lists that speak of a path beneath the directories that are pushed, the lowest first
abbrev pub global_and_held_lists : Option HeldAttributeLists → List AttributeList
global_and_held_lists held = global_attribute_lists (setup_of_held_attributes held) ++ held_attribute_lists held

-- With an exclude state, for each directory that is pushed, the root first: its rules, and its own match.
pub record HeldIgnoreRules : Type 0 where
  pub setup : Setup
  pub lists : List RulesList
  pub matches : List (Option ExcludeDecision)

-- what an exclude state was made with, if there is one
abbrev pub setup_of_held_ignore_rules : Option HeldIgnoreRules → Option Setup
setup_of_held_ignore_rules held = option_map (λ (h : HeldIgnoreRules). h.setup) held

-- with one more directory
abbrev pub held_rules_with_directory_pushed : RulesList → Option ExcludeDecision → Option HeldIgnoreRules → Option HeldIgnoreRules
held_rules_with_directory_pushed list matched held = option_map (λ (h : HeldIgnoreRules). record h { lists = h.lists ++ list ∷ []; matches = h.matches ++ matched ∷ [] }) held

-- with one directory less
abbrev pub held_rules_with_directory_popped : Option HeldIgnoreRules → Option HeldIgnoreRules
held_rules_with_directory_popped held = option_map (λ (h : HeldIgnoreRules). record h { lists = take (length h.lists - 1) h.lists; matches = take (length h.matches - 1) h.matches }) held

-- with no directory pushed
abbrev pub held_rules_without_directories : Option HeldIgnoreRules → Option HeldIgnoreRules
held_rules_without_directories held = option_map (λ (h : HeldIgnoreRules). record h { lists = []; matches = [] }) held

-- the rule of the list with this number; the root's is the first
abbrev pub decision_by_list_number : Option (ℕ × MatchedRule) → Option ExcludeDecision
decision_by_list_number place = option_map (λ (p : ℕ × MatchedRule). record { group = Directory p.0; rule = p.1 }) place

-- the own match of a path: in the overrides, else in the lists of pushed directories, else in the globals
abbrev pub own_match_among_held_rules : HeldIgnoreRules → List ℕ → Option Bool → Case → Option ExcludeDecision
own_match_among_held_rules held path is_dir case =
    option_or (decision_with_group Overrides (rule_of_last_matching_list held.setup.overrides path is_dir case))
    (option_or (decision_by_list_number (numbered_rule_of_last_list held.lists path is_dir case))
    (decision_with_group Globals (rule_of_last_matching_list held.setup.globals path is_dir case)))

-- the decision that is there, where one was found
abbrev pub flatten_decision : Option (Option ExcludeDecision) → Option ExcludeDecision
flatten_decision None = None
flatten_decision (Some decision) = decision

-- the own match of the pushed directory of this number
abbrev pub own_match_of_numbered_directory : List (Option ExcludeDecision) → Option ℕ → Option ExcludeDecision
own_match_of_numbered_directory matches None = None
own_match_of_numbered_directory matches (Some number) = flatten_decision (slice_get matches number)

-- the own match of a pushed directory that decides about a path beneath all of them
abbrev pub deciding_match_of_held_parents : HeldIgnoreRules → Option ExcludeDecision
deciding_match_of_held_parents held = deciding_match_of_parents held.setup.strict held.matches

-- what decides about a path beneath the pushed directories; the empty path lies beneath none
abbrev pub deciding_match_of_path : HeldIgnoreRules → List ℕ → Option Bool → Case → Option ExcludeDecision
deciding_match_of_path held [] is_dir case = own_match_among_held_rules (record held { lists = [] }) [] is_dir case
deciding_match_of_path held (b ∷ bytes) is_dir case =
    if is_excluding_decision (deciding_match_of_held_parents held) then deciding_match_of_held_parents held
    else option_or (own_match_among_held_rules held (b ∷ bytes) is_dir case) (deciding_match_of_held_parents held)

-- the same where there are rules
abbrev pub own_match_if_rules_held : Option HeldIgnoreRules → List ℕ → Option Bool → Case → Option ExcludeDecision
own_match_if_rules_held None path is_dir case = None
own_match_if_rules_held (Some held) path is_dir case = own_match_among_held_rules held path is_dir case

-- and what decides about a path
abbrev pub deciding_match_if_rules_held : Option HeldIgnoreRules → List ℕ → Option Bool → Case → Option ExcludeDecision
deciding_match_if_rules_held None path is_dir case = None
deciding_match_if_rules_held (Some held) path is_dir case = deciding_match_of_path held path is_dir case

-- what becomes of a path with this rule: none where it is not excluded
abbrev pub excluded_kind : Option MatchedRule → Option Kind
excluded_kind None = None
excluded_kind (Some rule) = if rule.pattern.is_negative then None else Some rule.kind
