-- What a stack holds, and when it is in step with a tree and a store.
use Rattle.std.specs.Prelude.{◌≡◌, ◌+◌, ℕ, Bool, true, List, [], ◌∷◌, ◌++◌, length, Option, Some, None, map}
use Rattle.std.specs.List.{list_all, flat_map}
use Rattle.glob_rules.specs.declared.Case.{Case}
use Rattle.glob_rules.specs.Ignore.{RulesList}
use Rattle.worktree_fs.specs.Paths.{all_prefixes_shortest_first, slash_joined_components}
use Rattle.worktree_stack.specs.declared.state.Checkout.{Checkout}
use Rattle.worktree_stack.specs.declared.state.State.{State}
use Rattle.worktree_stack.specs.declared.state.State.TheVariants.{CreateDirectoryAndAttributesStack, AttributesAndIgnoreStack, AttributesStack, IgnoreStack}
use Rattle.worktree_stack.specs.declared.statistics.Statistics.{Statistics}
use Rattle.worktree_stack.specs.Setup.{StackSetup, RulesFileMapping, AttributesSetup, HeldAttributeLists, HeldIgnoreRules, setup_of_held_attributes, held_attribute_lists, setup_of_held_ignore_rules}
use Rattle.worktree_stack.specs.Excludes.{ExcludeDecision, own_match_of_directory}
use Rattle.worktree_stack.specs.Reading.{TreeAndObjects, rules_texts_of_directory, rulebook_of_stack_setup, is_read_without_refusal, attribute_lists_of_directory}

-- A stack: its root, how letters compare, the blobs of rules files, how it makes directories, if it does, what its attribute state
-- holds, if it has one, and what its exclude state holds, if it has one, the directories that are pushed (none, or a directory and all above it), the path that was made
-- current last and whether it is a directory, whether the last lookup was answered, and what was counted.
pub record StackModel : Type 0 where
  pub root : List ℕ
  pub case : Case
  pub mappings : List RulesFileMapping
  pub checkout : Option Checkout
  pub attributes : Option HeldAttributeLists
  pub ignore : Option HeldIgnoreRules
  pub at : Option (List (List ℕ))
  pub current : List (List ℕ)
  pub is_dir : Option Bool
  pub is_answered : Bool
  pub statistics : Statistics

-- the exclude state
abbrev pub held_ignore_rules_of_state : State → Option HeldIgnoreRules
held_ignore_rules_of_state (CreateDirectoryAndAttributesStack unlinks validate held) = None
held_ignore_rules_of_state (AttributesAndIgnoreStack held ignore) = Some ignore
held_ignore_rules_of_state (AttributesStack held) = None
held_ignore_rules_of_state (IgnoreStack held) = Some held

-- the attribute state
abbrev pub held_attributes_of_state : State → Option HeldAttributeLists
held_attributes_of_state (CreateDirectoryAndAttributesStack unlinks validate held) = Some held
held_attributes_of_state (AttributesAndIgnoreStack held ignore) = Some held
held_attributes_of_state (AttributesStack held) = Some held
held_attributes_of_state (IgnoreStack held) = None

-- how directories are made
abbrev pub checkout_of_state : State → Option Checkout
checkout_of_state (CreateDirectoryAndAttributesStack unlinks validate held) = Some (record { unlink_on_collision = unlinks; validate = validate })
checkout_of_state (AttributesAndIgnoreStack held ignore) = None
checkout_of_state (AttributesStack held) = None
checkout_of_state (IgnoreStack held) = None

-- what a stack was made with
abbrev pub setup_of_stack : StackModel → StackSetup
setup_of_stack s = record { root = s.root; case = s.case; mappings = s.mappings; checkout = s.checkout; attributes = setup_of_held_attributes s.attributes; ignore = setup_of_held_ignore_rules s.ignore }

-- the directories that are pushed, the root first
abbrev pub pushed_directories : Option (List (List ℕ)) → List (List (List ℕ))
pushed_directories None = []
pushed_directories (Some names) = all_prefixes_shortest_first names

-- rules and matches are those that a tree and a store have for some directories, the root first
pub record AreRulesAndMatchesOfTree (made : StackSetup) (s : TreeAndObjects) (directories : List (List (List ℕ))) (lists : List RulesList) (matches : List (Option ExcludeDecision)) : Type 0 where
  pub lists_are : lists ≡ map (rulebook_of_stack_setup made s).of_directory directories
  pub matches_are : matches ≡ map (own_match_of_directory (rulebook_of_stack_setup made s)) directories

-- an exclude state, if there is one, holds what a tree and a store have for some directories
abbrev pub HoldsIgnoreRulesOfTree : StackSetup → TreeAndObjects → List (List (List ℕ)) → Option HeldIgnoreRules → Type 0
HoldsIgnoreRulesOfTree made s directories None = Unit {0}
HoldsIgnoreRulesOfTree made s directories (Some held) = AreRulesAndMatchesOfTree made s directories held.lists held.matches

-- an attribute state, if there is one, holds the lists that a tree and a store have for some directories, the root first: the list of
-- each, and above that of the root the list of the info file
abbrev pub HoldsAttributeListsOfTree : StackSetup → TreeAndObjects → List (List (List ℕ)) → Option HeldAttributeLists → Type 0
HoldsAttributeListsOfTree made s directories held = held_attribute_lists held ≡ flat_map (attribute_lists_of_directory made s) directories

-- No reading of these directories is refused, and what is held is what a tree and a store have for them.
pub record HoldsRulesOfTree (made : StackSetup) (s : TreeAndObjects) (directories : List (List (List ℕ))) (attributes : Option HeldAttributeLists) (ignore : Option HeldIgnoreRules) : Type 0 where
  pub are_read : list_all (λ names. is_read_without_refusal (rules_texts_of_directory made s (slash_joined_components names))) directories ≡ true
  pub lists : HoldsAttributeListsOfTree made s directories attributes
  pub rules : HoldsIgnoreRulesOfTree made s directories ignore

-- a stack is in step with a tree and a store where it holds what they have for the directories that are pushed. Where the root is not
-- pushed no list is held, and the info file is read with the root.
abbrev pub IsInStepWithTree : TreeAndObjects → StackModel → Type 0
IsInStepWithTree s stack = HoldsRulesOfTree (setup_of_stack stack) s (pushed_directories stack.at) stack.attributes stack.ignore

-- A directory is pushed whose readings are done: its lists are those that a tree and a store have for it.
pub record AppendsAttributeListsOfTree (made : StackSetup) (s : TreeAndObjects) (names : List (List ℕ)) (before after : Option HeldAttributeLists) : Type 0 where
  pub is_read : is_read_without_refusal (rules_texts_of_directory made s (slash_joined_components names)) ≡ true
  pub lists : held_attribute_lists after ≡ held_attribute_lists before ++ attribute_lists_of_directory made s names

-- how many lists stand for the info file at a directory: one at the root, if there is such a file
abbrev pub number_of_info_lists : Option (List ℕ) → List ℕ → ℕ
number_of_info_lists None d = 0
number_of_info_lists (Some path) [] = 1
number_of_info_lists (Some path) (b ∷ bs) = 0

-- by an attribute state, if there is one
abbrev pub number_of_info_lists_of_setup : Option AttributesSetup → List ℕ → ℕ
number_of_info_lists_of_setup None d = 0
number_of_info_lists_of_setup (Some setup) d = number_of_info_lists setup.info d

-- how many lists an attribute state, if there is one, has of a directory's own
abbrev pub number_of_gitattributes_lists : Option AttributesSetup → ℕ
number_of_gitattributes_lists None = 0
number_of_gitattributes_lists (Some setup) = 1

-- how many lists it holds for a directory
abbrev pub number_of_lists_of_directory : Option AttributesSetup → List ℕ → ℕ
number_of_lists_of_directory setup d = number_of_gitattributes_lists setup + number_of_info_lists_of_setup setup d

-- and for some directories
abbrev pub number_of_lists_of_directories : Option AttributesSetup → List (List (List ℕ)) → ℕ
number_of_lists_of_directories setup [] = 0
number_of_lists_of_directories setup (names ∷ directories) = number_of_lists_of_directory setup (slash_joined_components names) + number_of_lists_of_directories setup directories

-- an attribute state, if there is one, holds as many lists as there are for some directories, whatever they are
abbrev pub HasListCountOfDirectories : List (List (List ℕ)) → Option HeldAttributeLists → Type 0
HasListCountOfDirectories directories held = length (held_attribute_lists held) ≡ number_of_lists_of_directories (setup_of_held_attributes held) directories

-- an exclude state, if there is one, holds as many lists and matches as there are directories, whatever they are
abbrev pub HasRulesCountOfDirectories : List (List (List ℕ)) → Option HeldIgnoreRules → Type 0
HasRulesCountOfDirectories directories None = Unit {0}
HasRulesCountOfDirectories directories (Some held) = (length held.lists ≡ length directories) × (length held.matches ≡ length directories)

-- both of this
abbrev pub CountsMatchDirectories : List (List (List ℕ)) → Option HeldAttributeLists → Option HeldIgnoreRules → Type 0
CountsMatchDirectories directories attributes ignore = HasListCountOfDirectories directories attributes × HasRulesCountOfDirectories directories ignore

-- a stack is level where it holds a list and a match for each directory that is pushed, and none beside them
abbrev pub HasCountsOfPushedDirectories : StackModel → Type 0
HasCountsOfPushedDirectories stack = CountsMatchDirectories (pushed_directories stack.at) stack.attributes stack.ignore
