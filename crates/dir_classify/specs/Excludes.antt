-- The ignore rules that a class may ask.
use Rattle.std.specs.Prelude.{◌≡◌, ℕ, Bool, true, false, not, List, Option, Some, None, option_map, option_and_then, is_some}
use Rattle.gitbase_core.specs.Objects.{ObjectsById}
use Rattle.worktree_fs.specs.Paths.{is_nil}
use Rattle.worktree_fs.specs.Tree.{Names}
use Rattle.worktree_stack.specs.Lookups.{stack_setup_reads_worktree}
use Rattle.worktree_stack.specs.Setup.{StackSetup, has_attributes, has_excludes}
use Rattle.worktree_stack.specs.Reading.{TreeAndObjects}
use Rattle.worktree_stack.specs.Stacked.{StackModel, setup_of_stack, IsInStepWithTree}

-- what they were made with, where they are given
abbrev pub setup_of_optional_stack : Option StackModel → Option StackSetup
setup_of_optional_stack excludes = option_map setup_of_stack excludes

-- they tell which paths are excluded, where they are given
abbrev pub is_absent_or_has_excludes : Option StackSetup → Bool
is_absent_or_has_excludes None = true
is_absent_or_has_excludes (Some made) = has_excludes made

-- they tell the attributes of paths too, where they are given
abbrev pub has_attributes_if_given : Option StackSetup → Bool
has_attributes_if_given None = false
has_attributes_if_given (Some made) = has_attributes made

-- they are given, and some rules file is mapped to a blob
abbrev pub maps_rules_files_to_blobs : Option StackSetup → Bool
maps_rules_files_to_blobs None = false
maps_rules_files_to_blobs (Some made) = not (is_nil made.mappings)

-- they are given, and a lookup may read rules files from the worktree
abbrev pub may_read_worktree_rules : Option StackSetup → Bool
may_read_worktree_rules None = false
may_read_worktree_rules (Some made) = stack_setup_reads_worktree made

-- the directories that are pushed, where rules are given
abbrev pub directories_pushed_in_stack : Option StackModel → Option (List (List ℕ))
directories_pushed_in_stack excludes = option_and_then (λ (s : StackModel). s.at) excludes

-- how often they were asked about a path, as they count it
abbrev pub lookup_count_of_stack : Option StackModel → ℕ
lookup_count_of_stack None = 0
lookup_count_of_stack (Some s) = s.statistics.platforms

-- they are in step with a tree and a store of objects, where they are given
abbrev pub IsStackInStepIfGiven : TreeAndObjects → Option StackModel → Type 0
IsStackInStepIfGiven s None = Unit {0}
IsStackInStepIfGiven s (Some stack) = IsInStepWithTree s stack

-- a worktree tells this tree, and where rules are given a store tells these objects
pub record TellsTreeAndObjects (told : Option Names) (holds : Option ObjectsById) (made : Option StackSetup) (s : TreeAndObjects) : Type 0 where
  pub tree_is : told ≡ Some s.tree
  pub objects_are : is_some made ≡ true → holds ≡ Some s.objects
