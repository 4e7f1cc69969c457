-- What a walk gives over a told tree and a told store.
use Rattle.std.specs.Prelude.{◌≡◌, ℕ, true, false, List, Option, Some, is_some}
use Rattle.gitbase_core.specs.Objects.{ObjectsById}
use Rattle.gitbase_core.specs.Path.{is_empty}
use Rattle.worktree_fs.specs.Tree.{Names, LookupResult, look}
use Rattle.worktree_fs.specs.Paths.{root_joined_with_relative}
use Rattle.worktree_stack.specs.Reading.{TreeAndObjects}
use Rattle.worktree_stack.specs.Setup.{StackSetup}
use Rattle.worktree_stack.specs.Stacked.{StackModel}
use Rattle.dir_classify.specs.declared.classify.Outcome.{Outcome}
use Rattle.dir_classify.specs.Evidence.{PathEvidence}
use Rattle.dir_classify.specs.Excludes.{setup_of_optional_stack, IsStackInStepIfGiven}
use Rattle.dir_classify.specs.Layers.{WalkSetting, evidence_from_setting_and_sources}
use Rattle.dir_walk.specs.Walked.{WalkResult, walk_result_of_child_by_look, walk_result_of_entered_path}

-- what the path of a name in a directory that is entered leads to
abbrev pub look_at_name : WalkSetting → Names → List ℕ → LookupResult
look_at_name given t path = look t (root_joined_with_relative given.root path) false

-- and what that of a directory does that is entered: its last link is followed for the worktree root alone
abbrev pub look_at_entered_directory : WalkSetting → Names → List ℕ → LookupResult
look_at_entered_directory given t path = look t (root_joined_with_relative given.root path) (is_empty path)

-- what a name in a directory gives that is entered, by its path
abbrev pub walk_result_of_name_over_sources : WalkSetting → Option StackSetup → TreeAndObjects → List ℕ → WalkResult
walk_result_of_name_over_sources given made s path = walk_result_of_child_by_look given.options (evidence_from_setting_and_sources given made s) path (look_at_name given s.tree path)

-- what a directory of a class gives that is entered
abbrev pub walk_result_of_directory_over_sources : WalkSetting → Option StackSetup → TreeAndObjects → List ℕ → Outcome → WalkResult
walk_result_of_directory_over_sources given made s d c = walk_result_of_entered_path given.options (evidence_from_setting_and_sources given made s) d c (look_at_entered_directory given s.tree d)

-- where a walk stands: the worktree tells a tree, the store, where there are rules, objects, the rules were made so and are in
-- step with them, and the directory that must not go is this one, if there is one
pub record IsWalkOverSources (given : WalkSetting) (told : Option Names) (holds : Option ObjectsById) (excludes : Option StackModel) (blocked : Option (List ℕ)) (made : Option StackSetup) (s : TreeAndObjects) : Type 0 where
  pub tree : told ≡ Some s.tree
  pub objects : is_some made ≡ true → holds ≡ Some s.objects
  pub made_is : setup_of_optional_stack excludes ≡ made
  pub in_step : IsStackInStepIfGiven s excludes
  pub blocked_is : (evidence_from_setting_and_sources given made s).blocked ≡ blocked

-- all that closing a directory asks of evidence is what was given to the walk
pub record IsEvidenceForClosing (given : WalkSetting) (blocked : Option (List ℕ)) (ev : PathEvidence) : Type 0 where
  pub matched : ev.matched ≡ given.matched
  pub covers : ev.covers ≡ given.covers
  pub blocked_is : ev.blocked ≡ blocked
