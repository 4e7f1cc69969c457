-- What stands on the way from a root to a path below it.
use Rattle.std.specs.Prelude.{◌≡◌, ◌⊎◌, ℕ, List, [], ◌∷◌, Bool, false, Option, Some, None, Result, Ok, Err, if◌then◌else◌}
use Rattle.std.specs.List.{AllByRecursion}
use Rattle.gitbase_core.specs.Path.{components, path_joined_with_slash}
use Rattle.worktree_fs.specs.Answers.{kind_of_lookup}
use Rattle.worktree_fs.specs.Tree.{Names, look}
use Rattle.worktree_fs.specs.declared.answers.NodeKind.{NodeKind}
use Rattle.worktree_fs.specs.declared.answers.NodeKind.TheVariants as nodes
use Rattle.module_plan.specs.declared.error.ModuleError.{ModuleError}
use Rattle.module_plan.specs.declared.error.ModuleError.TheVariants as errors
use Rattle.module_plan.specs.declared.step.Why.{Why}
use Rattle.module_plan.specs.declared.step.Why.TheVariants as whys
use Rattle.module_plan.specs.declared.wanted.Wanted.{Wanted}
use Rattle.worktree_report.specs.Looks.{IsLookedAtOnWay, is_directory_kind}

-- a directory bars no way, and nor does what is not there
abbrev pub obstacle_by_node_kind : Option NodeKind → Option Why
obstacle_by_node_kind None = None
obstacle_by_node_kind (Some nodes.Directory) = None
obstacle_by_node_kind (Some nodes.Symlink) = Some whys.Link
obstacle_by_node_kind (Some nodes.File) = Some whys.NotADirectory
obstacle_by_node_kind (Some nodes.Untrackable) = Some whys.NotADirectory

-- by what stands at a name, and by what bars the way behind it: behind what is no directory there is nothing
abbrev pub obstacle_here_or_behind : Option NodeKind → Option Why → Option Why
obstacle_here_or_behind kind behind = if is_directory_kind kind then behind else obstacle_by_node_kind kind

-- The first node that is there and is no directory, going down from a directory along some names; a link counts as one
-- and is not followed. Below a name that is not there nothing is.
abbrev pub first_obstacle_on_way : Names → List ℕ → List (List ℕ) → Option Why
first_obstacle_on_way t directory [] = None
first_obstacle_on_way t directory (name ∷ names) =
    obstacle_here_or_behind (kind_of_lookup (look t (path_joined_with_slash directory name) false)) (first_obstacle_on_way t (path_joined_with_slash directory name) names)

-- nothing, a link, or another node
abbrev pub IsNoneLinkOrNonDirectory : Option Why → Type 0
IsNoneLinkOrNonDirectory None = Unit {0}
IsNoneLinkOrNonDirectory (Some why) = (why ≡ whys.Link) ⊎ (why ≡ whys.NotADirectory)

-- nodes that were looked at, by their whole paths, are of these kinds, where the worktree tells
abbrev pub AreRecordedKindsRight : Option Names → List (List ℕ × Option NodeKind) → Type 0
AreRecordedKindsRight told seen =
    (t : Names) → told ≡ Some t → AllByRecursion (λ (one : List ℕ × Option NodeKind). one.1 ≡ kind_of_lookup (look t one.0 false)) seen

-- the worktree failed at one of some paths
abbrev pub FailsLookingAtPath : (List ℕ → Type 0) → Type 0 → ModuleError → Type 0
FailsLookingAtPath IsOne Failed (errors.ActiveSpec value) = ⊥
FailsLookingAtPath IsOne Failed (errors.Fault path) = Failed × IsOne path
FailsLookingAtPath IsOne Failed errors.OutOfMemory = Unit {0}

-- it holds, unless the worktree is said to have failed
abbrev pub HoldsUnlessFault : {T : Type 0} → Result T ModuleError → Type 0 → Type 0
HoldsUnlessFault (Ok answer) Holds = Holds
HoldsUnlessFault (Err (errors.ActiveSpec value)) Holds = Holds
HoldsUnlessFault (Err (errors.Fault path)) Holds = Unit {0}
HoldsUnlessFault (Err errors.OutOfMemory) Holds = Holds

-- a path that is looked at for a step that a submodule asks for, where no earlier one asks for one at its path
abbrev pub IsLookedAtUnlessTaken : Option Names → List ℕ → Wanted → Bool → List ℕ → Type 0
IsLookedAtUnlessTaken told root w is_taken path = (is_taken ≡ false) × IsLookedAtOnWay told root (components w.path) path
