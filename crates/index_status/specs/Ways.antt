-- The way from a root to a path below it.
use Rattle.std.specs.Prelude.{◌≡◌, ◌⊎◌, ℕ, List, [], ◌∷◌, Bool, true, false, bytes_eq, Option, Some, None, Result, Ok, Err, if◌then◌else◌}
use Rattle.gitbase_core.specs.Path.{path_joined_with_slash}
use Rattle.worktree_fs.specs.Answers.{kind_of_lookup}
use Rattle.worktree_fs.specs.Tree.{Names, look}
use Rattle.index_status.specs.declared.error.StatesError.{StatesError}
use Rattle.index_status.specs.declared.error.StatesError.TheVariants as errors
use Rattle.index_status.specs.declared.way.Way.{Way}
use Rattle.index_status.specs.declared.way.Way.TheVariants as ways
use Rattle.worktree_report.specs.Looks.{IsDirectoryInToldTree, is_directory_kind}

-- The whole path to which some names lead from a directory, if each of them but the last is that of a directory.
abbrev pub path_through_directories : Names → List ℕ → List (List ℕ) → Option (List ℕ)
path_through_directories t directory [] = Some directory
path_through_directories t directory (name ∷ []) = Some (path_joined_with_slash directory name)
path_through_directories t directory (name ∷ next ∷ names) =
    if is_directory_kind (kind_of_lookup (look t (path_joined_with_slash directory name) false)) then path_through_directories t (path_joined_with_slash directory name) (next ∷ names) else None

-- Each name but the last of those on the way from a directory leads to one, where the worktree tells; or this does so up to a name
-- that leads to the node that bars the way.
abbrev pub AreDirectoriesOrBarred : Option Names → Option (List ℕ) → List ℕ → List (List ℕ) → Type 0
AreDirectoriesOrBarred told barred directory [] = Unit {0}
AreDirectoriesOrBarred told barred directory (name ∷ []) = Unit {0}
AreDirectoriesOrBarred told barred directory (name ∷ next ∷ names) =
    (barred ≡ Some (path_joined_with_slash directory name)) ⊎ (IsDirectoryInToldTree told (path_joined_with_slash directory name) × AreDirectoriesOrBarred told barred (path_joined_with_slash directory name) (next ∷ names))

-- the node that bars a way is no directory, where the worktree tells
abbrev pub BarIsNoDirectory : Option Names → Option (List ℕ) → Type 0
BarIsNoDirectory told None = Unit {0}
BarIsNoDirectory told (Some bar) = (t : Names) → told ≡ Some t → is_directory_kind (kind_of_lookup (look t bar false)) ≡ false

-- what is known of the way to a path: what bars it is no directory, and directories lead there, or to the path
pub record KnowsWayToPath (told : Option Names) (root : List ℕ) (barred : Option (List ℕ)) (names : List (List ℕ)) : Type 0 where
  pub bar : BarIsNoDirectory told barred
  pub led : AreDirectoriesOrBarred told barred root names

-- a whole path is that of the node that bars a way
abbrev pub is_barring_node : Option (List ℕ) → List ℕ → Bool
is_barring_node None full = false
is_barring_node (Some bar) full = bytes_eq bar full

-- where a way leads, if it is open
abbrev pub full_path_if_open : Way → Option (List ℕ)
full_path_if_open (ways.Open full) = Some full
full_path_if_open (ways.Barred full) = None

-- what bars a way, if it is not
abbrev pub full_path_of_bar : Way → Option (List ℕ)
full_path_of_bar (ways.Open full) = None
full_path_of_bar (ways.Barred full) = Some full

-- there are names
abbrev pub has_any_name : List (List ℕ) → Bool
has_any_name [] = false
has_any_name (name ∷ names) = true

-- what is left of some names behind a name: nothing, or all but the first, which is that name
abbrev pub IsRestBehindNameOrNothing : List (List ℕ) → List ℕ → List (List ℕ) → Type 0
IsRestBehindNameOrNothing names name left = (left ≡ []) ⊎ (names ≡ name ∷ left)

-- why what stands at a path was not learnt: the worktree failed there
abbrev pub StopsAtPathByFaultOrMemory : List ℕ → Type 0 → StatesError → Type 0
StopsAtPathByFaultOrMemory full Failed (errors.Fault path) = Failed × (path ≡ full)
StopsAtPathByFaultOrMemory full Failed errors.OutOfMemory = Unit {0}

-- the worktree failed at one of some paths
abbrev pub StopsByFaultAtSomePathOrMemory : (List ℕ → Type 0) → Type 0 → StatesError → Type 0
StopsByFaultAtSomePathOrMemory IsOne Failed (errors.Fault path) = Failed × IsOne path
StopsByFaultAtSomePathOrMemory IsOne Failed errors.OutOfMemory = Unit {0}

-- it holds, unless the worktree is said to have failed
abbrev pub HoldsUnlessStatesFault : {T : Type 0} → Result T StatesError → Type 0 → Type 0
HoldsUnlessStatesFault (Ok answer) Holds = Holds
HoldsUnlessStatesFault (Err (errors.Fault path)) Holds = Unit {0}
HoldsUnlessStatesFault (Err errors.OutOfMemory) Holds = Holds
