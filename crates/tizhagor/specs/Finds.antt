-- What a step says that asks a worktree, or owners too, before a setup is found.
use Rattle.std.specs.Prelude.{Result}
use Rattle.worktree_fs.specs.declared.owners.Owners.{Ghosts as OwnersOf}
use Rattle.worktree_fs.specs.declared.worktree.Worktree.{Ghosts as WorktreeOf}
use Rattle.worktree_fs.specs.Owners.{OwnershipByPath}
use Rattle.worktree_fs.specs.Tree.{Names}
use Rattle.git_places.specs.Finds.{FindsInTreeByErrors, FindsInTreeAndOwnersByErrors}
use Rattle.tizhagor.specs.declared.refusal.CommandRefusal.{CommandRefusal}
use Rattle.tizhagor.specs.Refusals.{fault, memory}

-- Over a told tree it is what is found there; a fault was counted, and whatever else is answered none was; and what stays.
abbrev pub FindsHereResultOverToldTree : {W A : Type 0} → WorktreeOf W → W → W → (Names → Result A CommandRefusal) → Result A CommandRefusal → Type 0
FindsHereResultOverToldTree w before now found result = FindsInTreeByErrors w before now fault memory found result

-- the same over told owners too
abbrev pub FindsHereResultOverTreeAndOwners : {W O A : Type 0} → WorktreeOf W → OwnersOf O → W → W → O → O → (Names → OwnershipByPath → Result A CommandRefusal) → Result A CommandRefusal → Type 0
FindsHereResultOverTreeAndOwners w o w0 w1 o0 o1 found result = FindsInTreeAndOwnersByErrors w o w0 w1 o0 o1 fault memory found result
