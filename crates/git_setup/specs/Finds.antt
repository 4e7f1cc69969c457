-- What a call promises that reads a work tree and its repository.
use Rattle.std.specs.Prelude.{Result}
use Rattle.worktree_fs.specs.declared.worktree.Worktree.{Ghosts as WorktreeOf}
use Rattle.worktree_fs.specs.declared.owners.Owners.{Ghosts as OwnersOf}
use Rattle.worktree_fs.specs.Owners.{OwnershipByPath}
use Rattle.worktree_fs.specs.Tree.{Names}
use Rattle.git_places.specs.Answers.{IsFoundOrFailed, IsFoundOrOutOfMemory}
use Rattle.git_places.specs.Finds.{FindsInTreeByErrors, FindsInTreeAndOwnersByErrors}
use Rattle.git_setup.specs.declared.error.GitRefusal.{GitRefusal}
use Rattle.git_setup.specs.declared.error.GitRefusal.TheVariants as errors

-- an answer is what is to be found, a refusal of it too; the worktree may fail instead, and memory may be wanted
abbrev pub IsFoundOrFaultOrOutOfMemory : {A : Type 0} → Result A GitRefusal → Result A GitRefusal → Type 0
IsFoundOrFaultOrOutOfMemory result found = IsFoundOrFailed errors.Fault errors.OutOfMemory result found

-- the same of a call that asks no worktree, which never answers that it failed
abbrev pub IsFoundOrRefusesMemory : {A : Type 0} → Result A GitRefusal → Result A GitRefusal → Type 0
IsFoundOrRefusesMemory result found = IsFoundOrOutOfMemory errors.Fault errors.OutOfMemory result found

-- over a told tree the answer is what is found in it; a fault has its cause, no other answer hides one, and the worktree stays as it was
abbrev pub FindsOverToldTree : {W A : Type 0} → WorktreeOf W → W → W → (Names → Result A GitRefusal) → Result A GitRefusal → Type 0
FindsOverToldTree w before now found result = FindsInTreeByErrors w before now errors.Fault errors.OutOfMemory found result

-- the same over owners too, where a call asks whose the repository is: where a fault is answered one of both failed
abbrev pub FindsOverToldTreeAndOwners : {W O A : Type 0} → WorktreeOf W → OwnersOf O → W → W → O → O → (Names → OwnershipByPath → Result A GitRefusal) → Result A GitRefusal → Type 0
FindsOverToldTreeAndOwners w o w0 w1 o0 o1 found result = FindsInTreeAndOwnersByErrors w o w0 w1 o0 o1 errors.Fault errors.OutOfMemory found result
