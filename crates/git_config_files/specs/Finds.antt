-- What a call that asks a worktree, owners, or both promises.
use Rattle.std.specs.Prelude.{Result}
use Rattle.worktree_fs.specs.declared.worktree.Worktree.{Ghosts as WorktreeOf}
use Rattle.worktree_fs.specs.declared.owners.Owners.{Ghosts as OwnersOf}
use Rattle.worktree_fs.specs.Owners.{OwnershipByPath}
use Rattle.worktree_fs.specs.Tree.{Names}
use Rattle.git_places.specs.Finds.{FindsInTreeByErrors, FindsInOwnersByErrors, FindsInTreeAndOwnersByErrors}
use Rattle.git_config_files.specs.declared.error.FilesError.{FilesError}
use Rattle.git_config_files.specs.declared.error.FilesError.TheVariants as errors

-- over a told tree a call answers what is found in it; where the worktree failed, `Fault` of this crate
abbrev pub AnswersFromWorktree : {W A : Type 0} → WorktreeOf W → W → W → (Names → Result A FilesError) → Result A FilesError → Type 0
AnswersFromWorktree w before now found result = FindsInTreeByErrors w before now errors.Fault errors.OutOfMemory found result

-- over told owners a call answers what is found by them; where these failed, `Fault` of this crate
abbrev pub AnswersFromOwners : {O A : Type 0} → OwnersOf O → O → O → (OwnershipByPath → Result A FilesError) → Result A FilesError → Type 0
AnswersFromOwners o before now found result = FindsInOwnersByErrors o before now errors.Fault errors.OutOfMemory found result

-- a call that asks both answers what is found by the two; `Fault` only where one of them failed
abbrev pub AnswersFromWorktreeAndOwners : {W O A : Type 0} → WorktreeOf W → OwnersOf O → W → W → O → O → (Names → OwnershipByPath → Result A FilesError) → Result A FilesError → Type 0
AnswersFromWorktreeAndOwners w o w0 w1 o0 o1 found result = FindsInTreeAndOwnersByErrors w o w0 w1 o0 o1 errors.Fault errors.OutOfMemory found result
