-- What a lookup works on, at one moment.
use Rattle.std.specs.Prelude.{◌≡◌, Result, OnOk}
use Rattle.gitbase_core.specs.declared.find.Find.{Ghosts as FindOf}
use Rattle.worktree_fs.specs.declared.worktree.Worktree.{Ghosts as WorktreeOf}
use Rattle.worktree_stack.specs.declared.error.AtPathError.{AtPathError}
use Rattle.worktree_stack.specs.Stacked.{StackModel}

-- the worktree, the store of objects, and the stack
pub record WorktreeStoreAndStack (W F : Type 0) : Type 0 where
  pub worktree : W
  pub objects : F
  pub stack : StackModel

-- the moment at which they are these
abbrev pub worktree_store_and_stack : {W F : Type 0} → W → F → StackModel → WorktreeStoreAndStack W F
worktree_store_and_stack worktree objects stack = record { worktree = worktree; objects = objects; stack = stack }

-- An answer hides no fault: neither the worktree nor the store has counted one.
pub record HidesNoFault {W F T : Type 0} (w : WorktreeOf W) (f : FindOf F) (before now : WorktreeStoreAndStack W F) (result : Result T AtPathError) : Type 0 where
  pub worktree : OnOk result (w.faults now.worktree ≡ w.faults before.worktree)
  pub objects : OnOk result (f.faults now.objects ≡ f.faults before.objects)
