-- What a walk works on, at one moment.
use Rattle.std.specs.Prelude.{◌≡◌, Option}
use Rattle.worktree_stack.specs.Stacked.{StackModel}
use Rattle.dir_walk.specs.declared.outcome.Outcome.{Outcome}
use Rattle.dir_walk.specs.declared.parts.Parts.{Parts}

-- the worktree, the store, the interrupt and the delegate, the rules with what of them is pushed, and what was counted
pub record WalkState (W F I D : Type 0) : Type 0 where
  pub worktree : W
  pub objects : F
  pub interrupt : I
  pub delegate : D
  pub rules : Option StackModel
  pub outcome : Outcome

-- what the parts of a walk refer to
abbrev pub walk_state_of_parts : {W F I D : Type 0} → Parts W F I D → WalkState W F I D
walk_state_of_parts parts =
    record {
      worktree = parts.worktree.now;
      objects = parts.objects.now;
      interrupt = parts.interrupt.now;
      delegate = parts.delegate.now;
      rules = parts.excludes.now;
      outcome = parts.outcome.now;
    }

-- the parts are behind the same references
pub record KeepsPartReferences {W F I D : Type 0} (before now : Parts W F I D) : Type 0 where
  pub worktree : now.worktree.ghost_name ≡ before.worktree.ghost_name
  pub objects : now.objects.ghost_name ≡ before.objects.ghost_name
  pub interrupt : now.interrupt.ghost_name ≡ before.interrupt.ghost_name
  pub delegate : now.delegate.ghost_name ≡ before.delegate.ghost_name
  pub excludes : now.excludes.ghost_name ≡ before.excludes.ghost_name
  pub outcome : now.outcome.ghost_name ≡ before.outcome.ghost_name
