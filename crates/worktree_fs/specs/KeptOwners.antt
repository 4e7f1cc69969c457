-- What stays of owners that were asked.
use Rattle.std.specs.Prelude.{◌≡◌, ◌≤◌}
use Rattle.worktree_fs.specs.declared.owners.Owners.{Ghosts as OwnersOf}

pub record KeepsOwnershipAnswers {O : Type 0} (o : OwnersOf O) (before now : O) : Type 0 where
  pub told : o.told now ≡ o.told before
  pub faults : o.faults before ≤ o.faults now
