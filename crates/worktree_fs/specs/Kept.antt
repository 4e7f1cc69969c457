-- What calls that ask a worktree leave as it was, and which counts they may raise.
use Rattle.std.specs.Prelude.{◌≡◌, ◌≤◌}
use Rattle.worktree_fs.specs.declared.worktree.Worktree.{Ghosts as WorktreeOf}
use Rattle.gitbase_core.specs.declared.find.Find.{Ghosts as FindOf}

-- a worktree that was asked for nodes and read, and not listed
pub record KeepsTreeAndListCounts {W : Type 0} (w : WorktreeOf W) (before now : W) : Type 0 where
  pub tree : w.told now ≡ w.told before
  pub faults : w.faults before ≤ w.faults now
  pub list_faults : w.list_faults now ≡ w.list_faults before
  pub reads : w.reads before ≤ w.reads now
  pub lists : w.lists now ≡ w.lists before
  pub precomposes : w.precomposes now ≡ w.precomposes before

-- a worktree that was listed too
pub record KeepsTreeWhileCountsMayRise {W : Type 0} (w : WorktreeOf W) (before now : W) : Type 0 where
  pub tree : w.told now ≡ w.told before
  pub faults : w.faults before ≤ w.faults now
  pub list_faults : w.list_faults before ≤ w.list_faults now
  pub reads : w.reads before ≤ w.reads now
  pub lists : w.lists before ≤ w.lists now
  pub precomposes : w.precomposes now ≡ w.precomposes before

-- a store that was asked for objects
pub record KeepsStoredObjects {F : Type 0} (f : FindOf F) (before now : F) : Type 0 where
  pub holds : f.holds now ≡ f.holds before
  pub faults : f.faults before ≤ f.faults now
