use Rattle.std.proofs.Common.{◌≡◌, ◌≤◌}
use Rattle.gitbase_core.specs.Causes.{saturating_increment}
use Rattle.worktree_fs.specs.Kept.{KeepsTreeWhileCountsMayRise, KeepsStoredObjects}
use Rattle.worktree_fs_tests.proofs.at_once.walk_at_once.Given as goal

abbrev pub invariant-loop-name : goal.invariant-loop-name
invariant-loop-name g l = record {
  tree : KeepsTreeWhileCountsMayRise g.W.Worktree l.fn.worktree l.worktree;
  store : KeepsStoredObjects g.F.Find l.fn.store l.store;
  raised : g.I.Interrupt.raised l.fn.interrupt ≤ g.I.Interrupt.raised l.interrupt;
  lists : g.W.Worktree.lists l.worktree ≡ saturating_increment (g.W.Worktree.lists l.fn.worktree);
}
