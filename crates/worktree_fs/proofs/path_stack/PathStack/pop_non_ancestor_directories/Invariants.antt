use Rattle.std.proofs.Common.{◌≡◌, ◌≤◌}
use Rattle.worktree_fs.proofs.Routes.Lookups.{Popped}
use Rattle.worktree_fs.proofs.path_stack.PathStack.pop_non_ancestor_directories.Given as goal

abbrev pub invariant-loop : goal.invariant-loop
invariant-loop g l =
    let delegate = g.D.PathDelegate in
    record {
      popped : Popped l.fn.self l.self (delegate.given l.fn.delegate) (delegate.given l.delegate) l.counter;
      unrefused : delegate.refusals l.delegate ≡ delegate.refusals l.fn.delegate;
      later : delegate.refusals l.fn.delegate ≤ delegate.refusals l.delegate;
      ruled : (first : g.row.D.Denot) → delegate.rule first l.fn.delegate → delegate.rule first l.delegate;
    }
