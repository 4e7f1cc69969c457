use Rattle.std.proofs.Common.{◌≡◌, ◌≤◌, length}
use Rattle.gitbase_core.specs.Path.{components}
use Rattle.worktree_fs.proofs.Routes.Lookups.{Descended}
use Rattle.worktree_fs.proofs.path_stack.PathStack.push_remaining_components.Given as goal

abbrev pub invariant-loop-next : goal.invariant-loop-next
invariant-loop-next g l =
    let delegate = g.D.PathDelegate in
    record {
      descended : Descended l.fn.self l.self (delegate.given l.fn.delegate) (delegate.given l.delegate) (components l.fn.left) (components l.rest);
      unrefused : delegate.refusals l.delegate ≡ delegate.refusals l.fn.delegate;
      later : delegate.refusals l.fn.delegate ≤ delegate.refusals l.delegate;
      ruled : (first : g.row.D.Denot) → delegate.rule first l.fn.delegate → delegate.rule first l.delegate;
    }

abbrev pub decreases-loop-next : goal.decreases-loop-next
decreases-loop-next g l = length (components l.rest)
