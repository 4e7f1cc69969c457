use Rattle.std.proofs.Common.{◌≡◌, ◌≤◌, ◌++◌, List, Ok, is_some, true, length}
use Rattle.gitbase_core.specs.Path.{components}
use Rattle.worktree_fs.specs.PathStack.{DelegateCall, deepest_components_or_root, delegate_calls_of_components}
use Rattle.worktree_stack.specs.Moments.{worktree_store_and_stack}
use Rattle.worktree_stack.specs.StackSteps.{BoundsWorktreeReads, KeepsStackInStepAndLevel, PushKeepsSetupAndTree, CarriesOutOrStopsCalls, SeesNamesReadByCalls}
use Rattle.worktree_stack.proofs.Lookup.Descent.{IsBelow}
use Rattle.worktree_stack.proofs.stack.Stack.push_remaining_components.Given as goal

abbrev pub invariant-loop-next : goal.invariant-loop-next
invariant-loop-next g l =
    let W = g.W.Worktree in
    let F = g.F.Find in
    let names = deepest_components_or_root l.fn.self.at in
    let before = worktree_store_and_stack l.fn.worktree l.fn.objects l.fn.self in
    let now = worktree_store_and_stack l.worktree l.objects l.self in
    record {
      some : is_some l.self.at ≡ true;
      below : IsBelow (names ++ components l.fn.left) l.self.at (components l.rest);
      done : List DelegateCall;
      front : delegate_calls_of_components names (components l.fn.left) ≡ done ++ delegate_calls_of_components (deepest_components_or_root l.self.at) (components l.rest);
      keeps : PushKeepsSetupAndTree {T = Unit {0}} W F before now (Ok tt);
      moves : CarriesOutOrStopsCalls {T = Unit {0}} W F before now done (Ok tt);
      holds : KeepsStackInStepAndLevel W F before now;
      sees : SeesNamesReadByCalls {T = Unit {0}} W F before now done (Ok tt);
      asks : BoundsWorktreeReads W before now done (length names) (length (deepest_components_or_root l.self.at));
      stays : length names ≤ length (deepest_components_or_root l.self.at);
    }

abbrev pub decreases-loop-next : goal.decreases-loop-next
decreases-loop-next g l = length (components l.rest)
