use Rattle.std.proofs.Common.{◌≡◌, ◌≤◌, ◌++◌, List, ℕ, is_some, true, length, Ok}
use Rattle.gitbase_core.specs.Path.{components}
use Rattle.worktree_fs.specs.PathStack.{DelegateCall, deepest_components_or_root, delegate_calls_of_components}
use Rattle.worktree_fs.specs.Tree.{Names}
use Rattle.worktree_stack.specs.ChecksOut.{AreNewNamesComposed}
use Rattle.worktree_stack.specs.GoesOn.{RunsCheckoutCalls, HoldsForLaterTree, AreNextComponentsOfPath}
use Rattle.worktree_stack.specs.Lookups.{is_dir_by_mode}
use Rattle.worktree_stack.specs.HeldOut.{AppendsListsOfCheckout}
use Rattle.worktree_stack.specs.Making.{is_symlink_by_mode, mkdir_count_of_stack, checkout_lookup_options}
use Rattle.worktree_stack.specs.Reading.{TreeAndObjects, Tells}
use Rattle.worktree_stack.specs.Stacked.{setup_of_stack}
use Rattle.std.specs.Prelude.{Some}
use Rattle.worktree_stack.proofs.Lookup.Descent.{IsBelow}
use Rattle.worktree_stack.proofs.stack.Stack.push_remaining_in_checkout.Given as goal

abbrev pub invariant-loop-next : goal.invariant-loop-next
invariant-loop-next g l =
    let W = g.W.Worktree in
    let F = g.F.Find in
    let names = deepest_components_or_root l.fn.self.at in
    let way = checkout_lookup_options l.fn.checkout (W.precomposes l.fn.worktree) l.fn.self.root (is_dir_by_mode l.fn.mode) in
    record {
      some : is_some l.self.at ≡ true;
      below : IsBelow (names ++ components l.fn.left) l.self.at (components l.rest);
      done : List DelegateCall;
      taken : List (List ℕ);
      front : delegate_calls_of_components names (components l.fn.left) ≡ done ++ delegate_calls_of_components (deepest_components_or_root l.self.at) (components l.rest);
      parts : components l.fn.left ≡ taken ++ components l.rest;
      goes : RunsCheckoutCalls W F l.fn.worktree l.worktree l.fn.objects l.objects way (is_symlink_by_mode l.fn.mode) l.fn.checkout.validate.protect_windows done taken l.fn.self l.self (Ok tt);
      unfaulted : W.faults l.worktree ≡ W.faults l.fn.worktree;
      unfaulted_store : F.faults l.objects ≡ F.faults l.fn.objects;
      held : (s : TreeAndObjects) → Tells (W.told l.fn.worktree) (F.holds l.fn.objects) s → AppendsListsOfCheckout (setup_of_stack l.fn.self) way (mkdir_count_of_stack l.fn.self) s done l.fn.self.attributes l.self.attributes;
      stays : length names ≤ length (deepest_components_or_root l.self.at);
      keeps : (s0 : TreeAndObjects) (t t1 : Names) → W.told l.fn.worktree ≡ Some t → F.holds l.fn.objects ≡ Some s0.objects → W.told l.worktree ≡ Some t1
          → AreNextComponentsOfPath way (setup_of_stack l.fn.self) l.fn.self.at (components l.fn.left) → AreNewNamesComposed way (components l.fn.left) → HoldsForLaterTree (setup_of_stack l.fn.self) s0 t l.fn.self.at l.fn.self.attributes l.fn.self.ignore
          → HoldsForLaterTree (setup_of_stack l.fn.self) s0 t1 l.self.at l.self.attributes l.self.ignore;
    }

abbrev pub decreases-loop-next : goal.decreases-loop-next
decreases-loop-next g l = length (components l.rest)
