use Rattle.std.proofs.Common.{refl}
use Rattle.worktree_stack.specs.Stacked.{setup_of_stack}
use Rattle.worktree_stack_tests.proofs.AnyState.{in-each}
use Rattle.worktree_stack_tests.proofs.lookups.look_up_entry.Goals as goal

pub returns : goal.returns
returns g c =
    in-each _ (setup_of_stack c.args.stack.now) c.args.stack.now.checkout refl (λ keeps. (c.at_entry.ensures.looks_up keeps).answered)
    (λ found is. (c.at_entry.ensures.checks_out found is).answered)
