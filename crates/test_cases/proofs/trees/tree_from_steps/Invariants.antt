use Rattle.test_cases.specs.Puts.{IsFreshMemoryWorktree}
use Rattle.test_cases.proofs.trees.tree_from_steps.Given as goal

abbrev pub invariant-loop-step : goal.invariant-loop-step
invariant-loop-step l = IsFreshMemoryWorktree l.tree
