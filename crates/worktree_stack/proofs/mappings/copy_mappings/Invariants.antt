use Rattle.std.proofs.Common.{◌≡◌, take}
use Rattle.worktree_stack.proofs.mappings.copy_mappings.Given as goal

abbrev pub invariant-loop-mapping : goal.invariant-loop-mapping
invariant-loop-mapping l = l.copy.items ≡ take l.mapping-index l.mappings
