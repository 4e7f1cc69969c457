use Rattle.std.proofs.Common.{◌≡◌, take}
use Rattle.worktree_stack.specs.Mappings.{rules_file_mappings_of_index}
use Rattle.worktree_stack.specs.Setup.{setup_of_held_attributes, setup_of_held_ignore_rules}
use Rattle.worktree_stack.specs.Stacked.{held_attributes_of_state, held_ignore_rules_of_state}
use Rattle.worktree_stack.proofs.mappings.collect_rules_mappings.Given as goal

abbrev pub invariant-loop-entry : goal.invariant-loop-entry
invariant-loop-entry l = l.mappings.items ≡ rules_file_mappings_of_index l.case (setup_of_held_attributes (held_attributes_of_state l.state)) (setup_of_held_ignore_rules (held_ignore_rules_of_state l.state)) (take l.entry-index l.entry-items)
