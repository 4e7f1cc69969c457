use Rattle.glob_rules.proofs.SeenNames.{part_none}
use Rattle.worktree_stack.specs.Setup.{seen_attribute_names}
use Rattle.worktree_stack.specs.Stacked.{held_attributes_of_state}
use Rattle.worktree_stack.proofs.CheckOut.Stepping.{on_err}
use Rattle.worktree_stack.proofs.stack.push_rules.push_list_of_read_attributes.Goals as goal

pub returns-in_err-base-clause-seen : goal.returns-in_err-base-clause-seen
returns-in_err-base-clause-seen c = on_err c.from_residual.result (part_none (seen_attribute_names (held_attributes_of_state c.args.state.now)) _)
