use Rattle.worktree_stack.proofs.CheckOut.Keeping.{keeps-excludes, leaves-excludes}
use Rattle.worktree_stack.specs.Stacked.{setup_of_stack}
use Rattle.ls_files.proofs.RuledOut.{asks-left}
use Rattle.ls_files.proofs.ruled_out.move_stack_to_path.Goals as goal

pub returns-clause-looks_up : goal.returns-clause-looks_up
returns-clause-looks_up g c = c.at_path.ensures.looks_up (keeps-excludes (setup_of_stack c.args.stack.now) c.requires.excludes)

pub returns-clause-asks : goal.returns-clause-asks
returns-clause-asks g c = asks-left g.W.Worktree _ _ (leaves-excludes g.W.Worktree (setup_of_stack c.args.stack.now) c.requires.excludes c.at_path.ensures.leaves)
