use Rattle.std.proofs.Common.{◌∙◌, rules}
use Rattle.worktree_stack.proofs.Rules.Decided.{decided}
use Rattle.worktree_stack.proofs.platform.Platform.deciding_match.Goals as goal

pub returns-clause-exclude : goal.returns-clause-exclude
returns-clause-exclude c s in_step relative looked_up = (search rules) ∙ decided s c.args.self.now c.requires in_step relative looked_up
