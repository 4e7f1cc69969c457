use Rattle.glob_rules.proofs.Steps.{tells}
use Rattle.glob_rules.proofs.glob.step.next_glob_step.Goals as goal

pub returns-clause-tells : goal.returns-clause-tells
returns-clause-tells c = tells c.args.mode c.args.fresh c.args.pattern.now c.args.text.now c.step_at_first_token.result c.requires c.step_at_first_token.ensures.value
