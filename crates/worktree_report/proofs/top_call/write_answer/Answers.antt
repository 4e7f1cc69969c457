use Rattle.worktree_report.proofs.Endings.{Ends-refused}
use Rattle.worktree_report.proofs.top_call.write_answer.Goals as goal

pub returns-in-Err : goal.returns-in-Err
returns-in-Err g c = Ends-refused c.args.answer c.in-Err.is c.report_refusal.ensures.told c.report_refusal.ensures.later
