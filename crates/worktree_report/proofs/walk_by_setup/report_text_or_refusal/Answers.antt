use Rattle.std.proofs.Common.{Some, ap, arith}
use Rattle.worktree_report.proofs.Texted.{Texts-made, Texts-unmade}
use Rattle.worktree_report.proofs.walk_by_setup.report_text_or_refusal.Goals as goal

pub returns-in-Ok : goal.returns-in-Ok
returns-in-Ok g c = Texts-made c.in-Ok.text c.in-Ok.ensures (ap Some c.in_ok-objects.ensures)

pub returns : goal.returns
returns g c = Texts-unmade c.in-Err.error c.in_ok-refusal_of_report_error-in-Err.field-0 c.in-Err.ensures (ap Some c.in_ok-objects.ensures) (omega arith) c.in_ok-refusal_of_report_error-in-Err.ensures
