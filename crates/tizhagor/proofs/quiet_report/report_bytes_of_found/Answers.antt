use Rattle.tizhagor.proofs.QuietReports.{reports}
use Rattle.tizhagor.proofs.quiet_report.report_bytes_of_found.Goals as goal

pub returns : goal.returns
returns g c =
    reports g.W.Worktree g.I.Interrupt _ _ _ _ c.args.writing c.args.found c.report_text_or_refusal-answer.result c.bytes_unless_new_fault.result
    (rw (← c.as_bytes.ensures) c.report_text_or_refusal-answer.ensures)
    (rw (← c.fault_count-before.ensures) c.bytes_unless_new_fault.ensures)
