use Rattle.index_status.proofs.Statuses.{MakesStatus-beside, MakesStatus-refused}
use Rattle.index_status.proofs.report_beside.status.Goals as goal

pub returns-in-Ok : goal.returns-in-Ok
returns-in-Ok g c = MakesStatus-beside c.in-Ok.report c.compare_index_and_pair_with_report.result c.in-Ok.ensures c.compare_index_and_pair_with_report.ensures

pub returns-in-Err : goal.returns-in-Err
returns-in-Err g c = rw c.from.ensures (MakesStatus-refused c.in-Err.error c.in-Err.ensures)
