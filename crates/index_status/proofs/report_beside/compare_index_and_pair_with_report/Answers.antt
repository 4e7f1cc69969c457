use Rattle.std.proofs.Common.{refl}
use Rattle.std.proofs.lemmas.Result.{err_from_is_err_and}
use Rattle.index_status.proofs.Statuses.{Compares-refused}
use Rattle.index_status.proofs.report_beside.compare_index_and_pair_with_report.Goals as goal

pub returns-in_err-paths : goal.returns-in_err-paths
returns-in_err-paths g c =
    let p = err_from_is_err_and c.from_residual.result c.from_residual.ensures.1 in
    rw (p.1, p.2) (Compares-refused c.in_err-paths.field-0.0 c.in_err-paths.ensures.refused c.in_err-paths.ensures.keeps c.in_err-paths.ensures.reads)

pub returns : goal.returns
returns g c =
    let made = c.in_ok-paths.ensures in
    record { gives = made.states; possible = made.possible; ascends = made.ascends; conflicted = made.conflicted; beside = refl; reads = made.reads; read = made.read; unfaulted = made.unfaulted; refused = tt; keeps = made.keeps }
