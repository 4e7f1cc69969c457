use Rattle.std.proofs.lemmas.Result.{err_from_is_err_and}
use Rattle.worktree_report.proofs.ReportMade.{MakesReport-misread, MakesReport-described}
use Rattle.worktree_report.proofs.by_setup.worktree_report.Goals as goal

pub returns-in_err-known : goal.returns-in_err-known
returns-in_err-known g c =
    let p = err_from_is_err_and c.from_residual.result c.from_residual.ensures.1 in
    rw (p.1, p.2) (MakesReport-misread c.in_err-known.field-0.0 c.in_err-known.ensures.loads c.in_err-known.ensures.gives c.in_err-known.ensures.answers c.in_err-known.ensures.outside c.in_err-known.ensures.asked c.in_err-known.ensures.stops)

pub returns : goal.returns
returns g c =
    let known = c.in_ok-known.ensures in
    MakesReport-described (record { loads = known.loads; read = known.read; unfaulted = known.unfaulted }) c.in_ok-known.known c.in_ok-known.ensures.gives c.in_ok-known.ensures.known c.in_ok-known.ensures.unasked c.walk_by_setup-walked.result c.report_of_walk_result.result
    c.walk_by_setup-walked.ensures c.report_of_walk_result.ensures
