use Rattle.std.proofs.Common.{Err, refl}
use Rattle.std.proofs.lemmas.Result.{err_from_is_err_and}
use Rattle.worktree_report.proofs.ReportMade.{MakesReport-misread, MakesReport-described}
use Rattle.worktree_report.proofs.Texted.{made_for, made_for-describes, made_for-text}
use Rattle.worktree_report.proofs.text.worktree_report_text.Goals as goal

pub returns-in_err-known : goal.returns-in_err-known
returns-in_err-known g c =
    let p = err_from_is_err_and c.from_residual.result c.from_residual.ensures.1 in
    rw (p.1, p.2)
    (record {
      made = Err c.in_err-known.field-0.0;
      text_is = refl;
      makes = MakesReport-misread c.in_err-known.field-0.0 c.in_err-known.ensures.loads c.in_err-known.ensures.gives c.in_err-known.ensures.answers c.in_err-known.ensures.outside c.in_err-known.ensures.asked c.in_err-known.ensures.stops;
    })

pub returns : goal.returns
returns g c =
    let known = c.in_ok-known.ensures in
    record {
      made = made_for c.report_text_of_walk_result.result c.in_ok-known.known c.walk_by_setup-walked.result;
      text_is = made_for-text c.report_text_of_walk_result.result c.args.setup.options c.in_ok-known.known c.walk_by_setup-walked.result c.report_text_of_walk_result.ensures;
      makes =
          MakesReport-described (record { loads = known.loads; read = known.read; unfaulted = known.unfaulted }) c.in_ok-known.known known.gives known.known known.unasked c.walk_by_setup-walked.result
          (made_for c.report_text_of_walk_result.result c.in_ok-known.known c.walk_by_setup-walked.result) c.walk_by_setup-walked.ensures
          (made_for-describes c.report_text_of_walk_result.result c.args.setup.options c.in_ok-known.known c.walk_by_setup-walked.result c.report_text_of_walk_result.ensures);
    }
