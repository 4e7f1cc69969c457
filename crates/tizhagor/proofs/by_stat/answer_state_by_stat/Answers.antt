use Rattle.std.proofs.Common.{inl, inr, refl}
use Rattle.std.proofs.lemmas.Result.{err_from_is_err_and}
use Rattle.tizhagor.proofs.by_stat.answer_state_by_stat.Goals as goal

pub returns-in_err-report : goal.returns-in_err-report
returns-in_err-report g c =
    let p = err_from_is_err_and c.from_residual.result c.from_residual.ensures.1 in
    rw (p.1, p.2)
    (inl (record {
      refusal = c.in_err-report.field-0.0;
      answer_is = refl;
      walks = c.in_err-report.ensures;
      stats = refl;
    }))

pub returns : goal.returns
returns g c =
    inr (record {
      middle = c.answer_report_unless_worktree_failed.new.worktree;
      owners = c.answer_report_unless_worktree_failed.new.owners;
      first = c.in_ok-report.report;
      second = c.answer_diff_files_or_state_lines-states.result;
      walks = c.in_ok-report.ensures;
      compares = c.answer_diff_files_or_state_lines-states.ensures;
      joined = c.put_states_before_report.ensures;
    })
