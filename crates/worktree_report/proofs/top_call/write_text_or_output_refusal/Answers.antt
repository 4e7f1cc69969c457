use Rattle.std.proofs.Common.{inl, inr, refl, arith}
use Rattle.worktree_report.proofs.top_call.write_text_or_output_refusal.Goals as goal

pub returns-in-Ok : goal.returns-in-Ok
returns-in-Ok g c =
    record { by = inl (record { status_is = refl; written = c.in-Ok.ensures.whole; unrefused = c.in-Ok.ensures.unrefused; silent = refl }); refusals = c.write_all_bytes.ensures.later; err_refusals = omega arith }

pub returns-in-Err : goal.returns-in-Err
returns-in-Err g c =
    let told = c.report_constant_refusal.ensures.told in
    record {
      by = inr (record { status_is = told.status_is; written = c.in-Err.ensures.part; cause = c.in-Err.ensures.cause; said = told.said });
      refusals = c.write_all_bytes.ensures.later;
      err_refusals = c.report_constant_refusal.ensures.later;
    }
