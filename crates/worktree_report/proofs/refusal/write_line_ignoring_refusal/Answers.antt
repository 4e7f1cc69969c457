use Rattle.worktree_report.proofs.Writes.{Says-either}
use Rattle.worktree_report.proofs.refusal.write_line_ignoring_refusal.Goals as goal

pub returns-clause-said : goal.returns-clause-said
returns-clause-said g c =
    let wrote = c.write_all_bytes.ensures in
    Says-either c.write_all_bytes.result _ _ _ _ c.args.line.now wrote.whole wrote.part wrote.cause wrote.unrefused
