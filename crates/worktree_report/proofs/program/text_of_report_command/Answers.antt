use Rattle.worktree_report.proofs.Runs.{AnswersReport-walked}
use Rattle.worktree_report.proofs.program.text_of_report_command.Goals as goal

pub returns : goal.returns
returns g c =
    let read = c.in_ok-setup.ensures in
    AnswersReport-walked c.in_ok-setup.setup c.report_text_or_refusal.result read.gives read.reads read.lists read.tree read.faults read.unfaulted read.list_faults read.precomposes c.report_text_or_refusal.ensures
