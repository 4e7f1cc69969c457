use Rattle.worktree_report.specs.Run.{AnswersParsedCommand, AnswersGivenCommand, text_of_command}
use Rattle.std.proofs.Common.{◌≡◌, ℕ, List, Some}
use Rattle.worktree_report.proofs.Runs.{ends_well, no_usage, run_text, run_usage, text_asked-is, wants_memory_alone}
use Rattle.worktree_report.proofs.program.run.Goals as goal

pub returns-clause-runs : goal.returns-clause-runs
returns-clause-runs g c = record { answer = c.text_of_command_words-answer.result; answers = c.text_of_command_words-answer.ensures; ends = c.write_answer.ensures }

pub returns-clause-report : goal.returns-clause-report
returns-clause-report g c = λ t told quiet zero.
    run_text _ _ _ _ _ _ _ _ (AnswersParsedCommand g.W.Worktree g.I.Interrupt _ _ _ _ _) (λ (text : List ℕ). text_of_command _ t _ ≡ Some text)
    (λ text answers. text_asked-is g.W.Worktree g.I.Interrupt _ _ _ _ _ text answers t told quiet)
    c.text_of_command_words-answer.result c.text_of_command_words-answer.ensures c.write_answer.ensures zero

pub returns-clause-usage : goal.returns-clause-usage
returns-clause-usage g c =
    run_usage _ _ _ _ _ _ _ _ (AnswersGivenCommand g.W.Worktree g.I.Interrupt _ _ _ _) _ _ _ _ (no_usage g.W.Worktree g.I.Interrupt _ _ _ _)
    _ c.text_of_command_words-answer.result c.text_of_command_words-answer.ensures c.write_answer.ensures

pub returns-clause-complete : goal.returns-clause-complete
returns-clause-complete g c = λ t told valid quiet calm taken.
    ends_well _ _ _ _ _ _ _ _ _ c.write_answer.ensures taken
    (wants_memory_alone g.W.Worktree g.I.Interrupt _ _ _ _ _ c.text_of_command_words-answer.result c.text_of_command_words-answer.ensures t told quiet calm valid)
