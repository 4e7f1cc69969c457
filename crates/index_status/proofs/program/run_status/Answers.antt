use Rattle.std.proofs.Common.{◌≡◌, ℕ, List, Some, option_and_then}
use Rattle.worktree_fs.specs.Causes.{CountNotIncreased}
use Rattle.worktree_report.proofs.Runs.{ends_well, run_text, run_usage}
use Rattle.index_status.specs.Run as top
use Rattle.index_status.proofs.Runs.{no_usage, text_asked-is, text_asked-unfaulted, wants_memory_alone}
use Rattle.index_status.proofs.program.run_status.Goals as goal

pub returns-clause-runs : goal.returns-clause-runs
returns-clause-runs g c = record { answer = c.status_text_for_words-answer.result; answers = c.status_text_for_words-answer.ensures; ends = c.write_answer.ensures }

pub returns-clause-unfaulted : goal.returns-clause-unfaulted
returns-clause-unfaulted g c = λ zero.
    let wrote =
    run_text _ _ _ _ _ _ _ _ (top.AnswersOptionalStatusRequest g.W.Worktree g.I.Interrupt _ _ _ _ _)
    (λ (text : List ℕ). (g.W.Worktree.faults c.status_text_for_words-answer.new.worktree ≡ g.W.Worktree.faults c.args.worktree.now)
    × CountNotIncreased (g.W.Worktree.faults c.args.worktree.now) (g.W.Worktree.faults c.status_text_for_words-answer.new.worktree))
    (λ text answers. text_asked-unfaulted g.W.Worktree g.I.Interrupt _ _ _ _ _ text answers) c.status_text_for_words-answer.result c.status_text_for_words-answer.ensures c.write_answer.ensures zero in
    wrote.1

pub returns-clause-status : goal.returns-clause-status
returns-clause-status g c = λ t told zero.
    run_text _ _ _ _ _ _ _ _ (top.AnswersOptionalStatusRequest g.W.Worktree g.I.Interrupt _ _ _ _ _) (λ (text : List ℕ). option_and_then (top.status_text_by_setup_in_tree _ t) _ ≡ Some text)
    (λ text answers. text_asked-is g.W.Worktree g.I.Interrupt _ _ _ _ _ text answers t told)
    c.status_text_for_words-answer.result c.status_text_for_words-answer.ensures c.write_answer.ensures zero

pub returns-clause-usage : goal.returns-clause-usage
returns-clause-usage g c =
    run_usage _ _ _ _ _ _ _ _ (top.AnswersStatusAtPlaces g.W.Worktree g.I.Interrupt _ _ _ _) _ _ _ _ (no_usage g.W.Worktree g.I.Interrupt _ _ _ _)
    _ c.status_text_for_words-answer.result c.status_text_for_words-answer.ensures c.write_answer.ensures

pub returns-clause-complete : goal.returns-clause-complete
returns-clause-complete g c = λ t told valid quiet calm taken.
    ends_well _ _ _ _ _ _ _ _ _ c.write_answer.ensures taken
    (wants_memory_alone g.W.Worktree g.I.Interrupt _ _ _ _ _ c.status_text_for_words-answer.result c.status_text_for_words-answer.ensures t told quiet calm valid)
