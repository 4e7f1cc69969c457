use Rattle.std.proofs.Common.{◌≡◌, ℕ, List, Some, option_and_then, refl}
use Rattle.worktree_report.proofs.Runs.{ends_well, run_text, run_usage}
use Rattle.module_plan.specs.Run as top
use Rattle.module_plan.proofs.Runs.{no_usage, text_asked-is, text_asked-unfaulted, wants_memory_alone}
use Rattle.module_plan.proofs.program.run_modules.Goals as goal

pub returns-clause-runs : goal.returns-clause-runs
returns-clause-runs g c = record { answer = c.modules_plan_text_for_words-answer.result; answers = (c.modules_plan_text_for_words-answer.ensures, refl); ends = c.write_answer.ensures }

pub returns-clause-unfaulted : goal.returns-clause-unfaulted
returns-clause-unfaulted g c = λ zero.
    let wrote =
    run_text _ _ _ _ _ _ _ _ (top.AnswersPlanCommand g.W.Worktree _ _ _) (λ (text : List ℕ). g.W.Worktree.faults c.modules_plan_text_for_words-answer.new.worktree ≡ g.W.Worktree.faults c.args.worktree.now)
    (λ text answers. text_asked-unfaulted g.W.Worktree _ _ _ text answers) c.modules_plan_text_for_words-answer.result c.modules_plan_text_for_words-answer.ensures c.write_answer.ensures zero in
    wrote.1

pub returns-clause-plan : goal.returns-clause-plan
returns-clause-plan g c = λ t told zero.
    run_text _ _ _ _ _ _ _ _ (top.AnswersPlanCommand g.W.Worktree _ _ _) (λ (text : List ℕ). option_and_then (top.read_setup_and_make_plan_text t) _ ≡ Some text)
    (λ text answers. text_asked-is g.W.Worktree _ _ _ text answers t told)
    c.modules_plan_text_for_words-answer.result c.modules_plan_text_for_words-answer.ensures c.write_answer.ensures zero

pub returns-clause-usage : goal.returns-clause-usage
returns-clause-usage g c =
    run_usage _ _ _ _ _ _ _ _ (top.AnswersPlanAtPlaces g.W.Worktree _ _) _ _ tt tt (no_usage g.W.Worktree _ _)
    _ c.modules_plan_text_for_words-answer.result c.modules_plan_text_for_words-answer.ensures c.write_answer.ensures

pub returns-clause-complete : goal.returns-clause-complete
returns-clause-complete g c = λ t told valid quiet calm taken.
    ends_well _ _ _ _ _ _ _ _ _ c.write_answer.ensures taken (wants_memory_alone _ _ _ _ _ c.modules_plan_text_for_words-answer.ensures t told quiet valid)
