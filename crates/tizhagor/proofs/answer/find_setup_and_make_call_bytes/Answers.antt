use Rattle.std.proofs.Common.{[], subst, true}
use Rattle.git_setup.specs.declared.asked.Asked.{Asked}
use Rattle.tizhagor.specs.Answers.{AnswersCallBytes, found_in_call_environment, call_environment_of_fields}
use Rattle.tizhagor.proofs.Here.{by_writing}
use Rattle.tizhagor.proofs.answer.find_setup_and_make_call_bytes.Goals as goal

pub returns : goal.returns
returns g c =
    subst (λ (asked : Asked). AnswersCallBytes g.W.Worktree g.I.Interrupt g.O.Owners c.args.worktree.now c.find_setup_and_make_call_text-answer.new.worktree c.args.interrupt.now c.find_setup_and_make_call_text-answer.new.interrupt c.args.owners.now c.find_setup_and_make_call_text-answer.new.owners (found_in_call_environment (call_environment_of_fields c.args.here.now.current.now c.args.here.now.variables.now true []) c.args.here.now.directory.now asked) c.args.call c.args.writing c.format_text_of_answer.result)
    c.request_with_call_options-asked.ensures
    (by_writing g.W.Worktree g.I.Interrupt g.O.Owners _ _ _ _ _ _ (found_in_call_environment (call_environment_of_fields c.args.here.now.current.now c.args.here.now.variables.now true []) c.args.here.now.directory.now c.request_with_call_options-asked.result) c.args.call c.args.writing c.find_setup_and_make_call_text-answer.result c.format_text_of_answer.result c.format_text_of_answer.ensures c.find_setup_and_make_call_text-answer.ensures)
