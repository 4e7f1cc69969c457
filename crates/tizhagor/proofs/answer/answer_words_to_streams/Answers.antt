use Rattle.std.proofs.Common.{ℕ, List, subst}
use Rattle.tizhagor.specs.Ends.{EndsWithStatusAndStreams}
use Rattle.tizhagor.proofs.BothEnds as lemmas
use Rattle.tizhagor.proofs.answer.answer_words_to_streams.Goals as goal

pub returns-clause-runs : goal.returns-clause-runs
returns-clause-runs g c = record { answer = c.parse_and_answer_words-answer.result; answers = c.parse_and_answer_words-answer.ensures; ends = subst (λ (first : List ℕ). EndsWithStatusAndStreams g.S.Sink g.E.Sink c.args.out.now c.finish_with_answer.new.out c.args.err.now c.finish_with_answer.new.err first c.parse_and_answer_words-answer.result c.finish_with_answer.result) c.first_fault.ensures c.finish_with_answer.ensures }

pub returns-clause-unfaulted : goal.returns-clause-unfaulted
returns-clause-unfaulted g c = lemmas.unfaulted g.W.Worktree g.I.Interrupt g.O.Owners g.D.Stats g.S.Sink g.E.Sink _ _ _ _ _ _ _ _ _ _ _ _ _ _ _ _ c.parse_and_answer_words-answer.result c.parse_and_answer_words-answer.ensures c.finish_with_answer.ensures

pub returns-clause-owners_unfaulted : goal.returns-clause-owners_unfaulted
returns-clause-owners_unfaulted g c = lemmas.owners_unfaulted g.W.Worktree g.I.Interrupt g.O.Owners g.D.Stats g.S.Sink g.E.Sink _ _ _ _ _ _ _ _ _ _ _ _ _ _ _ _ c.parse_and_answer_words-answer.result c.parse_and_answer_words-answer.ensures c.finish_with_answer.ensures

pub returns-clause-output : goal.returns-clause-output
returns-clause-output g c = lemmas.gives g.W.Worktree g.I.Interrupt g.O.Owners g.D.Stats g.S.Sink g.E.Sink _ _ _ _ _ _ _ _ _ _ _ _ _ _ _ _ c.parse_and_answer_words-answer.result c.parse_and_answer_words-answer.ensures c.finish_with_answer.ensures

pub returns-clause-misuse : goal.returns-clause-misuse
returns-clause-misuse g c = lemmas.misuse g.W.Worktree g.I.Interrupt g.O.Owners g.D.Stats g.S.Sink g.E.Sink _ _ _ _ _ _ _ _ _ _ _ _ _ _ _ _ c.parse_and_answer_words-answer.result c.parse_and_answer_words-answer.ensures c.finish_with_answer.ensures

pub returns-clause-usage : goal.returns-clause-usage
returns-clause-usage g c = lemmas.usage g.W.Worktree g.I.Interrupt g.O.Owners g.D.Stats g.S.Sink g.E.Sink _ _ _ _ _ _ _ _ _ _ _ _ _ _ _ _ c.parse_and_answer_words-answer.result c.parse_and_answer_words-answer.ensures c.finish_with_answer.ensures

pub returns-clause-fatal : goal.returns-clause-fatal
returns-clause-fatal g c = lemmas.fatal g.W.Worktree g.I.Interrupt g.O.Owners g.D.Stats g.S.Sink g.E.Sink _ _ _ _ _ _ _ _ _ _ _ _ _ _ _ _ c.parse_and_answer_words-answer.result c.parse_and_answer_words-answer.ensures (subst (λ (first : List ℕ). EndsWithStatusAndStreams g.S.Sink g.E.Sink c.args.out.now c.finish_with_answer.new.out c.args.err.now c.finish_with_answer.new.err first c.parse_and_answer_words-answer.result c.finish_with_answer.result) c.first_fault.ensures c.finish_with_answer.ensures)

pub returns-clause-interrupted : goal.returns-clause-interrupted
returns-clause-interrupted g c = lemmas.interrupted g.W.Worktree g.I.Interrupt g.O.Owners g.D.Stats g.S.Sink g.E.Sink _ _ _ _ _ _ _ _ _ _ _ _ _ _ _ _ c.parse_and_answer_words-answer.result c.parse_and_answer_words-answer.ensures c.finish_with_answer.ensures

pub returns-clause-complete : goal.returns-clause-complete
returns-clause-complete g c = lemmas.complete g.W.Worktree g.I.Interrupt g.O.Owners g.D.Stats g.S.Sink g.E.Sink _ _ _ _ _ _ _ _ _ _ _ _ _ _ _ _ c.parse_and_answer_words-answer.result c.parse_and_answer_words-answer.ensures c.finish_with_answer.ensures

pub returns-clause-refused : goal.returns-clause-refused
returns-clause-refused g c = lemmas.refused g.W.Worktree g.I.Interrupt g.O.Owners g.D.Stats g.S.Sink g.E.Sink _ _ _ _ _ _ _ _ _ _ _ _ _ _ _ _ c.parse_and_answer_words-answer.result c.parse_and_answer_words-answer.ensures (subst (λ (first : List ℕ). EndsWithStatusAndStreams g.S.Sink g.E.Sink c.args.out.now c.finish_with_answer.new.out c.args.err.now c.finish_with_answer.new.err first c.parse_and_answer_words-answer.result c.finish_with_answer.result) c.first_fault.ensures c.finish_with_answer.ensures)

pub returns-clause-stats_unfaulted : goal.returns-clause-stats_unfaulted
returns-clause-stats_unfaulted g c = lemmas.stats_unfaulted g.W.Worktree g.I.Interrupt g.O.Owners g.D.Stats g.S.Sink g.E.Sink _ _ _ _ _ _ _ _ _ _ _ _ _ _ _ _ c.parse_and_answer_words-answer.result c.parse_and_answer_words-answer.ensures c.finish_with_answer.ensures

pub returns-clause-compared : goal.returns-clause-compared
returns-clause-compared g c = lemmas.compared g.W.Worktree g.I.Interrupt g.O.Owners g.D.Stats g.S.Sink g.E.Sink _ _ _ _ _ _ _ _ _ _ _ _ _ _ _ _ c.parse_and_answer_words-answer.result c.parse_and_answer_words-answer.ensures (subst (λ (first : List ℕ). EndsWithStatusAndStreams g.S.Sink g.E.Sink c.args.out.now c.finish_with_answer.new.out c.args.err.now c.finish_with_answer.new.err first c.parse_and_answer_words-answer.result c.finish_with_answer.result) c.first_fault.ensures c.finish_with_answer.ensures)
