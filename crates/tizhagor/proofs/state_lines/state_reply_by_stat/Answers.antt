use Rattle.std.proofs.Common.{◌≡◌, ◌∙◌, ap, subst, sym, Result, IfErr}
use Rattle.command_line.specs.declared.compare_options.Comparing.{Comparing}
use Rattle.diff_files.specs.declared.comparison.Comparison.{Comparison}
use Rattle.tizhagor.specs.declared.refusal.CommandRefusal.{CommandRefusal}
use Rattle.tizhagor.specs.declared.reply.Reply.{Reply}
use Rattle.tizhagor.specs.Compares.{FindsOverTreeAndStats}
use Rattle.tizhagor.specs.Comparing.{comparison_of_request_and_settings, state_reply_by_stat}
use Rattle.tizhagor.specs.Refusals.{MayComeBeforeSetupIsFound}
use Rattle.tizhagor.specs.StateLines.{MakesStateLinesByStat, diff_options_without_submodules}
use Rattle.tizhagor.proofs.Besides.{of_states, of_states-is}
use Rattle.tizhagor.proofs.state_lines.state_reply_by_stat.Goals as goal

pub returns-clause-finds : goal.returns-clause-finds
returns-clause-finds g c =
    let same = c.comparison_of_request_and_settings-comparison.ensures ∙ ap (λ (k : Comparing). comparison_of_request_and_settings k c.args.compared.now.settings c.args.index_time) c.diff_options_without_submodules.ensures in
    subst (λ (r : Result Reply CommandRefusal). FindsOverTreeAndStats g.W.Worktree g.D.Stats c.args.worktree.now c.make_state_lines_by_stat-answer.new.worktree c.args.stats.now c.make_state_lines_by_stat-answer.new.stats (λ t told. state_reply_by_stat t told c.args.writing c.args.compared.now c.args.index_time) r)
    (sym c.reply_of_state_lines.ensures)
    (of_states g.W.Worktree g.D.Stats _ _ _ _ c.args.compared.now.root c.args.compared.now.index c.args.compared.now.details (comparison_of_request_and_settings diff_options_without_submodules c.args.compared.now.settings c.args.index_time) c.args.compared.now.specs c.args.writing c.make_state_lines_by_stat-answer.result
    (subst (λ (o : Comparison). MakesStateLinesByStat g.W.Worktree g.D.Stats c.args.worktree.now c.make_state_lines_by_stat-answer.new.worktree c.args.stats.now c.make_state_lines_by_stat-answer.new.stats c.args.compared.now.root c.args.compared.now.index c.args.compared.now.details o c.args.compared.now.specs c.args.writing c.make_state_lines_by_stat-answer.result) same c.make_state_lines_by_stat-answer.ensures))

pub returns-clause-of : goal.returns-clause-of
returns-clause-of g c = subst (λ (r : Result Reply CommandRefusal). IfErr r MayComeBeforeSetupIsFound) (sym c.reply_of_state_lines.ensures) (of_states-is c.make_state_lines_by_stat-answer.result)
