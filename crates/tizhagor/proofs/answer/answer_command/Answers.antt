-- The task of a command is that of what it demands.
use Rattle.std.proofs.Common.{subst}
use Rattle.tizhagor.specs.Answers.{CommandTask, call_environment_of_called}
use Rattle.tizhagor.specs.ComparedHere.{AnswersAnyTask}
use Rattle.tizhagor.proofs.answer.answer_command.Goals as goal

pub returns : goal.returns
returns g c =
    subst (λ (task : CommandTask). AnswersAnyTask g.W.Worktree g.I.Interrupt g.O.Owners g.D.Stats c.args.worktree.now c.answer_demand.new.worktree c.args.interrupt.now c.answer_demand.new.interrupt c.args.owners.now c.answer_demand.new.owners c.args.stats.now c.answer_demand.new.stats (call_environment_of_called c.args.called.now) c.args.directory.now c.answer_demand.result task)
    c.demand_of_command-demand.ensures
    c.answer_demand.ensures
