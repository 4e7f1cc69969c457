use Rattle.std.proofs.Common.{rules}
use Rattle.std.proofs.lemmas.Result.{err_from_is_err_and}
use Rattle.dir_classify.specs.Layers.{setting_of_shared}
use Rattle.dir_walk.proofs.Walked.Forked.{job-memory, job-store}
use Rattle.dir_walk.proofs.jobs.walk_with_store_fork.Goals as goal

pub returns-in_err-fork-clause-job : goal.returns-in_err-fork-clause-job
returns-in_err-fork-clause-job g c =
    let p = err_from_is_err_and c.from_residual.result c.from_residual.ensures.1 in rw (p.1, p.2) (job-memory g.W.Worktree g.F.Find g.I.Interrupt g.D.Delegate)

pub returns-clause-job : goal.returns-clause-job
returns-clause-job g c =
    let a = c.args in
    let forked = c.in_ok-fork.ensures in
    let absorbed = c.absorb.ensures in
    job-store g.W.Worktree g.F.Find g.I.Interrupt g.D.Delegate a.parts.now.objects.now (setting_of_shared g.M.Matcher a.shared.now) a.place.now.path a.class.now c.walk_with_interrupt_fork-result.result
    forked.held forked.faults absorbed.held absorbed.faults absorbed.later (search rules)
