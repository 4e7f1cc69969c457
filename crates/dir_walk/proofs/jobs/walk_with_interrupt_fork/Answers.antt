use Rattle.std.proofs.Common.{rules}
use Rattle.std.proofs.lemmas.Result.{err_from_is_err_and}
use Rattle.dir_classify.specs.Layers.{setting_of_shared}
use Rattle.dir_walk.proofs.Walked.Forked.{job-directory, job-interrupt, job-memory}
use Rattle.dir_walk.proofs.jobs.walk_with_interrupt_fork.Goals as goal

pub returns-in_err-fork-clause-job : goal.returns-in_err-fork-clause-job
returns-in_err-fork-clause-job g c =
    let p = err_from_is_err_and c.from_residual.result c.from_residual.ensures.1 in rw (p.1, p.2) (job-memory g.W.Worktree g.F.Find g.I.Interrupt g.D.Delegate)

pub returns-clause-job : goal.returns-clause-job
returns-clause-job g c =
    let a = c.args in
    let forked = c.in_ok-fork.ensures in
    let absorbed = c.absorb.ensures in
    let walked = job-directory c.walk_directory-result.ensures.told c.walk_directory-result.ensures.walks c.walk_directory-result.ensures.opens in
    job-interrupt g.W.Worktree g.F.Find g.I.Interrupt g.D.Delegate a.parts.now.interrupt.now (setting_of_shared g.M.Matcher a.shared.now) a.place.now.path a.class.now c.walk_directory-result.result
    forked.questions forked.raised absorbed.questions absorbed.raised absorbed.later (search rules)
