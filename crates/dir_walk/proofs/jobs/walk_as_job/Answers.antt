use Rattle.std.proofs.lemmas.Result.{err_from_is_err_and}
use Rattle.dir_walk.proofs.Walked.Forked.{job-memory, job-rules}
use Rattle.dir_walk.proofs.jobs.walk_as_job.Goals as goal

pub returns-in_err-rules-clause-job : goal.returns-in_err-rules-clause-job
returns-in_err-rules-clause-job g c =
    let p = err_from_is_err_and c.from_residual.result c.from_residual.ensures.1 in rw (p.1, p.2) (job-memory g.W.Worktree g.F.Find g.I.Interrupt g.D.Delegate)

pub returns-clause-job : goal.returns-clause-job
returns-clause-job g c = job-rules g.W.Worktree g.F.Find g.I.Interrupt g.D.Delegate c.in_ok-rules.ensures.made c.in_ok-rules.ensures.in_step c.walk_with_worktree_fork.ensures.job
