use Rattle.std.proofs.Common.{rules}
use Rattle.std.proofs.lemmas.Result.{err_from_is_err_and}
use Rattle.dir_classify.specs.Layers.{setting_of_shared}
use Rattle.dir_walk.proofs.Walked.Forked.{job-memory, job-worktree}
use Rattle.dir_walk.proofs.jobs.walk_with_worktree_fork.Goals as goal

pub returns-in_err-fork-clause-job : goal.returns-in_err-fork-clause-job
returns-in_err-fork-clause-job g c =
    let p = err_from_is_err_and c.from_residual.result c.from_residual.ensures.1 in rw (p.1, p.2) (job-memory g.W.Worktree g.F.Find g.I.Interrupt g.D.Delegate)

pub returns-clause-job : goal.returns-clause-job
returns-clause-job g c =
    let a = c.args in
    let forked = c.in_ok-fork.ensures in
    let absorbed = c.absorb.ensures in
    job-worktree g.W.Worktree g.F.Find g.I.Interrupt g.D.Delegate a.parts.now.worktree.now (setting_of_shared g.M.Matcher a.shared.now) a.place.now.path a.class.now c.walk_with_store_fork-result.result
    forked.tree forked.faults forked.list_faults absorbed.tree absorbed.faults absorbed.later absorbed.list_faults absorbed.list_faults_later absorbed.reads_later absorbed.lists absorbed.precomposes (search rules)
