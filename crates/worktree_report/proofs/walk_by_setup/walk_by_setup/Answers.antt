use Rattle.std.proofs.lemmas.Result.{err_from_is_err_and}
use Rattle.worktree_report.proofs.Walks.{Reports-memory}
use Rattle.worktree_report.proofs.walk_by_setup.walk_by_setup.Goals as goal

pub returns-in_err-lookup : goal.returns-in_err-lookup
returns-in_err-lookup g c =
    let p = err_from_is_err_and c.from_residual.result c.from_residual.ensures.1 in
    rw (p.1, p.2) (Reports-memory g.W.Worktree g.F.Find g.I.Interrupt _ _ _ c.args.root.now c.args.setup.now)

pub returns-in_err-git_dir : goal.returns-in_err-git_dir
returns-in_err-git_dir g c =
    let p = err_from_is_err_and c.from_residual-in_err-git_dir.result c.from_residual-in_err-git_dir.ensures.1 in
    rw (p.1, p.2) (Reports-memory g.W.Worktree g.F.Find g.I.Interrupt _ _ _ c.args.root.now c.args.setup.now)
