use Rattle.std.proofs.lemmas.Result.{err_from_is_err_and}
use Rattle.worktree_report.proofs.Walks.{Reports-memory, Reports-walked}
use Rattle.worktree_report.proofs.walk_by_setup.walk_with_ignore_rules_of_setup.Goals as goal

pub returns-in_err-excludes : goal.returns-in_err-excludes
returns-in_err-excludes g c =
    let p = err_from_is_err_and c.from_residual.result c.from_residual.ensures.1 in
    rw (p.1, p.2) (Reports-memory g.W.Worktree g.F.Find g.I.Interrupt _ _ _ c.args.root.now c.args.setup.now)

pub returns : goal.returns
returns g c = Reports-walked c.in_ok-excludes.ensures.made c.in_ok-excludes.ensures.in_step c.walk_with_rules_and_lookup.ensures.gives c.walk_with_rules_and_lookup.ensures.any_worktree c.walk_with_rules_and_lookup.ensures.walks_worktree
