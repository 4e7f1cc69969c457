use Rattle.std.proofs.Common.{refl, arith}
use Rattle.std.proofs.lemmas.Result.{err_from_is_err_and}
use Rattle.dir_classify.specs.Layers.{setting_of_context}
use Rattle.dir_walk.specs.declared.strategy.Strategy.TheVariants.{AtOnce}
use Rattle.dir_walk.specs.WalkRefused.{default_without_refusals}
use Rattle.dir_walk.specs.Walks.{full_root_path_of_answer}
use Rattle.dir_walk.proofs.Gives.Collected.{collects-given, collects-refused}
use Rattle.dir_walk.proofs.Walked.WalksSo.{walks-more, walks-other}
use Rattle.dir_walk.proofs.at_once.walk_at_once.Goals as goal

pub returns-in_err-outcome-clause-collects : goal.returns-in_err-outcome-clause-collects
returns-in_err-outcome-clause-collects g c =
    let p = err_from_is_err_and c.from_residual.result c.from_residual.ensures.1 in
    rw (p.1, p.2) (collects-refused g.W.Worktree g.F.Find c.in_err-outcome.field-0.0)

pub returns-in_err-outcome-clause-walks_worktree : goal.returns-in_err-outcome-clause-walks_worktree
returns-in_err-outcome-clause-walks_worktree g c =
    let a = c.args in
    let p = err_from_is_err_and c.from_residual.result c.from_residual.ensures.1 in
    rw (p.1, p.2)
    (walks-other g.W.Worktree g.F.Find g.I.Interrupt AtOnce (setting_of_context g.M.Matcher a.worktree_root.now a.options a.ctx) a.ctx.explicit_traversal_root.now a.ctx.depth_limit default_without_refusals (λ r. r.0) (λ r. r.1) (λ r. r.0) full_root_path_of_answer c.in_err-outcome.field-0.0
    c.in_err-outcome.ensures.walks_worktree)

pub returns-clause-collects : goal.returns-clause-collects
returns-clause-collects g c =
    let a = c.args in
    let feeds = c.in_ok-outcome.ensures.feeds in
    collects-given g.W.Worktree g.F.Find (setting_of_context g.M.Matcher a.worktree_root.now a.options a.ctx) a.ctx.explicit_traversal_root.now a.ctx.depth_limit c.in_ok-outcome.outcome c.in_ok-outcome.root c.walk_by_strategy.new.delegate
    c.new-delegate.result.unorded_entries c.new-delegate.ensures (λ s tells quiet. feeds.gives s tells refl quiet (omega arith)) feeds.filtered feeds.once (feeds.returned refl) feeds.seen

pub returns-clause-walks_worktree : goal.returns-clause-walks_worktree
returns-clause-walks_worktree g c =
    let a = c.args in
    walks-more g.W.Worktree g.F.Find g.I.Interrupt AtOnce (setting_of_context g.M.Matcher a.worktree_root.now a.options a.ctx) a.ctx.explicit_traversal_root.now a.ctx.depth_limit default_without_refusals (λ r. r.0) (λ r. r.1) (λ r. r.0) full_root_path_of_answer
    (c.in_ok-outcome.outcome, c.in_ok-outcome.root) (c.in_ok-outcome.outcome, c.in_ok-outcome.root, c.walk_by_strategy.new.delegate) refl refl c.in_ok-outcome.ensures.walks_worktree
