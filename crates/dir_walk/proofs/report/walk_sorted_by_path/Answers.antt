-- What was collected is sorted by its paths; each clause on what was given is one on the sorted entries.
use Rattle.std.proofs.Common.{Some, refl, ap, subst, List, ℕ, length, cond, not, arith, rules}
use Rattle.std.proofs.lemmas.List.Sorted.{length_permutation, sum_by-IsPermutation}
use Rattle.std.proofs.lemmas.Result.{err_from_is_err_and}
use Rattle.dir_classify.specs.Chosen.{walk_options_of}
use Rattle.dir_classify.specs.Excludes.{setup_of_optional_stack}
use Rattle.dir_classify.specs.Layers.{setting_of_context}
use Rattle.dir_walk.specs.declared.report.Report.{Report}
use Rattle.dir_walk.specs.Emissions.{Emission, is_entry_shown_by_options}
use Rattle.dir_walk.specs.Puts.{count_hidden_emissions}
use Rattle.dir_walk.specs.WalkRefused.{default_without_refusals}
use Rattle.dir_walk.specs.Walks.{GivesReportOfWalk}
use Rattle.dir_walk.proofs.Gives.ByPath.{ascends-given, distinct-given, from-root, is-report}
use Rattle.dir_walk.proofs.Walked.WalksSo.{walks-memory, walks-more, walks-other}
use Rattle.dir_walk.proofs.report.walk_sorted_by_path.Goals as goal

pub returns-clause-gives : goal.returns-clause-gives
returns-clause-gives g c = λ s tells quiet.
    let a = c.args in
    let given = setting_of_context g.M.Matcher a.worktree_root.now a.options a.ctx in
    let made = setup_of_optional_stack a.ctx.excludes.now in
    let explicit = a.ctx.explicit_traversal_root.now in
    let tree = g.met.W.Worktree.is_tree a.ctx.worktree.now s.tree tells.tells.tree_is in
    is-report given made s explicit a.ctx.depth_limit tree c.walk_by_strategy.new.delegate.unorded_entries c.in_ok-entries.entries c.in_ok-outcome.outcome c.in_ok-outcome.root
    (subst (λ (before : List Emission). GivesReportOfWalk given made s explicit a.ctx.depth_limit (Some before) (Some c.walk_by_strategy.new.delegate.unorded_entries) (c.in_ok-outcome.outcome, c.in_ok-outcome.root)) c.new-delegate.ensures
    (c.in_ok-outcome.ensures.feeds.gives s tells refl quiet (omega arith)))
    c.in_ok-entries.ensures.sorted

pub returns-in_err-outcome-clause-walks_worktree : goal.returns-in_err-outcome-clause-walks_worktree
returns-in_err-outcome-clause-walks_worktree g c =
    let a = c.args in
    let p = err_from_is_err_and c.from_residual.result c.from_residual.ensures.1 in
    rw (p.1, p.2)
    (walks-other g.W.Worktree g.F.Find g.I.Interrupt a.strategy (setting_of_context g.M.Matcher a.worktree_root.now a.options a.ctx) a.ctx.explicit_traversal_root.now a.ctx.depth_limit default_without_refusals (λ r. r.0) (λ r. r.1) (λ r. r.outcome) (λ r. r.root) c.in_err-outcome.field-0.0
    c.in_err-outcome.ensures.walks_worktree)

pub returns-in_err-entries-clause-walks_worktree : goal.returns-in_err-entries-clause-walks_worktree
returns-in_err-entries-clause-walks_worktree g c =
    let a = c.args in
    let p = err_from_is_err_and c.from_residual-in_err-entries.result c.from_residual-in_err-entries.ensures.1 in
    rw (p.1, p.2)
    (walks-memory g.W.Worktree g.F.Find g.I.Interrupt a.strategy (setting_of_context g.M.Matcher a.worktree_root.now a.options a.ctx) a.ctx.explicit_traversal_root.now a.ctx.depth_limit default_without_refusals (λ r. r.0) (λ r. r.1) (λ r. r.outcome) (λ r. r.root)
    (c.in_ok-outcome.outcome, c.in_ok-outcome.root) c.in_ok-outcome.ensures.walks_worktree)

pub returns-clause-walks_worktree : goal.returns-clause-walks_worktree
returns-clause-walks_worktree g c =
    let a = c.args in
    let made : Report = record { outcome = c.in_ok-outcome.outcome; root = c.in_ok-outcome.root; entries = c.in_ok-entries.entries } in
    walks-more g.W.Worktree g.F.Find g.I.Interrupt a.strategy (setting_of_context g.M.Matcher a.worktree_root.now a.options a.ctx) a.ctx.explicit_traversal_root.now a.ctx.depth_limit default_without_refusals (λ r. r.0) (λ r. r.1) (λ r. r.outcome) (λ r. r.root)
    (c.in_ok-outcome.outcome, c.in_ok-outcome.root) made refl refl c.in_ok-outcome.ensures.walks_worktree

pub returns-clause-any_worktree : goal.returns-clause-any_worktree
returns-clause-any_worktree g c =
    let a = c.args in
    let o = walk_options_of a.options in
    let given = setting_of_context g.M.Matcher a.worktree_root.now a.options a.ctx in
    let explicit = a.ctx.explicit_traversal_root.now in
    let got = c.walk_by_strategy.new.delegate.unorded_entries in
    record {
      ordered = ascends-given got c.in_ok-entries.entries (distinct-given given explicit _ _ c.new-delegate.result.unorded_entries got c.new-delegate.ensures c.in_ok-outcome.ensures.feeds.once) c.in_ok-entries.ensures.sorted;
      counted = omega (
        arith,
        c.in_ok-outcome.ensures.feeds.returned refl,
        ap {B = ℕ} (λ (xs : List Emission). length xs) c.new-delegate.ensures,
        length_permutation got c.in_ok-entries.entries c.in_ok-entries.ensures.same,
      );
      seen = search rules;
      filtered = omega (
        arith,
        c.in_ok-outcome.ensures.feeds.filtered,
        ap {B = ℕ} (λ (xs : List Emission). count_hidden_emissions o xs) c.new-delegate.ensures,
        sum_by-IsPermutation (λ (x : Emission). cond (not (is_entry_shown_by_options o x.0)) 1 0) got c.in_ok-entries.entries c.in_ok-entries.ensures.same,
      );
      once = from-root given explicit c.in_ok-outcome.outcome c.in_ok-outcome.root c.new-delegate.result.unorded_entries got c.in_ok-entries.entries c.new-delegate.ensures c.in_ok-entries.ensures.same c.in_ok-outcome.ensures.feeds.once;
    }
