use Rattle.std.proofs.Common.{ℕ, ap}
use Rattle.std.proofs.lemmas.Result.{err_from_is_err_and}
use Rattle.gitbase_core.specs.Steps.{and_then}
use Rattle.tizhagor.specs.Comparing.{index_mtime_of_git_dir, comparison_reply_of_placed, comparison_reply_at_index_time}
use Rattle.tizhagor.proofs.Besides.{goes_on, stops}
use Rattle.tizhagor.proofs.compare.read_index_time_and_compare.Goals as goal

pub returns-in_err-time-clause-finds : goal.returns-in_err-time-clause-finds
returns-in_err-time-clause-finds g c =
    let p = err_from_is_err_and c.from_residual.result c.from_residual.ensures.1 in
    rw (p.1, p.2)
    (stops g.W.Worktree g.D.Stats _ _ _ _ c.in_err-time.field-0.0 (λ t told. index_mtime_of_git_dir t told c.args.placed.now.places.git) (λ t told. comparison_reply_of_placed t told c.args.placed.now c.args.asked.now c.args.lines)
    (λ t told h. ap (and_then (λ (time : ℕ). comparison_reply_at_index_time t told c.args.placed.now c.args.asked.now c.args.lines time)) h)
    c.in_err-time.ensures.finds)

pub returns-clause-finds : goal.returns-clause-finds
returns-clause-finds g c =
    goes_on g.W.Worktree g.D.Stats _ _ _ _ _ _ c.in_ok-time.time (λ t told. index_mtime_of_git_dir t told c.args.placed.now.places.git) (λ t told. comparison_reply_at_index_time t told c.args.placed.now c.args.asked.now c.args.lines c.in_ok-time.time)
    (λ t told. comparison_reply_of_placed t told c.args.placed.now c.args.asked.now c.args.lines) c.read_index_and_compare_work_tree.result
    (λ t told h. ap (and_then (λ (time : ℕ). comparison_reply_at_index_time t told c.args.placed.now c.args.asked.now c.args.lines time)) h)
    c.in_ok-time.ensures.finds c.read_index_and_compare_work_tree.ensures.finds
