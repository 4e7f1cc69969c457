use Rattle.std.proofs.Common.{ℕ, ap}
use Rattle.std.proofs.lemmas.Result.{err_from_is_err_and}
use Rattle.gitbase_core.specs.Steps.{and_then}
use Rattle.tizhagor.specs.Changing.{changed_files_reply_of_placed, changed_files_reply_at_index_time}
use Rattle.tizhagor.specs.Comparing.{index_mtime_of_git_dir}
use Rattle.tizhagor.proofs.Besides.{goes_on, stops}
use Rattle.tizhagor.proofs.changed.read_index_time_and_list_changed.Goals as goal

pub returns-in_err-time-clause-finds : goal.returns-in_err-time-clause-finds
returns-in_err-time-clause-finds g c =
    let p = err_from_is_err_and c.from_residual.result c.from_residual.ensures.1 in
    rw (p.1, p.2)
    (stops g.W.Worktree g.D.Stats _ _ _ _ c.in_err-time.field-0.0 (λ t told. index_mtime_of_git_dir t told c.args.placed.now.places.git) (λ t told. changed_files_reply_of_placed t told c.args.placed.now c.args.asked.now c.args.wants.now c.args.standings)
    (λ t told h. ap (and_then (λ (time : ℕ). changed_files_reply_at_index_time t told c.args.placed.now c.args.asked.now c.args.wants.now c.args.standings time)) h)
    c.in_err-time.ensures.finds)

pub returns-clause-finds : goal.returns-clause-finds
returns-clause-finds g c =
    goes_on g.W.Worktree g.D.Stats _ _ _ _ _ _ c.in_ok-time.time (λ t told. index_mtime_of_git_dir t told c.args.placed.now.places.git) (λ t told. changed_files_reply_at_index_time t told c.args.placed.now c.args.asked.now c.args.wants.now c.args.standings c.in_ok-time.time)
    (λ t told. changed_files_reply_of_placed t told c.args.placed.now c.args.asked.now c.args.wants.now c.args.standings) c.read_and_list_changed.result
    (λ t told h. ap (and_then (λ (time : ℕ). changed_files_reply_at_index_time t told c.args.placed.now c.args.asked.now c.args.wants.now c.args.standings time)) h)
    c.in_ok-time.ensures.finds c.read_and_list_changed.ensures.finds
