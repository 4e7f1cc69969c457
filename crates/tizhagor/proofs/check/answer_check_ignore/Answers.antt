use Rattle.std.proofs.Common.{ap}
use Rattle.std.proofs.lemmas.Result.{err_from_is_err_and}
use Rattle.gitbase_core.specs.Steps.{and_then}
use Rattle.tizhagor.specs.Checking.{check_ignore_reply_around_directory, check_ignore_reply_if_options_valid}
use Rattle.tizhagor.specs.Comparing.{find_work_tree_and_repository_places}
use Rattle.tizhagor.specs.declared.compare.Placed.{Placed}
use Rattle.tizhagor.proofs.Checked.{behind_owners, stops_before}
use Rattle.tizhagor.proofs.check.answer_check_ignore.Goals as goal

pub returns-in_err-placed : goal.returns-in_err-placed
returns-in_err-placed g c =
    let p = err_from_is_err_and c.from_residual.result c.from_residual.ensures.1 in
    rw (p.1, p.2)
    (stops_before g.W.Worktree g.O.Owners _ _ _ _ c.in_err-placed.field-0.0 (λ t owned. find_work_tree_and_repository_places t owned c.args.here.now.current.now c.args.here.now.variables.now c.args.here.now.directory.now)
    (λ t owned. check_ignore_reply_around_directory t owned c.args.here.now.current.now c.args.here.now.variables.now c.args.here.now.directory.now c.args.asked.now c.args.wants.now c.args.input.now)
    (λ t owned h. ap (and_then (λ (placed : Placed). check_ignore_reply_if_options_valid t placed c.args.asked.now c.args.wants.now c.args.input.now)) h)
    c.in_err-placed.ensures.finds c.in_err-placed.ensures.of)

pub returns : goal.returns
returns g c =
    behind_owners g.W.Worktree g.O.Owners _ _ _ _ _ c.in_ok-placed.placed (λ t owned. find_work_tree_and_repository_places t owned c.args.here.now.current.now c.args.here.now.variables.now c.args.here.now.directory.now)
    (λ t. check_ignore_reply_if_options_valid t c.in_ok-placed.placed c.args.asked.now c.args.wants.now c.args.input.now)
    (λ t owned. check_ignore_reply_around_directory t owned c.args.here.now.current.now c.args.here.now.variables.now c.args.here.now.directory.now c.args.asked.now c.args.wants.now c.args.input.now) c.check_ignore_paths_if_options_valid.result
    (λ t owned h. ap (and_then (λ (placed : Placed). check_ignore_reply_if_options_valid t placed c.args.asked.now c.args.wants.now c.args.input.now)) h)
    c.in_ok-placed.ensures.finds c.check_ignore_paths_if_options_valid.ensures.looks c.check_ignore_paths_if_options_valid.ensures.of
