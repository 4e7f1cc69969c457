use Rattle.std.proofs.Common.{ap}
use Rattle.std.proofs.lemmas.Result.{err_from_is_err_and}
use Rattle.gitbase_core.specs.Steps.{and_then}
use Rattle.tizhagor.specs.Comparing.{find_work_tree_and_repository_places, comparison_reply_around_directory, comparison_reply_if_options_agree}
use Rattle.tizhagor.specs.declared.compare.Placed.{Placed}
use Rattle.tizhagor.proofs.Besides.{behind_owners, stops_before}
use Rattle.tizhagor.proofs.compare.answer_diff_files_or_state_lines.Goals as goal

pub returns-in_err-placed : goal.returns-in_err-placed
returns-in_err-placed g c =
    let p = err_from_is_err_and c.from_residual.result c.from_residual.ensures.1 in
    rw (p.1, p.2)
    (stops_before g.W.Worktree g.O.Owners g.D.Stats _ _ _ _ _ c.in_err-placed.field-0.0 (λ t owned. find_work_tree_and_repository_places t owned c.args.here.now.current.now c.args.here.now.variables.now c.args.here.now.directory.now)
    (λ t owned told. comparison_reply_around_directory t owned told c.args.here.now.current.now c.args.here.now.variables.now c.args.here.now.directory.now c.args.asked.now c.args.lines)
    (λ t owned told h. ap (and_then (λ (placed : Placed). comparison_reply_if_options_agree t told placed c.args.asked.now c.args.lines)) h)
    c.in_err-placed.ensures.finds c.in_err-placed.ensures.of)

pub returns : goal.returns
returns g c =
    behind_owners g.W.Worktree g.O.Owners g.D.Stats _ _ _ _ _ _ _ c.in_ok-placed.placed (λ t owned. find_work_tree_and_repository_places t owned c.args.here.now.current.now c.args.here.now.variables.now c.args.here.now.directory.now)
    (λ t told. comparison_reply_if_options_agree t told c.in_ok-placed.placed c.args.asked.now c.args.lines)
    (λ t owned told. comparison_reply_around_directory t owned told c.args.here.now.current.now c.args.here.now.variables.now c.args.here.now.directory.now c.args.asked.now c.args.lines) c.compare_unless_name_options_conflict.result
    (λ t owned told h. ap (and_then (λ (placed : Placed). comparison_reply_if_options_agree t told placed c.args.asked.now c.args.lines)) h)
    c.in_ok-placed.ensures.finds c.compare_unless_name_options_conflict.ensures.finds c.compare_unless_name_options_conflict.ensures.of
