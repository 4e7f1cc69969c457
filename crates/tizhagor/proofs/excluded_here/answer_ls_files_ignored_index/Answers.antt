use Rattle.std.proofs.Common.{ap}
use Rattle.std.proofs.lemmas.Result.{err_from_is_err_and}
use Rattle.gitbase_core.specs.Steps.{and_then}
use Rattle.git_setup.specs.declared.found.Found.{Found}
use Rattle.tizhagor.specs.Excluding.{found_checked_for_ignored_index, ignored_index_reply_around_directory, ignored_index_reply_of_found}
use Rattle.tizhagor.proofs.Checked.{behind_owners, stops_before}
use Rattle.tizhagor.proofs.excluded_here.answer_ls_files_ignored_index.Goals as goal

pub returns-in_err-found : goal.returns-in_err-found
returns-in_err-found g c =
    let p = err_from_is_err_and c.from_residual.result c.from_residual.ensures.1 in
    rw (p.1, p.2)
    (stops_before g.W.Worktree g.O.Owners _ _ _ _ c.in_err-found.field-0.0 (λ t owned. found_checked_for_ignored_index t owned c.args.here.now.current.now c.args.here.now.variables.now c.args.here.now.directory.now c.args.wants.now c.args.asked.now)
    (λ t owned. ignored_index_reply_around_directory t owned c.args.here.now.current.now c.args.here.now.variables.now c.args.here.now.directory.now c.args.wants.now c.args.asked.now)
    (λ t owned h. ap (and_then (λ (here : Found). ignored_index_reply_of_found t c.args.wants.now here)) h)
    c.in_err-found.ensures.finds c.in_err-found.ensures.of)

pub returns : goal.returns
returns g c =
    behind_owners g.W.Worktree g.O.Owners _ _ _ _ _ c.in_ok-found.found (λ t owned. found_checked_for_ignored_index t owned c.args.here.now.current.now c.args.here.now.variables.now c.args.here.now.directory.now c.args.wants.now c.args.asked.now)
    (λ t. ignored_index_reply_of_found t c.args.wants.now c.in_ok-found.found)
    (λ t owned. ignored_index_reply_around_directory t owned c.args.here.now.current.now c.args.here.now.variables.now c.args.here.now.directory.now c.args.wants.now c.args.asked.now) c.list_ignored_index_of_found.result
    (λ t owned h. ap (and_then (λ (here : Found). ignored_index_reply_of_found t c.args.wants.now here)) h)
    c.in_ok-found.ensures.finds c.list_ignored_index_of_found.ensures.looks c.list_ignored_index_of_found.ensures.of
