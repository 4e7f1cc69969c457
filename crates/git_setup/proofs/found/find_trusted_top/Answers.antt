use Rattle.std.proofs.Common.{ap}
use Rattle.std.proofs.lemmas.Result.{err_from_is_err_and}
use Rattle.gitbase_core.specs.Steps.{and_then}
use Rattle.git_places.specs.Limits.{search_limits_of_surroundings}
use Rattle.git_places.proofs.Carried.{goes_on, stops}
use Rattle.git_setup.specs.Found.{find_trusted_top_within_limits, find_trusted_top}
use Rattle.git_setup.specs.Refusals.{places_result_as_git_result}
use Rattle.git_setup.specs.declared.error.GitRefusal.TheVariants as errors
use Rattle.git_setup.proofs.found.find_trusted_top.Goals as goal

pub returns-in_err-limits : goal.returns-in_err-limits
returns-in_err-limits g c =
    let p = err_from_is_err_and c.from_residual.result c.from_residual.ensures.1 in
    rw (p.1, p.2)
    (stops g.W.Worktree g.O.Owners _ _ _ _ errors.Fault errors.OutOfMemory c.in_err-limits.field-0.0 (λ t owned. places_result_as_git_result (search_limits_of_surroundings t owned c.args.around.now)) (λ t owned. find_trusted_top t owned c.args.around.now)
    (λ t owned h. ap (and_then (find_trusted_top_within_limits t owned c.args.around.now)) h)
    c.in_err-limits.ensures)

pub returns : goal.returns
returns g c =
    goes_on g.W.Worktree g.O.Owners _ _ _ _ _ _ errors.Fault errors.OutOfMemory c.in_ok-limits.limits (λ t owned. places_result_as_git_result (search_limits_of_surroundings t owned c.args.around.now)) (λ t owned. find_trusted_top_within_limits t owned c.args.around.now c.in_ok-limits.limits)
    (λ t owned. find_trusted_top t owned c.args.around.now) c.find_trusted_top_within_limits.result
    (λ t owned h. ap (and_then (find_trusted_top_within_limits t owned c.args.around.now)) h)
    c.in_ok-limits.ensures c.find_trusted_top_within_limits.ensures
