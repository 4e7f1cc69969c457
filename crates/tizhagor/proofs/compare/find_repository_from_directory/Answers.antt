use Rattle.std.proofs.Common.{◌≡◌, Ok, Err, ap, subst}
use Rattle.std.proofs.lemmas.Result.{err_from_is_err_and}
use Rattle.gitbase_core.specs.Steps.{and_then}
use Rattle.git_places.proofs.Carried.{stops}
use Rattle.git_places.specs.Places.{RepositoryPlaces}
use Rattle.git_places.specs.Surroundings.{Surroundings}
use Rattle.git_places.specs.Variables.{surroundings_of_variables}
use Rattle.git_setup.specs.Compared.{find_repository_places}
use Rattle.tizhagor.specs.Comparing.{places_result_with_here_refusal, find_repository_from_directory, placed_of_fields}
use Rattle.tizhagor.specs.Refusals.{fault, memory}
use Rattle.tizhagor.proofs.compare.find_repository_from_directory.Goals as goal

pub returns-in_err-places-clause-finds : goal.returns-in_err-places-clause-finds
returns-in_err-places-clause-finds g c =
    let p = err_from_is_err_and c.from_residual-in_err-places.result c.from_residual-in_err-places.ensures.1 in
    rw (p.1, p.2)
    (stops g.W.Worktree g.O.Owners _ _ _ _ fault memory c.in_err-places.field-0.0 (λ t owned. places_result_with_here_refusal (find_repository_places t owned c.in_ok-around.around)) (λ t owned. find_repository_from_directory t owned c.args.variables.now c.args.directory.now)
    (λ t owned h. ap (and_then (placed_of_fields (surroundings_of_variables c.args.directory.now c.args.variables.now))) (subst (λ (around : Surroundings). places_result_with_here_refusal (find_repository_places t owned around) ≡ Err c.in_err-places.field-0.0) c.in_ok-around.ensures h))
    c.in_err-places.ensures.finds)
