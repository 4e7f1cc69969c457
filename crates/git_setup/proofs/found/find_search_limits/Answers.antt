use Rattle.std.proofs.Common.{subst, sym, Result}
use Rattle.git_places.specs.Limits.{SearchLimits, search_limits_of_surroundings}
use Rattle.git_places.specs.declared.error.PlacesError.TheVariants as places
use Rattle.git_places.proofs.Carried.{as_refused}
use Rattle.git_setup.specs.Finds.{FindsOverToldTreeAndOwners}
use Rattle.git_setup.specs.Refusals.{places_result_as_git_result, git_refusal_of_places_error}
use Rattle.git_setup.specs.declared.error.GitRefusal.{GitRefusal}
use Rattle.git_setup.proofs.Stands.{is_places_fault}
use Rattle.git_setup.proofs.found.find_search_limits.Goals as goal

pub returns : goal.returns
returns g c =
    subst (λ (r : Result SearchLimits GitRefusal). FindsOverToldTreeAndOwners g.W.Worktree g.O.Owners c.args.worktree.now c.search_limits_of_surroundings-answer.new.worktree c.args.owners.now c.search_limits_of_surroundings-answer.new.owners (λ t owned. places_result_as_git_result (search_limits_of_surroundings t owned c.args.around.now)) r)
    (sym c.places_result_as_git_result.ensures)
    (as_refused g.W.Worktree g.O.Owners _ _ _ _ git_refusal_of_places_error places.Fault places.OutOfMemory is_places_fault (λ t owned. search_limits_of_surroundings t owned c.args.around.now) c.search_limits_of_surroundings-answer.result c.search_limits_of_surroundings-answer.ensures)
