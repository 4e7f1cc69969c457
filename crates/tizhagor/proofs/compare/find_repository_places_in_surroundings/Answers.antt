use Rattle.std.proofs.Common.{subst, sym, Result, IfErr}
use Rattle.git_places.specs.Places.{RepositoryPlaces}
use Rattle.git_setup.specs.Compared.{find_repository_places}
use Rattle.tizhagor.specs.declared.refusal.CommandRefusal.{CommandRefusal}
use Rattle.tizhagor.specs.Finds.{FindsHereResultOverTreeAndOwners}
use Rattle.tizhagor.specs.Refusals.{git_result_with_here_refusal, MayComeBeforeSetupIsFound}
use Rattle.tizhagor.proofs.Finding.{any_git-is, finds_any}
use Rattle.tizhagor.proofs.compare.find_repository_places_in_surroundings.Goals as goal

pub returns-clause-finds : goal.returns-clause-finds
returns-clause-finds g c =
    subst (λ (r : Result RepositoryPlaces CommandRefusal). FindsHereResultOverTreeAndOwners g.W.Worktree g.O.Owners c.args.worktree.now c.find_repository_places-answer.new.worktree c.args.owners.now c.find_repository_places-answer.new.owners (λ t owned. git_result_with_here_refusal (find_repository_places t owned c.args.around.now)) r)
    (sym c.places_result_with_here_refusal.ensures)
    (finds_any g.W.Worktree g.O.Owners _ _ _ _ (λ t owned. find_repository_places t owned c.args.around.now) c.find_repository_places-answer.result c.find_repository_places-answer.ensures)

pub returns-clause-of : goal.returns-clause-of
returns-clause-of g c = subst (λ (r : Result RepositoryPlaces CommandRefusal). IfErr r MayComeBeforeSetupIsFound) (sym c.places_result_with_here_refusal.ensures) (any_git-is c.find_repository_places-answer.result)
