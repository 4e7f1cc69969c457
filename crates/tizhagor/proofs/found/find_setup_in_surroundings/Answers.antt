use Rattle.std.proofs.Common.{subst, sym, Result, IfErr}
use Rattle.git_setup.specs.Found.{find_and_read_setup}
use Rattle.git_setup.specs.declared.found.Found.{Found}
use Rattle.tizhagor.specs.declared.refusal.CommandRefusal.{CommandRefusal}
use Rattle.tizhagor.specs.Finds.{FindsHereResultOverTreeAndOwners}
use Rattle.tizhagor.specs.Refusals.{git_result_with_here_refusal, MayComeBeforeSetupIsFound}
use Rattle.tizhagor.proofs.Finding.{as_git-is, finds_as}
use Rattle.tizhagor.proofs.found.find_setup_in_surroundings.Goals as goal

pub returns-clause-finds : goal.returns-clause-finds
returns-clause-finds g c =
    subst (λ (r : Result Found CommandRefusal). FindsHereResultOverTreeAndOwners g.W.Worktree g.O.Owners c.args.worktree.now c.find_and_read_setup-answer.new.worktree c.args.owners.now c.find_and_read_setup-answer.new.owners (λ t owned. git_result_with_here_refusal (find_and_read_setup t owned c.args.around.now c.args.asked.now)) r)
    (sym c.found_result_with_here_refusal.ensures)
    (finds_as g.W.Worktree g.O.Owners _ _ _ _ (λ t owned. find_and_read_setup t owned c.args.around.now c.args.asked.now) c.find_and_read_setup-answer.result c.find_and_read_setup-answer.ensures)

pub returns-clause-of : goal.returns-clause-of
returns-clause-of g c = subst (λ (r : Result Found CommandRefusal). IfErr r MayComeBeforeSetupIsFound) (sym c.found_result_with_here_refusal.ensures) (as_git-is c.find_and_read_setup-answer.result)
