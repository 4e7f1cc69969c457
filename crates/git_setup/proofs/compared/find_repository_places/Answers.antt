use Rattle.std.proofs.Common.{ap}
use Rattle.std.proofs.lemmas.Result.{err_from_is_err_and}
use Rattle.git_places.proofs.Carried.{goes_on, stops, with_owners}
use Rattle.git_places.specs.Places.{places_of_work_tree_top}
use Rattle.git_setup.specs.Compared.{find_repository_places}
use Rattle.git_setup.specs.Found.{find_top_unless_variable_redirects_git}
use Rattle.git_setup.specs.Refusals.{places_result_as_git_result}
use Rattle.git_setup.specs.declared.error.GitRefusal.TheVariants as errors
use Rattle.git_setup.proofs.Located.{located, not_located}
use Rattle.git_setup.proofs.compared.find_repository_places.Goals as goal

pub returns-in_err-top : goal.returns-in_err-top
returns-in_err-top g c =
    let p = err_from_is_err_and c.from_residual.result c.from_residual.ensures.1 in
    rw (p.1, p.2)
    (stops g.W.Worktree g.O.Owners _ _ _ _ errors.Fault errors.OutOfMemory c.in_err-top.field-0.0 (λ t owned. find_top_unless_variable_redirects_git t owned c.args.around.now) (λ t owned. find_repository_places t owned c.args.around.now)
    (λ t owned h. not_located t owned c.args.around.now c.in_err-top.field-0.0 h)
    c.in_err-top.ensures)

pub returns : goal.returns
returns g c =
    goes_on g.W.Worktree g.O.Owners _ _ _ _ _ _ errors.Fault errors.OutOfMemory c.in_ok-top.top (λ t owned. find_top_unless_variable_redirects_git t owned c.args.around.now) (λ t owned. places_result_as_git_result (places_of_work_tree_top t c.in_ok-top.top))
    (λ t owned. find_repository_places t owned c.args.around.now) c.repository_places_of_top.result
    (λ t owned h. located t owned c.args.around.now c.in_ok-top.top h)
    c.in_ok-top.ensures
    (with_owners g.W.Worktree g.O.Owners c.find_top_unless_variable_redirects_git.new.worktree c.repository_places_of_top.new.worktree c.find_top_unless_variable_redirects_git.new.owners errors.Fault errors.OutOfMemory (λ t. places_result_as_git_result (places_of_work_tree_top t c.in_ok-top.top)) c.repository_places_of_top.result c.repository_places_of_top.ensures)
