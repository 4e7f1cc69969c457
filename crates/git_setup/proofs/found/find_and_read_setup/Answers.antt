use Rattle.std.proofs.lemmas.Result.{err_from_is_err_and}
use Rattle.git_places.proofs.Carried.{goes_on, stops, with_owners}
use Rattle.git_setup.specs.Found.{read_setup_at_top, find_and_read_setup, find_top_unless_variable_redirects_git}
use Rattle.git_setup.specs.declared.error.GitRefusal.TheVariants as errors
use Rattle.git_setup.proofs.Refused.{found_of, not_found}
use Rattle.git_setup.proofs.found.find_and_read_setup.Goals as goal

pub returns-in_err-top : goal.returns-in_err-top
returns-in_err-top g c =
    let p = err_from_is_err_and c.from_residual.result c.from_residual.ensures.1 in
    rw (p.1, p.2)
    (stops g.W.Worktree g.O.Owners _ _ _ _ errors.Fault errors.OutOfMemory c.in_err-top.field-0.0 (λ t owned. find_top_unless_variable_redirects_git t owned c.args.around.now) (λ t owned. find_and_read_setup t owned c.args.around.now c.args.asked.now)
    (λ t owned h. not_found t owned c.args.around.now c.args.asked.now c.in_err-top.field-0.0 h)
    c.in_err-top.ensures)

pub returns : goal.returns
returns g c =
    goes_on g.W.Worktree g.O.Owners _ _ _ _ _ _ errors.Fault errors.OutOfMemory c.in_ok-top.top (λ t owned. find_top_unless_variable_redirects_git t owned c.args.around.now) (λ t owned. read_setup_at_top t c.args.around.now c.args.asked.now c.in_ok-top.top)
    (λ t owned. find_and_read_setup t owned c.args.around.now c.args.asked.now) c.read_setup_at_top.result
    (λ t owned h. found_of t owned c.args.around.now c.args.asked.now c.in_ok-top.top h)
    c.in_ok-top.ensures
    (with_owners g.W.Worktree g.O.Owners c.find_top_unless_variable_redirects_git.new.worktree c.read_setup_at_top.new.worktree c.find_top_unless_variable_redirects_git.new.owners errors.Fault errors.OutOfMemory (λ t. read_setup_at_top t c.args.around.now c.args.asked.now c.in_ok-top.top) c.read_setup_at_top.result c.read_setup_at_top.ensures)
