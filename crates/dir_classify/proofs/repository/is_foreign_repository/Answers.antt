use Rattle.std.proofs.Common.{◌∙◌, ap, sym, Ok}
use Rattle.dir_classify.specs.Layers.{repository_test_of_path}
use Rattle.dir_classify.proofs.Upgrades.{tested-none, tested-own}
use Rattle.dir_classify.proofs.repository.is_foreign_repository.Goals as goal

pub returns-then-not-branch-clause-swallowed : goal.returns-then-not-branch-clause-swallowed
returns-then-not-branch-clause-swallowed g c = λ t told.
    tested-none _ _ (repository_test_of_path t c.args.current_dir.now c.args.git_dir_realpath.now c.args.path.now) c.in_ok-is_git.ensures.kept.faults
    (λ quiet. sym c.if-not-branch.true ∙ c.in_ok-is_git.ensures.answer t told quiet)

pub returns-clause-swallowed : goal.returns-clause-swallowed
returns-clause-swallowed g c = λ t told.
    let here = c.in_ok-is_own.ensures in
    let git = c.in_ok-is_git.ensures in
    tested-own _ _ _ (repository_test_of_path t c.args.current_dir.now c.args.git_dir_realpath.now c.args.path.now) c.in_ok-is_own.is_own git.kept.faults here.kept.faults
    (sym (git.true_only t told (ap Ok c.if-not-branch.false))) (here.answer t (git.kept.tree ∙ told)) (λ is. here.true_only t (git.kept.tree ∙ told) (ap Ok is))
