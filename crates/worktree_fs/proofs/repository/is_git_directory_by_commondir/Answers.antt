use Rattle.std.proofs.Common.{◌≡◌, ◌∙◌, IfOk, List, ℕ, subst}
use Rattle.worktree_fs.specs.Repository.{is_git_directory}
use Rattle.worktree_fs.proofs.repository.is_git_directory_by_commondir.Goals as goal

pub returns-clause-answer : goal.returns-clause-answer
returns-clause-answer g c = λ t told.
    subst (λ (d : List ℕ). IfOk c.is_git_directory.result (λ is. is ≡ is_git_directory t c.args.git.now d))
    (c.as_bytes.ensures ∙ c.in_ok-common.ensures.answer t told)
    (c.is_git_directory.ensures.answer t (c.common_git_directory.ensures.kept.tree ∙ told))
