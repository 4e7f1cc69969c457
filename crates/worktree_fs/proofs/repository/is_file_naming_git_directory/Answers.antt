use Rattle.std.proofs.Common.{◌∙◌, sym}
use Rattle.worktree_fs.proofs.Routes.Repositories.{file_there, git-named}
use Rattle.worktree_fs.proofs.repository.is_file_naming_git_directory.Goals as goal

pub returns-in-Some-clause-answer : goal.returns-in-Some-clause-answer
returns-in-Some-clause-answer g c = λ t told.
    git-named t c.args.path.now c.as_bytes.result.now c.in-Some.git.now c.as_bytes-in-Some.result.now c.is_git_directory_by_commondir.result
    (file_there _ _ _ _ (c.in_ok-read_file_if_present.ensures.answer t told) c.if-not-branch.false c.as_bytes.ensures)
    (sym c.in-Some.ensures)
    (c.as_bytes-in-Some.ensures ∙ c.in_ok-git-in-Some.ensures)
    (c.is_git_directory_by_commondir.ensures.answer t (c.read_file_if_present.ensures.kept.tree ∙ told))
