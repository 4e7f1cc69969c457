use Rattle.std.proofs.Common.{◌≡◌, ◌∙◌, Some, true, rules}
use Rattle.worktree_fs.specs.Tree.{look}
use Rattle.worktree_fs.specs.Answers.{kind_of_lookup}
use Rattle.worktree_fs.specs.declared.answers.NodeKind.TheVariants as kinds
use Rattle.worktree_fs.proofs.Routes.Repositories.{directory-kind, file-kind, git-directory, git-file}
use Rattle.worktree_fs.proofs.repository.try_is_git_repository.Goals as goal

pub returns-in-Some-Directory-clause-answer : goal.returns-in-Some-Directory-clause-answer
returns-in-Some-Directory-clause-answer g c = λ t told.
    let answer = c.kind_following.ensures.answer t told in
    let kind : Some kinds.Directory ≡ kind_of_lookup (look t c.args.path.now true) = search rules in
    git-directory t c.args.path.now c.is_git_directory.result (directory-kind (look t c.args.path.now true) kind)
    (c.is_git_directory.ensures.answer t (c.kind_following.ensures.tree ∙ told))

pub returns-in-Some-File-clause-answer : goal.returns-in-Some-File-clause-answer
returns-in-Some-File-clause-answer g c = λ t told.
    let answer = c.kind_following.ensures.answer t told in
    let kind : Some kinds.File ≡ kind_of_lookup (look t c.args.path.now true) = search rules in
    git-file t c.args.path.now c.is_file_naming_git_directory.result (file-kind (look t c.args.path.now true) kind)
    (c.is_file_naming_git_directory.ensures.answer t (c.kind_following.ensures.tree ∙ told))
