use Rattle.std.proofs.Common.{◌≡◌, ◌∙◌, rules}
use Rattle.gitbase_core.specs.Path.{path_joined_with_slash}
use Rattle.dir_classify.specs.Class.{dot_git_bytes}
use Rattle.dir_classify.proofs.Upgrades.{upgraded-unasked, upgraded-at, upgraded-below}
use Rattle.dir_classify.proofs.repository.maybe_upgrade_to_repository.Goals as goal

pub returns-then-recurse_repositories-clause-swallowed : goal.returns-then-recurse_repositories-clause-swallowed
returns-then-recurse_repositories-clause-swallowed g c = λ t told. upgraded-unasked _ _ c.args.find_harder c.args.current_kind _ _ c.if-recurse_repositories.true

pub returns-then-branch-clause-swallowed : goal.returns-then-branch-clause-swallowed
returns-then-branch-clause-swallowed g c = λ t told.
    upgraded-at _ _ _ c.args.find_harder c.args.current_kind _ _ c.if-recurse_repositories.false (rw c.if-branch.true at (c.in_ok-is_foreign_repository_if_asked.ensures.swallowed t told))

pub returns-then-branch-2-clause-swallowed : goal.returns-then-branch-2-clause-swallowed
returns-then-branch-2-clause-swallowed g c = λ t told.
    let git_is : c.as_bytes.result.now ≡ path_joined_with_slash c.args.path.now dot_git_bytes = search rules in
    let second = c.in_ok-is_foreign_repository.ensures.swallowed t (c.in_ok-is_foreign_repository_if_asked.ensures.keeps.tree ∙ told) in
    upgraded-below _ _ _ c.args.find_harder c.args.current_kind _ _ c.if-recurse_repositories.false _ _ (rw c.if-branch.false at (c.in_ok-is_foreign_repository_if_asked.ensures.swallowed t told))
    (rw (git_is, c.if-branch-2.true) at second)

pub returns-clause-swallowed : goal.returns-clause-swallowed
returns-clause-swallowed g c = λ t told.
    let git_is : c.as_bytes.result.now ≡ path_joined_with_slash c.args.path.now dot_git_bytes = search rules in
    let second = c.in_ok-is_foreign_repository.ensures.swallowed t (c.in_ok-is_foreign_repository_if_asked.ensures.keeps.tree ∙ told) in
    upgraded-below _ _ _ c.args.find_harder c.args.current_kind _ _ c.if-recurse_repositories.false _ _ (rw c.if-branch.false at (c.in_ok-is_foreign_repository_if_asked.ensures.swallowed t told))
    (rw (git_is, c.if-branch-2.false) at second)
