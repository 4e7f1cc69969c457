use Rattle.std.proofs.Common.{◌∙◌, sym, arith}
use Rattle.dir_classify.specs.Chosen.{walk_options_of, finds_bare_repositories_in_ignored}
use Rattle.gitbase_core.specs.Path.{path_joined_with_slash}
use Rattle.dir_classify.specs.Class.{kind_after_repository_test, deletion_finds_repositories_in_ignored, dot_git_bytes}
use Rattle.dir_classify.specs.Layers.{repository_test_of_path}
use Rattle.dir_classify.proofs.Upgrades.{seen-off, seen-on, exactly-on}
use Rattle.dir_classify.proofs.Most.{most-ignored}
use Rattle.dir_classify.proofs.repository_cases.disk_kind_of_ignored_path.Goals as goal

pub returns-then-not-deletion_finds_repositories_in_ignored-clause-swallowed : goal.returns-then-not-deletion_finds_repositories_in_ignored-clause-swallowed
returns-then-not-deletion_finds_repositories_in_ignored-clause-swallowed g c = λ t told.
    seen-off _ (deletion_finds_repositories_in_ignored (walk_options_of c.args.shared.now.options)) (kind_after_repository_test (walk_options_of c.args.shared.now.options).recurse_repositories (finds_bare_repositories_in_ignored (walk_options_of c.args.shared.now.options).for_deletion) c.args.kind) _ _ c.args.kind (sym c.deletion_finds_repositories_in_ignored.ensures ∙ c.if-not-deletion_finds_repositories_in_ignored.true)

pub returns-clause-kind : goal.returns-clause-kind
returns-clause-kind g c = λ t told quiet.
    exactly-on (deletion_finds_repositories_in_ignored (walk_options_of c.args.shared.now.options)) (kind_after_repository_test (walk_options_of c.args.shared.now.options).recurse_repositories (finds_bare_repositories_in_ignored (walk_options_of c.args.shared.now.options).for_deletion) c.args.kind) (repository_test_of_path t c.args.shared.now.current_dir.now c.args.shared.now.git_dir_realpath.now c.args.full.now) (repository_test_of_path t c.args.shared.now.current_dir.now c.args.shared.now.git_dir_realpath.now (path_joined_with_slash c.args.full.now dot_git_bytes)) c.args.kind c.in_ok-seen.seen (sym c.deletion_finds_repositories_in_ignored.ensures ∙ c.if-not-deletion_finds_repositories_in_ignored.false) (rw c.deletion_finds_bare_in_ignored-hard.ensures at (c.in_ok-seen.ensures.kind t told quiet))

pub returns-clause-swallowed : goal.returns-clause-swallowed
returns-clause-swallowed g c = λ t told.
    seen-on _ _ (deletion_finds_repositories_in_ignored (walk_options_of c.args.shared.now.options)) (kind_after_repository_test (walk_options_of c.args.shared.now.options).recurse_repositories (finds_bare_repositories_in_ignored (walk_options_of c.args.shared.now.options).for_deletion) c.args.kind) _ _ c.args.kind c.in_ok-seen.seen (sym c.deletion_finds_repositories_in_ignored.ensures ∙ c.if-not-deletion_finds_repositories_in_ignored.false) (rw c.deletion_finds_bare_in_ignored-hard.ensures at (c.in_ok-seen.ensures.swallowed t told))

pub returns-clause-reads_most : goal.returns-clause-reads_most
returns-clause-reads_most g c = omega (arith, rw c.deletion_finds_bare_in_ignored-hard.ensures at c.in_ok-seen.ensures.reads_most, most-ignored (walk_options_of c.args.shared.now.options))

pub returns-in_err-seen-clause-reads_most : goal.returns-in_err-seen-clause-reads_most
returns-in_err-seen-clause-reads_most g c = omega (arith, rw c.deletion_finds_bare_in_ignored-hard.ensures at c.in_err-seen.ensures.reads_most, most-ignored (walk_options_of c.args.shared.now.options))
