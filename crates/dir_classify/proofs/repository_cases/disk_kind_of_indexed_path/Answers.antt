use Rattle.std.proofs.Common.{◌&&◌, ◌∙◌, sym, false, arith}
use Rattle.dir_classify.specs.Chosen.{walk_options_of}
use Rattle.gitbase_core.specs.Path.{path_joined_with_slash}
use Rattle.dir_classify.specs.Class.{kind_after_repository_test, dot_git_bytes}
use Rattle.dir_classify.specs.Layers.{repository_test_of_path}
use Rattle.dir_classify.specs.Kinds.{is_plain_directory_kind, is_repository_kind}
use Rattle.dir_classify.proofs.Upgrades.{seen-off, seen-on, exactly-on}
use Rattle.dir_classify.proofs.Most.{most-indexed}
use Rattle.dir_classify.proofs.repository_cases.disk_kind_of_indexed_path.Goals as goal

pub returns-then-not-is_directory_of_indexed_submodule-clause-swallowed : goal.returns-then-not-is_directory_of_indexed_submodule-clause-swallowed
returns-then-not-is_directory_of_indexed_submodule-clause-swallowed g c = λ t told.
    seen-off _ (is_plain_directory_kind c.args.kind && is_repository_kind c.args.entry.kind) (kind_after_repository_test (walk_options_of c.args.shared.now.options).recurse_repositories false c.args.kind) _ _ c.args.kind (sym c.is_directory_of_indexed_submodule.ensures ∙ c.if-not-is_directory_of_indexed_submodule.true)

pub returns-clause-kind : goal.returns-clause-kind
returns-clause-kind g c = λ t told quiet.
    exactly-on (is_plain_directory_kind c.args.kind && is_repository_kind c.args.entry.kind) (kind_after_repository_test (walk_options_of c.args.shared.now.options).recurse_repositories false c.args.kind) (repository_test_of_path t c.args.shared.now.current_dir.now c.args.shared.now.git_dir_realpath.now c.args.full.now) (repository_test_of_path t c.args.shared.now.current_dir.now c.args.shared.now.git_dir_realpath.now (path_joined_with_slash c.args.full.now dot_git_bytes)) c.args.kind c.in_ok-seen.seen (sym c.is_directory_of_indexed_submodule.ensures ∙ c.if-not-is_directory_of_indexed_submodule.false) (c.in_ok-seen.ensures.kind t told quiet)

pub returns-clause-swallowed : goal.returns-clause-swallowed
returns-clause-swallowed g c = λ t told.
    seen-on _ _ (is_plain_directory_kind c.args.kind && is_repository_kind c.args.entry.kind) (kind_after_repository_test (walk_options_of c.args.shared.now.options).recurse_repositories false c.args.kind) _ _ c.args.kind c.in_ok-seen.seen (sym c.is_directory_of_indexed_submodule.ensures ∙ c.if-not-is_directory_of_indexed_submodule.false) (c.in_ok-seen.ensures.swallowed t told)

pub returns-clause-reads_most : goal.returns-clause-reads_most
returns-clause-reads_most g c = omega (arith, c.in_ok-seen.ensures.reads_most, most-indexed (walk_options_of c.args.shared.now.options))

pub returns-in_err-seen-clause-reads_most : goal.returns-in_err-seen-clause-reads_most
returns-in_err-seen-clause-reads_most g c = omega (arith, c.in_err-seen.ensures.reads_most, most-indexed (walk_options_of c.args.shared.now.options))
