use Rattle.std.proofs.Common.{◌≡◌, IfOk, subst}
use Rattle.gitbase_core.specs.Path.{path_joined_with_slash}
use Rattle.diff_files.specs.declared.judged.Judged.{Judged}
use Rattle.diff_files.specs.States.{resolve_judged_change}
use Rattle.diff_files.specs.Standing.{judge_path_for_ls_files}
use Rattle.diff_files.proofs.path_state.change_for_ls_files_modified.Goals as goal

pub returns-clause-standing : goal.returns-clause-standing
returns-clause-standing g c = λ o told.
    let same : c.in_ok-judged.judged ≡ judge_path_for_ls_files o.stats c.args.comparison.now (path_joined_with_slash c.args.root.now c.args.entry.now.path) c.args.entry.now c.args.detail.now
    = rw (← c.in_ok-full.ensures) (c.in_ok-judged.ensures.judged o.stats told.1) in
    subst (λ (judged : Judged). IfOk c.resolve_judged_change.result (λ change. change ≡ resolve_judged_change o.tree (path_joined_with_slash c.args.root.now c.args.entry.now.path) c.args.entry.now.id judged)) same
    (c.resolve_judged_change.ensures.change o.tree told.0)
