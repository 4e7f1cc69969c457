use Rattle.std.proofs.Common.{◌≡◌, ◌<◌, ◌≤◌, ◌+◌, List, length, get_or, Ok, sym, ap, if◌then◌else◌, subst, ◌∙◌, rules}
use Rattle.std.proofs.lemmas.Result.{err_from_is_err_and}
use Rattle.worktree_fs.specs.Causes.{saturating_sum}
use Rattle.worktree_report.specs.ConfigFiles.{ConfigFile}
use Rattle.worktree_report.specs.Loading.{append_config_if_admitted}
use Rattle.worktree_report.specs.Loads.{ReadsFilesAtMost}
use Rattle.worktree_report.specs.Permissions.{admits}
use Rattle.worktree_report.proofs.Stopping.{LoadsFiles-more, LoadsFiles-within, Stops-config, read_more, reads-more, same_more}
use Rattle.worktree_report.proofs.modules.read_admitted_configs.Goals as goal

pub loop-i-preserved : goal.loop-i-preserved
loop-i-preserved g c =
    let before = c.loop-i.invariant in
    let now = c.in_ok-config.ensures in
    let permissions = c.args.setup.now.options.permissions in
    let configs = c.args.setup.now.configs in
    let inside : c.loop-i.i < length configs = search rules in
    let is : c.named-item.result ≡ get_or configs c.loop-i.i c.named-item.result =
    c.named-item.is ∙ ap (λ (xs : List ConfigFile). get_or xs c.loop-i.i c.named-item.result) c.as_slice-named-items.ensures in
    record {
      same = λ t told.
          same_more t permissions configs c.loop-i.i c.named-item.result c.loop-i.config c.in_ok-config.config _ inside (before.same t told)
          (subst (λ (x : ConfigFile). append_config_if_admitted t permissions (c.loop-i.i + 1) x c.loop-i.config ≡ Ok c.in_ok-config.config) is (now.gives t (before.loads.tree ∙ told)));
      read = λ t told.
          read_more t permissions configs c.loop-i.i c.named-item.result c.loop-i.config c.in_ok-config.config inside (before.read t told)
          (subst (λ (x : ConfigFile). append_config_if_admitted t permissions (c.loop-i.i + 1) x c.loop-i.config ≡ Ok c.in_ok-config.config) is (now.gives t (before.loads.tree ∙ told)));
      files =
          reads-more permissions configs c.loop-i.i c.named-item.result _ _ _ inside before.files
          (subst (λ (x : ConfigFile). saturating_sum (g.W.Worktree.reads c.loop-i.worktree) (if admits permissions x.0 then 1 else 0) ≤ g.W.Worktree.reads c.append_config_if_admitted.new.worktree) is now.read);
      unfaulted = now.unfaulted ∙ before.unfaulted;
      loads =
          LoadsFiles-more g.W.Worktree _ c.loop-i.worktree c.append_config_if_admitted.new.worktree permissions configs c.loop-i.i c.named-item.result inside before.loads
          (subst (λ (x : ConfigFile). ReadsFilesAtMost g.W.Worktree c.loop-i.worktree c.append_config_if_admitted.new.worktree (if admits permissions x.0 then 1 else 0)) is now.loads);
    }

pub returns-in_err-config-clause-stops : goal.returns-in_err-config-clause-stops
returns-in_err-config-clause-stops g c =
    let before = c.loop-i.invariant in
    let now = c.in_err-config.ensures in
    let configs = c.args.setup.now.configs in
    let inside : c.loop-i.i < length configs = search rules in
    let is : c.named-item.result ≡ get_or configs c.loop-i.i c.named-item.result =
    c.named-item.is ∙ ap (λ (xs : List ConfigFile). get_or xs c.loop-i.i c.named-item.result) c.as_slice-named-items.ensures in
    let p = err_from_is_err_and c.from_residual.result c.from_residual.ensures.1 in
    rw (p.1, p.2)
    (Stops-config g.W.Worktree c.args.worktree.now c.loop-i.worktree c.append_config_if_admitted.new.worktree c.args.setup.now _ c.loop-i.i c.named-item.result c.loop-i.config c.in_err-config.field-0.0
    now.answers now.outside before.read before.loads.reads now.loads.reads c.named-item.result inside (sym is))

pub returns-in_err-config-clause-loads : goal.returns-in_err-config-clause-loads
returns-in_err-config-clause-loads g c =
    let before = c.loop-i.invariant in
    let now = c.in_err-config.ensures in
    let permissions = c.args.setup.now.options.permissions in
    let configs = c.args.setup.now.configs in
    let inside : c.loop-i.i < length configs = search rules in
    let is : c.named-item.result ≡ get_or configs c.loop-i.i c.named-item.result =
    c.named-item.is ∙ ap (λ (xs : List ConfigFile). get_or xs c.loop-i.i c.named-item.result) c.as_slice-named-items.ensures in
    LoadsFiles-within g.W.Worktree _ c.append_config_if_admitted.new.worktree permissions configs (c.loop-i.i + 1)
    (LoadsFiles-more g.W.Worktree _ c.loop-i.worktree c.append_config_if_admitted.new.worktree permissions configs c.loop-i.i c.named-item.result inside before.loads
    (subst (λ (x : ConfigFile). ReadsFilesAtMost g.W.Worktree c.loop-i.worktree c.append_config_if_admitted.new.worktree (if admits permissions x.0 then 1 else 0)) is now.loads))
