use Rattle.std.proofs.Common.{subst, sym, Result, IfErr}
use Rattle.tizhagor.specs.declared.refusal.CommandRefusal.{CommandRefusal}
use Rattle.tizhagor.specs.declared.reply.Reply.{Reply}
use Rattle.tizhagor.specs.Changing.{default_comparison_of_settings, changed_files_reply_of_comparison, ls_files_options_with_config_quoting}
use Rattle.tizhagor.specs.Compares.{FindsOverTreeAndStats}
use Rattle.tizhagor.specs.Refusals.{MayComeBeforeSetupIsFound}
use Rattle.tizhagor.proofs.Changes.{of_listing, of_listing-is}
use Rattle.tizhagor.proofs.changed.list_changed_as_reply.Goals as goal

pub returns-clause-finds : goal.returns-clause-finds
unfolding changed_files_reply_of_comparison
returns-clause-finds g c =
    subst (λ (r : Result Reply CommandRefusal). FindsOverTreeAndStats g.W.Worktree g.D.Stats c.args.worktree.now c.list_deleted_and_modified-answer.new.worktree c.args.stats.now c.list_deleted_and_modified-answer.new.stats (λ t told. changed_files_reply_of_comparison t told c.args.asked.now.wants.now c.args.asked.now.standings c.args.compared.now c.args.prefix.now c.args.named.now c.args.asked.now.index_time) r)
    (sym c.reply_of_deleted_and_modified.ensures)
    (of_listing g.W.Worktree g.D.Stats _ _ _ _ c.args.compared.now.root c.args.compared.now.index c.args.compared.now.details (default_comparison_of_settings c.args.compared.now.settings c.args.asked.now.index_time) c.args.asked.now.standings (ls_files_options_with_config_quoting c.args.asked.now.wants.now c.args.compared.now.settings) c.args.prefix.now c.args.named.now c.args.compared.now.specs c.list_deleted_and_modified-answer.result
    (rw (← c.default_comparison_of_settings-comparison.ensures, ← c.ls_files_options_with_config_quoting-listing.ensures, ← c.as_bytes.ensures, ← c.as_slice-details.ensures) c.list_deleted_and_modified-answer.ensures))

pub returns-clause-of : goal.returns-clause-of
returns-clause-of g c = subst (λ (r : Result Reply CommandRefusal). IfErr r MayComeBeforeSetupIsFound) (sym c.reply_of_deleted_and_modified.ensures) (of_listing-is c.list_deleted_and_modified-answer.result)
