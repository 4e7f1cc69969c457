use Rattle.std.proofs.Common.{subst, sym, Result, IfErr}
use Rattle.tizhagor.specs.declared.refusal.CommandRefusal.{CommandRefusal}
use Rattle.tizhagor.specs.declared.reply.Reply.{Reply}
use Rattle.tizhagor.specs.Compares.{FindsOverTreeAndStats}
use Rattle.tizhagor.specs.Comparing.{comparison_of_request_and_settings, diff_files_reply_of_comparison}
use Rattle.tizhagor.specs.Refusals.{MayComeBeforeSetupIsFound}
use Rattle.tizhagor.proofs.Besides.{of_diff-is, of_differences}
use Rattle.tizhagor.proofs.compare.diff_files_reply.Goals as goal

pub returns-clause-finds : goal.returns-clause-finds
returns-clause-finds g c =
    subst (λ (r : Result Reply CommandRefusal). FindsOverTreeAndStats g.W.Worktree g.D.Stats c.args.worktree.now c.diff_files-answer.new.worktree c.args.stats.now c.diff_files-answer.new.stats (λ t told. diff_files_reply_of_comparison t told c.args.comparing.now c.args.compared.now c.args.index_time) r)
    (sym c.reply_of_differences.ensures)
    (of_differences g.W.Worktree g.D.Stats _ _ _ _ c.args.compared.now.root c.args.compared.now.index c.args.compared.now.details (comparison_of_request_and_settings c.args.comparing.now c.args.compared.now.settings c.args.index_time) c.args.compared.now.specs c.args.comparing.now c.diff_files-answer.result
    (rw (← c.comparison_of_request_and_settings-comparison.ensures, ← c.as_bytes.ensures, ← c.as_slice.ensures) c.diff_files-answer.ensures))

pub returns-clause-of : goal.returns-clause-of
returns-clause-of g c = subst (λ (r : Result Reply CommandRefusal). IfErr r MayComeBeforeSetupIsFound) (sym c.reply_of_differences.ensures) (of_diff-is c.args.comparing.now c.diff_files-answer.result)
