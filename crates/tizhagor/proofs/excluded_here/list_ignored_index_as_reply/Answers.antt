use Rattle.std.proofs.Common.{subst, sym, Result, IfErr}
use Rattle.ls_files.specs.Excluded.{output_of_ignored_index_or_error}
use Rattle.tizhagor.specs.declared.refusal.CommandRefusal.{CommandRefusal}
use Rattle.tizhagor.specs.declared.reply.Reply.{Reply}
use Rattle.tizhagor.specs.Checks.{FindsReplyOverTree}
use Rattle.tizhagor.specs.Excluding.{reply_of_ignored_index_listing}
use Rattle.tizhagor.specs.Refusals.{MayComeBeforeSetupIsFound}
use Rattle.tizhagor.proofs.Excluded.{as_reply-is, of_answer}
use Rattle.tizhagor.proofs.excluded_here.list_ignored_index_as_reply.Goals as goal

pub returns-clause-looks : goal.returns-clause-looks
returns-clause-looks g c =
    subst (λ (r : Result Reply CommandRefusal). FindsReplyOverTree g.W.Worktree c.args.worktree.now c.list_ignored_index_entries-answer.new.worktree (λ t. reply_of_ignored_index_listing (output_of_ignored_index_or_error t c.args.root.now c.args.setup.now c.args.listing.now c.args.prefix.now c.args.named.now)) r)
    (sym c.reply_of_ignored_index_listing.ensures)
    (of_answer g.W.Worktree _ _ (λ t. output_of_ignored_index_or_error t c.args.root.now c.args.setup.now c.args.listing.now c.args.prefix.now c.args.named.now) c.list_ignored_index_entries-answer.result c.list_ignored_index_entries-answer.ensures)

pub returns-clause-of : goal.returns-clause-of
returns-clause-of g c = subst (λ (r : Result Reply CommandRefusal). IfErr r MayComeBeforeSetupIsFound) (sym c.reply_of_ignored_index_listing.ensures) (as_reply-is c.list_ignored_index_entries-answer.result)
