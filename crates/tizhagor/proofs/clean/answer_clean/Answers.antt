use Rattle.std.proofs.Common.{subst, sym, Result}
use Rattle.worktree_report.specs.declared.refusal.Refusal.{Refusal}
use Rattle.tizhagor.specs.declared.reply.Reply.{Reply}
use Rattle.tizhagor.specs.Cleanings.{AnswersCleanDryRunOfFound, found_checked_for_clean}
use Rattle.tizhagor.specs.TreeWords.{HoldsOfReplyByMaking, cleaning_of}
use Rattle.tizhagor.specs.Replies.{plain_reply}
use Rattle.tizhagor.proofs.Here.{by_word, replies_text}
use Rattle.tizhagor.proofs.clean.answer_clean.Goals as goal

pub returns : goal.returns
returns g c =
    let read = c.in_ok-found.ensures.finds in
    by_word g.W.Worktree g.I.Interrupt g.O.Owners _ _ _ _ _ _ (λ t owned. found_checked_for_clean t owned c.args.here.now.current.now c.args.here.now.variables.now c.args.here.now.directory.now c.args.wants.now c.args.asked) (cleaning_of c.args.wants.now) c.plain_reply_or_program_refusal.result c.reply_result_with_here_refusal.result c.reply_result_with_here_refusal.ensures
    (record {
      here = c.in_ok-found.found;
      is = read.gives;
      loaded = c.find_setup_checked_for_clean.new.worktree;
      asks = read.keeps;
      unfaulted = read.unfaulted;
      owners = read.owners;
      owners_unfaulted = read.owners_unfaulted;
      made = subst (λ (r : Result Reply Refusal). HoldsOfReplyByMaking plain_reply (AnswersCleanDryRunOfFound g.W.Worktree g.I.Interrupt c.find_setup_checked_for_clean.new.worktree c.clean_dry_run_of_found-answer.new.worktree c.args.interrupt.now c.clean_dry_run_of_found-answer.new.interrupt c.args.wants.now c.in_ok-found.found) r)
          (sym c.plain_reply_or_program_refusal.ensures)
          (replies_text (AnswersCleanDryRunOfFound g.W.Worktree g.I.Interrupt c.find_setup_checked_for_clean.new.worktree c.clean_dry_run_of_found-answer.new.worktree c.args.interrupt.now c.clean_dry_run_of_found-answer.new.interrupt c.args.wants.now c.in_ok-found.found) c.clean_dry_run_of_found-answer.result c.clean_dry_run_of_found-answer.ensures);
    })
