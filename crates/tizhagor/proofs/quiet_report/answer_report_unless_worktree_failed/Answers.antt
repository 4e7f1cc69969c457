use Rattle.std.proofs.Common.{subst, sym, Result}
use Rattle.worktree_report.specs.declared.refusal.Refusal.{Refusal}
use Rattle.tizhagor.specs.declared.reply.Reply.{Reply}
use Rattle.tizhagor.specs.Asking.{found_around_asked_directory}
use Rattle.tizhagor.specs.TreeWords.{HoldsOfReplyByMaking, report_of}
use Rattle.tizhagor.specs.QuietReport.{ReportsWithoutHiddenFault}
use Rattle.tizhagor.specs.Replies.{plain_reply}
use Rattle.tizhagor.proofs.Here.{by_word, replies_text}
use Rattle.tizhagor.proofs.quiet_report.answer_report_unless_worktree_failed.Goals as goal

pub returns : goal.returns
returns g c =
    let read = c.in_ok-found.ensures.finds in
    by_word g.W.Worktree g.I.Interrupt g.O.Owners _ _ _ _ _ _ (λ t owned. found_around_asked_directory t owned c.args.here.now.current.now c.args.here.now.variables.now c.args.here.now.directory.now c.args.asked.now) (report_of c.args.writing) c.plain_reply_or_program_refusal.result c.reply_result_with_here_refusal.result c.reply_result_with_here_refusal.ensures
    (record {
      here = c.in_ok-found.found;
      is = read.gives;
      loaded = c.find_work_tree_around_asked_directory.new.worktree;
      asks = read.keeps;
      unfaulted = read.unfaulted;
      owners = read.owners;
      owners_unfaulted = read.owners_unfaulted;
      made = subst (λ (r : Result Reply Refusal). HoldsOfReplyByMaking plain_reply (ReportsWithoutHiddenFault g.W.Worktree g.I.Interrupt c.find_work_tree_around_asked_directory.new.worktree c.report_bytes_of_found-answer.new.worktree c.args.interrupt.now c.report_bytes_of_found-answer.new.interrupt c.args.writing c.in_ok-found.found) r)
          (sym c.plain_reply_or_program_refusal.ensures)
          (replies_text (ReportsWithoutHiddenFault g.W.Worktree g.I.Interrupt c.find_work_tree_around_asked_directory.new.worktree c.report_bytes_of_found-answer.new.worktree c.args.interrupt.now c.report_bytes_of_found-answer.new.interrupt c.args.writing c.in_ok-found.found) c.report_bytes_of_found-answer.result c.report_bytes_of_found-answer.ensures);
    })
