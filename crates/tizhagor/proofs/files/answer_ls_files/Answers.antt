use Rattle.std.proofs.Common.{subst, sym, Result}
use Rattle.worktree_report.specs.declared.refusal.Refusal.{Refusal}
use Rattle.tizhagor.specs.declared.reply.Reply.{Reply}
use Rattle.tizhagor.specs.Listings.{AnswersLsFilesOfFound, found_checked_for_ls_files, reply_of_listed_files}
use Rattle.tizhagor.specs.TreeWords.{HoldsOfReplyByMaking, listing_of}
use Rattle.tizhagor.proofs.Here.{by_word, replies_listed}
use Rattle.tizhagor.proofs.files.answer_ls_files.Goals as goal

pub returns : goal.returns
returns g c =
    let read = c.in_ok-found.ensures.finds in
    by_word g.W.Worktree g.I.Interrupt g.O.Owners _ _ _ _ _ _ (λ t owned. found_checked_for_ls_files t owned c.args.here.now.current.now c.args.here.now.variables.now c.args.here.now.directory.now c.args.wants.now c.args.asked.now) (listing_of c.args.wants.now) c.reply_of_ls_files_answer.result c.reply_result_with_here_refusal.result c.reply_result_with_here_refusal.ensures
    (record {
      here = c.in_ok-found.found;
      is = read.gives;
      loaded = c.find_setup_checked_for_ls_files.new.worktree;
      asks = read.keeps;
      unfaulted = read.unfaulted;
      owners = read.owners;
      owners_unfaulted = read.owners_unfaulted;
      made = subst (λ (r : Result Reply Refusal). HoldsOfReplyByMaking reply_of_listed_files (AnswersLsFilesOfFound g.W.Worktree g.I.Interrupt c.find_setup_checked_for_ls_files.new.worktree c.list_files_of_found-answer.new.worktree c.args.interrupt.now c.list_files_of_found-answer.new.interrupt c.args.wants.now c.in_ok-found.found) r)
          (sym c.reply_of_ls_files_answer.ensures)
          (replies_listed (AnswersLsFilesOfFound g.W.Worktree g.I.Interrupt c.find_setup_checked_for_ls_files.new.worktree c.list_files_of_found-answer.new.worktree c.args.interrupt.now c.list_files_of_found-answer.new.interrupt c.args.wants.now c.in_ok-found.found) c.list_files_of_found-answer.result c.list_files_of_found-answer.ensures);
    })
