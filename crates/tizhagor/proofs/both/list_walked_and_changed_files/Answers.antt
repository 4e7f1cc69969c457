use Rattle.std.proofs.Common.{Err, Ok, inl, inr, refl, subst}
use Rattle.std.proofs.lemmas.Result.{err_from_is_err_and}
use Rattle.ls_files.specs.declared.options.Listing.{Listing}
use Rattle.tizhagor.specs.Answers.{AnswersWorkTreeCommand}
use Rattle.tizhagor.specs.Listings.{found_checked_for_ls_files}
use Rattle.tizhagor.specs.TreeWords.{listing_of}
use Rattle.tizhagor.proofs.both.list_walked_and_changed_files.Goals as goal

pub returns-in_err-first : goal.returns-in_err-first
returns-in_err-first g c =
    let p = err_from_is_err_and c.from_residual.result c.from_residual.ensures.1 in
    rw (p.1, p.2)
    (inl (record {
      refusal = c.in_err-first.field-0.0;
      answer_is = refl;
      walks = subst
          (λ (l : Listing). AnswersWorkTreeCommand g.W.Worktree g.I.Interrupt g.O.Owners c.args.worktree.now c.answer_ls_files.new.worktree c.args.interrupt.now c.answer_ls_files.new.interrupt c.args.owners.now c.answer_ls_files.new.owners
          (λ t owned. found_checked_for_ls_files t owned c.args.here.now.current.now c.args.here.now.variables.now c.args.here.now.directory.now (record c.args.both.files { listing = l }) c.args.asked.now) (listing_of (record c.args.both.files { listing = l })) (Err c.in_err-first.field-0.0))
          c.ls_files_options_for_walk_alone-wants.ensures c.in_err-first.ensures;
      stats = refl;
    }))

pub returns : goal.returns
returns g c =
    inr (record {
      middle = c.answer_ls_files.new.worktree;
      owners = c.answer_ls_files.new.owners;
      first = c.in_ok-first.first;
      second = c.answer_ls_files_changed-second.result;
      walks = subst
          (λ (l : Listing). AnswersWorkTreeCommand g.W.Worktree g.I.Interrupt g.O.Owners c.args.worktree.now c.answer_ls_files.new.worktree c.args.interrupt.now c.answer_ls_files.new.interrupt c.args.owners.now c.answer_ls_files.new.owners
          (λ t owned. found_checked_for_ls_files t owned c.args.here.now.current.now c.args.here.now.variables.now c.args.here.now.directory.now (record c.args.both.files { listing = l }) c.args.asked.now) (listing_of (record c.args.both.files { listing = l })) (Ok c.in_ok-first.first))
          c.ls_files_options_for_walk_alone-wants.ensures c.in_ok-first.ensures;
      compares = c.answer_ls_files_changed-second.ensures;
      joined = c.join_replies_unless_second_refused.ensures;
    })
