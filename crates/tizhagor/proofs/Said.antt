-- What follows of what one of git's own words says, by what was found.
use Rattle.std.proofs.Common.{◌≡◌, ◌⊎◌, ℕ, Bool, Option, Some, option_map, Result, Ok, Err, ap, sym, ◌∙◌, refl, arith}
use Rattle.git_setup.specs.declared.found.Found.{Found}
use Rattle.worktree_fs.specs.declared.interrupt.Interrupt.{Ghosts as InterruptOf}
use Rattle.worktree_fs.specs.declared.worktree.Worktree.{Ghosts as WorktreeOf}
use Rattle.worktree_fs.specs.Causes.{CountIncreasedOrSaturated, CountNotIncreased}
use Rattle.worktree_fs.specs.Tree.{Names}
use Rattle.worktree_report.specs.declared.refusal.Refusal.{Refusal}
use Rattle.worktree_report.specs.declared.refusal.Refusal.TheVariants as refusals
use Rattle.tizhagor.specs.declared.reply.Reply.{Reply}
use Rattle.tizhagor.specs.Cleanings as clean
use Rattle.tizhagor.specs.Listings.{reply_of_listed_files}
use Rattle.tizhagor.specs.TreeWords.{IsWorkTreeCommandAnswerable, WorkTreeCommand, RefusesWorkTreeCommand, AnswersCommandOfFound, cleaning_of, listing_of, report_of, reply_of_command_over_tree}
use Rattle.tizhagor.specs.ProgramLines.{status_of_program_refusal}
use Rattle.tizhagor.specs.Replies.{plain_reply}
use Rattle.tizhagor.proofs.ByCall as calls
use Rattle.tizhagor.proofs.Listed as lists

-- the reply of what is made
mapped : {A : Type 0} (f : A → Reply) {x : Option A} {made : A} {reply : Reply} → x ≡ Some made → reply ≡ f made → option_map f x ≡ Some reply
mapped f is same = ap (option_map f) is ∙ ap Some (sym same)

module _ {W I : Type 0} (w : WorktreeOf W) (i : InterruptOf I) (w0 w1 : W) (i0 i1 : I) (here : Found) where
  -- it is the one that is asked for
  pub reply_is : (word : WorkTreeCommand) (reply : Reply) → AnswersCommandOfFound w i w0 w1 i0 i1 here (Ok reply) word → (t : Names) → w.told w0 ≡ Some t → reply_of_command_over_tree (w.precomposes w0) t here word ≡ Some reply
  reply_is (listing_of listing) reply a t told = mapped reply_of_listed_files (lists.listing_is w i w0 w1 i0 i1 here listing a.made a.makes t told) a.reply_is
  reply_is (cleaning_of wants) reply a t told = mapped plain_reply (a.makes.gives t told) a.reply_is
  reply_is (report_of writing) reply a t told = mapped plain_reply (a.makes.gives t told) a.reply_is

  -- and comes without a fault
  pub unfaulted : (word : WorkTreeCommand) (reply : Reply) → AnswersCommandOfFound w i w0 w1 i0 i1 here (Ok reply) word → w.faults w1 ≡ w.faults w0
  unfaulted (listing_of listing) reply a = lists.unfaulted w i w0 w1 i0 i1 here listing a.made a.makes
  unfaulted (cleaning_of wants) reply a = let quiet = a.makes.unfaulted in let faults = a.makes.worktree.faults in omega (arith, quiet, faults)
  unfaulted (report_of writing) reply a = let quiet = a.makes.unfaulted in let faults = a.makes.worktree.faults in omega (arith, quiet, faults)

  -- the tree stays told
  pub tree : (word : WorkTreeCommand) (reply : Reply) → AnswersCommandOfFound w i w0 w1 i0 i1 here (Ok reply) word → w.told w1 ≡ w.told w0
  tree (listing_of listing) reply a = lists.tree w i w0 w1 i0 i1 here listing a.made a.makes
  tree (cleaning_of wants) reply a = a.makes.worktree.tree
  tree (report_of writing) reply a = a.makes.worktree.tree

  -- an interrupt was raised
  pub interrupt_cause : (word : WorkTreeCommand) (refusal : Refusal) → AnswersCommandOfFound w i w0 w1 i0 i1 here (Err refusal) word → refusal ≡ refusals.Interrupted → CountIncreasedOrSaturated (i.raised i0) (i.raised i1)
  interrupt_cause (listing_of listing) refusal a is = lists.interrupt_cause w i w0 w1 i0 i1 here listing refusal a is
  interrupt_cause (cleaning_of wants) refusal a is = calls.text-interrupted w i w0 w1 i0 i1 here.root here.setup (clean.clean_setup_for_found wants here) 0 refusal a.refused is
  interrupt_cause (report_of writing) refusal a is = calls.text-interrupted w i w0 w1 i0 i1 here.root here.setup here.setup 0 refusal a.refused is

  -- for what can be had only memory may be wanted
  pub complete : (word : WorkTreeCommand) (refusal : Refusal) → AnswersCommandOfFound w i w0 w1 i0 i1 here (Err refusal) word → (t : Names) → w.told w0 ≡ Some t → CountNotIncreased (w.faults w0) (w.faults w1) → CountNotIncreased (i.raised i0) (i.raised i1)
      → IsWorkTreeCommandAnswerable (w.precomposes w0) t here word → refusal ≡ refusals.OutOfMemory
  complete (listing_of listing) refusal a t told quiet calm ready = lists.complete w i w0 w1 i0 i1 here listing refusal a t told quiet calm ready
  complete (cleaning_of wants) refusal a t told quiet calm ready = calls.text-complete w i w0 w1 i0 i1 here.root here.setup (clean.clean_setup_for_found wants here) 0 refusal a.refused t told quiet calm ready
  complete (report_of writing) refusal a t told quiet calm ready = calls.text-complete w i w0 w1 i0 i1 here.root here.setup here.setup 0 refusal a.refused t told quiet calm ready

  -- what is refused over a tree, but for an interrupt
  pub refused : (word : WorkTreeCommand) (refusal : Refusal) → AnswersCommandOfFound w i w0 w1 i0 i1 here (Err refusal) word → (t : Names) → w.told w0 ≡ Some t → CountNotIncreased (w.faults w0) (w.faults w1) → status_of_program_refusal refusal ≡ 128
      → (refusal ≡ refusals.OutOfMemory) ⊎ RefusesWorkTreeCommand (w.precomposes w0) t here refusal word
  refused (listing_of listing) refusal a t told quiet is = lists.refused w i w0 w1 i0 i1 here listing refusal a t told quiet is
  refused (cleaning_of wants) refusal a t told quiet is = calls.text-refused w i w0 w1 i0 i1 here.root here.setup (clean.clean_setup_for_found wants here) 0 refusal a.refused t told quiet is
  refused (report_of writing) refusal a t told quiet is = calls.text-refused w i w0 w1 i0 i1 here.root here.setup here.setup 0 refusal a.refused t told quiet is
