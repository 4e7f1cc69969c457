-- What follows of a listing by what was found.
use Rattle.std.proofs.Common.{◌≡◌, ◌⊎◌, inl, ℕ, Bool, true, false, Option, Some, Ok, Err, ap, sym, ◌∙◌, cond, arith}
use Rattle.std.specs.Bool.{MatchBool}
use Rattle.git_setup.specs.declared.found.Found.{Found}
use Rattle.command_line.specs.declared.command.FilesAsked.{FilesAsked}
use Rattle.ls_files.specs.Choices.{needs_worktree_walk}
use Rattle.ls_files.specs.declared.listed.Listed.{Listed}
use Rattle.worktree_fs.specs.declared.interrupt.Interrupt.{Ghosts as InterruptOf}
use Rattle.worktree_fs.specs.declared.worktree.Worktree.{Ghosts as WorktreeOf}
use Rattle.worktree_fs.specs.Causes.{CountIncreasedOrSaturated, CountNotIncreased}
use Rattle.worktree_fs.specs.Tree.{Names}
use Rattle.worktree_report.specs.declared.refusal.Refusal.{Refusal}
use Rattle.worktree_report.specs.declared.refusal.Refusal.TheVariants as refusals
use Rattle.tizhagor.specs.Listings.{IsSetupValidForLsFiles, AnswersLsFilesOfFound, ls_files_output_over_tree, ls_files_setup_for_found}
use Rattle.tizhagor.specs.ProgramLines.{status_of_program_refusal}
use Rattle.tizhagor.specs.Texts.{RefusesReportOverTree}
use Rattle.tizhagor.proofs.ByCall as calls

-- ---- a report is made, or none is

by_kind : {A B C : Type 0} (b : Bool) → MatchBool b A B → (A → C) → (B → C) → C
by_kind true m f g = f m
by_kind false m f g = g m

chosen_by_kind : {A B : Type 0} {X Y : Option Listed} {made : Listed} (b : Bool) → MatchBool b A B → (A → X ≡ Some made) → (B → Y ≡ Some made) → cond b X Y ≡ Some made
chosen_by_kind true m f g = f m
chosen_by_kind false m f g = g m

both_by_kind : {A B V N C : Type 0} (b : Bool) → MatchBool b A B → MatchBool b V N → (A → V → C) → (B → N → C) → C
both_by_kind true m v f g = f m v
both_by_kind false m v f g = g m v

memory_is_no_interrupt : {r : Refusal} {C : Type 0} → r ≡ refusals.OutOfMemory → r ≡ refusals.Interrupted → C
memory_is_no_interrupt wants is = absurd (let both : refusals.OutOfMemory ≡ refusals.Interrupted = sym wants ∙ is in cc)

module _ {W I : Type 0} (w : WorktreeOf W) (i : InterruptOf I) (w0 w1 : W) (i0 i1 : I) (here : Found) (wants : FilesAsked) where
  -- it is the one that is asked for
  pub listing_is : (made : Listed) → AnswersLsFilesOfFound w i w0 w1 i0 i1 wants here (Ok made) → (t : Names) → w.told w0 ≡ Some t → ls_files_output_over_tree (w.precomposes w0) t here wants ≡ Some made
  listing_is made a t told = chosen_by_kind (needs_worktree_walk wants.listing) a (λ walked. walked.gives t told) (λ index. ap Some (sym index.gives))

  -- and comes without a fault
  pub unfaulted : (made : Listed) → AnswersLsFilesOfFound w i w0 w1 i0 i1 wants here (Ok made) → w.faults w1 ≡ w.faults w0
  unfaulted made a = by_kind (needs_worktree_walk wants.listing) a (λ walked. let quiet = walked.unfaulted in let faults = walked.worktree.faults in omega (arith, quiet, faults)) (λ index. ap w.faults index.worktree)

  -- the tree stays told
  pub tree : (made : Listed) → AnswersLsFilesOfFound w i w0 w1 i0 i1 wants here (Ok made) → w.told w1 ≡ w.told w0
  tree made a = by_kind (needs_worktree_walk wants.listing) a (λ walked. walked.worktree.tree) (λ index. ap w.told index.worktree)

  -- an interrupt was raised
  pub interrupt_cause : (refusal : Refusal) → AnswersLsFilesOfFound w i w0 w1 i0 i1 wants here (Err refusal) → refusal ≡ refusals.Interrupted → CountIncreasedOrSaturated (i.raised i0) (i.raised i1)
  interrupt_cause refusal a is =
      by_kind (needs_worktree_walk wants.listing) a (λ walked. calls.text-interrupted w i w0 w1 i0 i1 here.root here.setup (ls_files_setup_for_found wants here) 0 refusal walked.refused is)
      (λ index. memory_is_no_interrupt index.refused is)

  -- for what can be had only memory may be wanted
  pub complete : (refusal : Refusal) → AnswersLsFilesOfFound w i w0 w1 i0 i1 wants here (Err refusal) → (t : Names) → w.told w0 ≡ Some t → CountNotIncreased (w.faults w0) (w.faults w1) → CountNotIncreased (i.raised i0) (i.raised i1)
      → IsSetupValidForLsFiles (w.precomposes w0) t here wants → refusal ≡ refusals.OutOfMemory
  complete refusal a t told quiet calm ready =
      both_by_kind (needs_worktree_walk wants.listing) a ready (λ walked valid. calls.text-complete w i w0 w1 i0 i1 here.root here.setup (ls_files_setup_for_found wants here) 0 refusal walked.refused t told quiet calm valid)
      (λ index nothing. index.refused)

  -- what is refused over a tree, but for an interrupt
  pub refused : (refusal : Refusal) → AnswersLsFilesOfFound w i w0 w1 i0 i1 wants here (Err refusal) → (t : Names) → w.told w0 ≡ Some t → CountNotIncreased (w.faults w0) (w.faults w1) → status_of_program_refusal refusal ≡ 128
      → (refusal ≡ refusals.OutOfMemory) ⊎ RefusesReportOverTree (w.precomposes w0) t here.root (ls_files_setup_for_found wants here) refusal
  refused refusal a t told quiet is =
      by_kind (needs_worktree_walk wants.listing) a (λ walked. calls.text-refused w i w0 w1 i0 i1 here.root here.setup (ls_files_setup_for_found wants here) 0 refusal walked.refused t told quiet is)
      (λ index. inl index.refused)
