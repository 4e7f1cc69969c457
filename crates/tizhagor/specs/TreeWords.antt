-- What the words that read a work tree alone say of it: `ls-files`, `clean`, and the report beside what stats tell.
--
-- For each of them stands here what is found, the reply, what making it says, whether it can be had, and why there is none.
use Rattle.std.specs.Prelude.{◌≡◌, ℕ, List, Bool, Option, option_map, Result, Ok, Err}
use Rattle.git_places.specs.Variables.{EnvironmentVariable}
use Rattle.git_setup.specs.declared.asked.Asked.{Asked}
use Rattle.git_setup.specs.declared.found.Found.{Found}
use Rattle.command_line.specs.declared.command.CleanAsked.{CleanAsked}
use Rattle.command_line.specs.declared.command.FilesAsked.{FilesAsked}
use Rattle.worktree_fs.specs.declared.interrupt.Interrupt.{Ghosts as InterruptOf}
use Rattle.worktree_fs.specs.declared.worktree.Worktree.{Ghosts as WorktreeOf}
use Rattle.worktree_fs.specs.Owners.{OwnershipByPath}
use Rattle.worktree_fs.specs.Tree.{Names}
use Rattle.worktree_report.specs.declared.refusal.Refusal.{Refusal}
use Rattle.tizhagor.specs.declared.refusal.CommandRefusal.{CommandRefusal}
use Rattle.tizhagor.specs.declared.reply.Reply.{Reply}
use Rattle.tizhagor.specs.declared.written.Writing.{Writing}
use Rattle.tizhagor.specs.Asking.{found_around_asked_directory}
use Rattle.tizhagor.specs.Cleanings as clean
use Rattle.tizhagor.specs.Cleanings.{AnswersCleanDryRunOfFound, IsSetupValidForClean, found_checked_for_clean, clean_dry_run_text_of_found}
use Rattle.tizhagor.specs.Listings as list
use Rattle.tizhagor.specs.Listings.{IsSetupValidForLsFiles, AnswersLsFilesOfFound, found_checked_for_ls_files, ls_files_output_over_tree, reply_of_listed_files}
use Rattle.tizhagor.specs.Replies.{plain_reply}
use Rattle.tizhagor.specs.QuietReport.{IsFoundSetupValidForReport, ReportsWithoutHiddenFault, formatted_report_of_found}
use Rattle.tizhagor.specs.Texts.{RefusesReportOverTree}

-- one of these words, with what is asked of it; of the report, how it is written
pub data WorkTreeCommand : Type 0 where
  listing_of : FilesAsked → WorkTreeCommand
  cleaning_of : CleanAsked → WorkTreeCommand
  report_of : Writing → WorkTreeCommand

-- the work tree around a directory and its setup, or the first refusal
abbrev pub found_for_work_tree_command : Names → OwnershipByPath → List ℕ → List EnvironmentVariable → Option (List ℕ) → Asked → WorkTreeCommand → Result Found CommandRefusal
found_for_work_tree_command t owned current variables directory asked (listing_of wants) = found_checked_for_ls_files t owned current variables directory wants asked
found_for_work_tree_command t owned current variables directory asked (cleaning_of wants) = found_checked_for_clean t owned current variables directory wants asked
found_for_work_tree_command t owned current variables directory asked (report_of writing) = found_around_asked_directory t owned current variables directory asked

-- the reply, over a tree
abbrev pub reply_of_command_over_tree : Bool → Names → Found → WorkTreeCommand → Option Reply
reply_of_command_over_tree composes t here (listing_of wants) = option_map reply_of_listed_files (ls_files_output_over_tree composes t here wants)
reply_of_command_over_tree composes t here (cleaning_of wants) = option_map plain_reply (clean_dry_run_text_of_found composes t here wants)
reply_of_command_over_tree composes t here (report_of writing) = option_map plain_reply (formatted_report_of_found composes t here writing)

-- it can be had
abbrev pub IsWorkTreeCommandAnswerable : Bool → Names → Found → WorkTreeCommand → Type 0
IsWorkTreeCommandAnswerable composes t here (listing_of wants) = IsSetupValidForLsFiles composes t here wants
IsWorkTreeCommandAnswerable composes t here (cleaning_of wants) = IsSetupValidForClean composes t here wants
IsWorkTreeCommandAnswerable composes t here (report_of writing) = IsFoundSetupValidForReport composes t here

-- it is refused over a tree
abbrev pub RefusesWorkTreeCommand : Bool → Names → Found → Refusal → WorkTreeCommand → Type 0
RefusesWorkTreeCommand composes t here refusal (listing_of wants) = RefusesReportOverTree composes t here.root (list.ls_files_setup_for_found wants here) refusal
RefusesWorkTreeCommand composes t here refusal (cleaning_of wants) = RefusesReportOverTree composes t here.root (clean.clean_setup_for_found wants here) refusal
RefusesWorkTreeCommand composes t here refusal (report_of writing) = RefusesReportOverTree composes t here.root here.setup refusal

-- The reply is that of something that was made.
pub record IsReplyOfMadeAnswer {A : Type 0} (as_reply : A → Reply) (Makes : Result A Refusal → Type 0) (reply : Reply) : Type 0 where
  pub made : A
  pub reply_is : reply ≡ as_reply made
  pub makes : Makes (Ok made)

-- what is said of making something, said of the reply
abbrev pub HoldsOfReplyByMaking : {A : Type 0} → (A → Reply) → (Result A Refusal → Type 0) → Result Reply Refusal → Type 0
HoldsOfReplyByMaking as_reply Makes (Ok reply) = IsReplyOfMadeAnswer as_reply Makes reply
HoldsOfReplyByMaking as_reply Makes (Err refusal) = Makes (Err refusal)

-- what making the reply says, where a worktree was `w0` and is `w1`, and an interrupt was `i0` and is `i1`
abbrev pub AnswersCommandOfFound : {W I : Type 0} → WorktreeOf W → InterruptOf I → W → W → I → I → Found → Result Reply Refusal → WorkTreeCommand → Type 0
AnswersCommandOfFound w i w0 w1 i0 i1 here answer (listing_of wants) = HoldsOfReplyByMaking reply_of_listed_files (AnswersLsFilesOfFound w i w0 w1 i0 i1 wants here) answer
AnswersCommandOfFound w i w0 w1 i0 i1 here answer (cleaning_of wants) = HoldsOfReplyByMaking plain_reply (AnswersCleanDryRunOfFound w i w0 w1 i0 i1 wants here) answer
AnswersCommandOfFound w i w0 w1 i0 i1 here answer (report_of writing) = HoldsOfReplyByMaking plain_reply (ReportsWithoutHiddenFault w i w0 w1 i0 i1 writing here) answer
