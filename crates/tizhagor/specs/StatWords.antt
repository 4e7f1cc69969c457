-- The words whose answer is told by stats too.
use Rattle.std.specs.Prelude.{ℕ, List, Option, Result}
use Rattle.command_line.specs.declared.command.FilesAsked.{FilesAsked}
use Rattle.command_line.specs.declared.compare_options.Comparing.{Comparing}
use Rattle.diff_files.specs.Stats.{StatsByPath}
use Rattle.git_places.specs.Variables.{EnvironmentVariable}
use Rattle.git_setup.specs.declared.asked.Asked.{Asked}
use Rattle.ls_files.specs.declared.standings.DeletedModifiedChoice.{DeletedModifiedChoice}
use Rattle.worktree_fs.specs.Owners.{OwnershipByPath}
use Rattle.worktree_fs.specs.Tree.{Names}
use Rattle.tizhagor.specs.declared.compare.ChangeLines.TheVariants as lines
use Rattle.tizhagor.specs.declared.refusal.CommandRefusal.{CommandRefusal}
use Rattle.tizhagor.specs.declared.reply.Reply.{Reply}
use Rattle.tizhagor.specs.declared.written.Writing.{Writing}
use Rattle.tizhagor.specs.Changing.{changed_files_reply_around_directory}
use Rattle.tizhagor.specs.Comparing.{comparison_reply_around_directory}

-- `diff-files`, and `ls-files` with `-d` or `-m`, each with what is asked of it; and the states of `state` by stat fields, and how they are
-- written
pub data StatCommand : Type 0 where
  differences_of : Comparing → StatCommand
  changes_of : FilesAsked → DeletedModifiedChoice → StatCommand
  states_of : Writing → StatCommand

-- what is said of the work tree around a directory, or the first refusal
abbrev pub stat_command_reply_around : Names → OwnershipByPath → StatsByPath → List ℕ → List EnvironmentVariable → Option (List ℕ) → Asked → StatCommand → Result Reply CommandRefusal
stat_command_reply_around t owned told current variables directory asked (differences_of comparing) = comparison_reply_around_directory t owned told current variables directory asked (lines.Differences comparing)
stat_command_reply_around t owned told current variables directory asked (changes_of wants standings) = changed_files_reply_around_directory t owned told current variables directory asked wants standings
stat_command_reply_around t owned told current variables directory asked (states_of writing) = comparison_reply_around_directory t owned told current variables directory asked (lines.States writing)
