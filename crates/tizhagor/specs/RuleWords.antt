-- The words whose answer asks a work tree which rules decide about paths, and lists no directory.
use Rattle.std.specs.Prelude.{ℕ, List, Option, Result}
use Rattle.command_line.specs.declared.check_options.CheckAsked.{CheckAsked}
use Rattle.command_line.specs.declared.command.FilesAsked.{FilesAsked}
use Rattle.git_places.specs.Variables.{EnvironmentVariable}
use Rattle.git_setup.specs.declared.asked.Asked.{Asked}
use Rattle.worktree_fs.specs.Owners.{OwnershipByPath}
use Rattle.worktree_fs.specs.Tree.{Names}
use Rattle.tizhagor.specs.declared.refusal.CommandRefusal.{CommandRefusal}
use Rattle.tizhagor.specs.declared.reply.Reply.{Reply}
use Rattle.tizhagor.specs.Checking.{check_ignore_reply_around_directory}
use Rattle.tizhagor.specs.Excluding.{ignored_index_reply_around_directory}

-- `check-ignore`, and `ls-files` with `-i` and `-c`, each with what is asked of it
pub data RuleCommand : Type 0 where
  checking_of : CheckAsked → RuleCommand
  excluding_of : FilesAsked → RuleCommand

-- what is said of the work tree around a directory, or the first refusal
abbrev pub rule_command_reply_around : Names → OwnershipByPath → List ℕ → List EnvironmentVariable → Option (List ℕ) → Asked → List ℕ → RuleCommand → Result Reply CommandRefusal
rule_command_reply_around t owned current variables directory asked input (checking_of wants) = check_ignore_reply_around_directory t owned current variables directory asked wants input
rule_command_reply_around t owned current variables directory asked input (excluding_of wants) = ignored_index_reply_around_directory t owned current variables directory wants asked
