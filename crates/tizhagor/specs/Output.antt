-- What the program gives, and why it gives nothing, over a tree and the owners of its nodes.
use Rattle.std.specs.Prelude.{◌≡◌, ◌⊎◌, ℕ, List, Bool, true, Option, Some, Result, Ok, Err}
use Rattle.command_line.specs.Requests.{Command, asks, parse_request_words}
use Rattle.command_line.specs.declared.command.Request.{Request}
use Rattle.git_setup.specs.declared.found.Found.{Found}
use Rattle.worktree_fs.specs.Owners.{OwnershipByPath}
use Rattle.worktree_fs.specs.Tree.{Names, look}
use Rattle.worktree_report.specs.SetupAt.{setup_of_file_looked_at}
use Rattle.worktree_report.specs.declared.refusal.Refusal.{Refusal}
use Rattle.tizhagor.specs.declared.call.Call.{Call}
use Rattle.tizhagor.specs.declared.refusal.CommandRefusal.{CommandRefusal}
use Rattle.tizhagor.specs.declared.refusal.CommandRefusal.TheVariants.{Program}
use Rattle.tizhagor.specs.declared.written.Writing.{Writing}
use Rattle.tizhagor.specs.declared.reply.Reply.{Reply}
use Rattle.tizhagor.specs.Answers.{WordsParseToRequest, CallEnvironment, CommandTask, rule_command_reply_in_environment, both_of, call_of, check_of, compare_of, found_in_call_environment, fixed_text_task, task_of_command, found_for_command_in_environment, word_of}
use Rattle.tizhagor.specs.Checks.{IsReplyNoRefusal}
use Rattle.tizhagor.specs.TreeWords.{IsWorkTreeCommandAnswerable, WorkTreeCommand, RefusesWorkTreeCommand, reply_of_command_over_tree}
use Rattle.tizhagor.specs.Replies.{IsPlainReply, plain_reply}
use Rattle.tizhagor.specs.Texts.{TextNeedsNoFaultForCall, IsSetupValidForCall, IsTextOfCallBySetupFile, IsTextOfCall, CountsNoFaultForCall, RefusesTextOfCall}
use Rattle.tizhagor.specs.Writing.{text_formatted_for_output}

-- ---- the bytes

-- The bytes are those that are written for the text of a call, by the root and the setup that are found in the tree. The text is that of
-- the program that reads a setup text, over the same root, wherever such a text means that setup.
pub record AreFormattedBytesOfCall (composes : Bool) (t : Names) (found : Result Found CommandRefusal) (call : Call) (writing : Writing) (bytes : List ℕ) : Type 0 where
  pub here : Found
  pub found_is : found ≡ Ok here
  pub text : List ℕ
  pub text_is : IsTextOfCall call composes t here.root here.setup text
  pub bytes_is : bytes ≡ text_formatted_for_output writing text
  pub same : (path : List ℕ) → setup_of_file_looked_at (look t path true) ≡ Ok here.setup → IsTextOfCallBySetupFile call composes t here.root path text

-- The reply is that of one of git's own words, by the root and the setup that are found in the tree.
pub record IsReplyOfWorkTreeCommand (composes : Bool) (t : Names) (found : Result Found CommandRefusal) (word : WorkTreeCommand) (reply : Reply) : Type 0 where
  pub here : Found
  pub found_is : found ≡ Ok here
  pub reply_is : reply_of_command_over_tree composes t here word ≡ Some reply

-- the reply is the one that is asked for over the tree; what is told by stats too is told beside these
abbrev pub IsReplyOfTask : Bool → Names → OwnershipByPath → CallEnvironment → Option (List ℕ) → Reply → CommandTask → Type 0
IsReplyOfTask composes t owned place directory reply (call_of call asked writing) = AreFormattedBytesOfCall composes t (found_in_call_environment place directory asked t owned) call writing reply.out × IsPlainReply reply
IsReplyOfTask composes t owned place directory reply (word_of word asked) = IsReplyOfWorkTreeCommand composes t (found_for_command_in_environment place directory word asked t owned) word reply
IsReplyOfTask composes t owned place directory reply (check_of wants asked) = rule_command_reply_in_environment place directory wants asked t owned ≡ Ok reply
IsReplyOfTask composes t owned place directory reply (compare_of comparing asked) = ⊥
IsReplyOfTask composes t owned place directory reply (both_of word stat asked) = ⊥
IsReplyOfTask composes t owned place directory reply (fixed_text_task text) = reply ≡ plain_reply text

-- what is said of the count of faults, where there is a reply
abbrev pub CountsNoFaultForTask : ℕ → ℕ → CommandTask → Type 0
CountsNoFaultForTask before now (call_of call asked writing) = CountsNoFaultForCall call before now
CountsNoFaultForTask before now (word_of word asked) = now ≡ before
CountsNoFaultForTask before now (check_of wants asked) = now ≡ before
CountsNoFaultForTask before now (compare_of comparing asked) = now ≡ before
CountsNoFaultForTask before now (both_of word stat asked) = now ≡ before
CountsNoFaultForTask before now (fixed_text_task text) = now ≡ before

-- what has to be known of it besides, so that the reply is said
abbrev pub ReplyNeedsNoFaultForTask : ℕ → ℕ → CommandTask → Type 0
ReplyNeedsNoFaultForTask before now (call_of call asked writing) = TextNeedsNoFaultForCall call before now
ReplyNeedsNoFaultForTask before now (word_of word asked) = Unit {0}
ReplyNeedsNoFaultForTask before now (check_of wants asked) = Unit {0}
ReplyNeedsNoFaultForTask before now (compare_of comparing asked) = Unit {0}
ReplyNeedsNoFaultForTask before now (both_of word stat asked) = Unit {0}
ReplyNeedsNoFaultForTask before now (fixed_text_task text) = Unit {0}

-- The words ask for something, and the worktree did not fail for it, but for a report.
pub record CountsNoFaultForWords (place : CallEnvironment) (words : List (List ℕ)) (before now : ℕ) : Type 0 where
  pub request : Request
  pub asked : WordsParseToRequest words request
  pub unfaulted : CountsNoFaultForTask before now (task_of_command place.takes_colors request.command)

-- The words ask for something, and the reply is the one that it gives over the tree; for a report, where no fault was counted.
pub record IsReplyOfWords (composes : Bool) (t : Names) (owned : OwnershipByPath) (place : CallEnvironment) (words : List (List ℕ)) (before now : ℕ) (reply : Reply) : Type 0 where
  pub request : Request
  pub asked : WordsParseToRequest words request
  pub reply_is : ReplyNeedsNoFaultForTask before now (task_of_command place.takes_colors request.command) → IsReplyOfTask composes t owned place request.directory reply (task_of_command place.takes_colors request.command)

-- ---- refusals

-- There is no text over the tree by the root and the setup that are found.
pub record RefusesCallTextOfFound (composes : Bool) (t : Names) (found : Result Found CommandRefusal) (call : Call) (e : CommandRefusal) : Type 0 where
  pub here : Found
  pub found_is : found ≡ Ok here
  pub refusal : Refusal
  pub e_is : e ≡ Program refusal
  pub refused : RefusesTextOfCall call composes t here.root here.setup refusal

-- what a call is refused for over the tree: no root and no setup is found, or there is no text by them
abbrev pub RefusesCallOverTree : Bool → Names → Result Found CommandRefusal → Call → CommandRefusal → Type 0
RefusesCallOverTree composes t found call e = (found ≡ Err e) ⊎ RefusesCallTextOfFound composes t found call e

-- There is no reply of one of git's own words over the tree by the root and the setup that are found.
pub record RefusesCommandOfFound (composes : Bool) (t : Names) (found : Result Found CommandRefusal) (word : WorkTreeCommand) (e : CommandRefusal) : Type 0 where
  pub here : Found
  pub found_is : found ≡ Ok here
  pub refusal : Refusal
  pub e_is : e ≡ Program refusal
  pub refused : RefusesWorkTreeCommand composes t here refusal word

-- what it is refused for over the tree
abbrev pub RefusesCommandOverTree : Bool → Names → Result Found CommandRefusal → WorkTreeCommand → CommandRefusal → Type 0
RefusesCommandOverTree composes t found word e = (found ≡ Err e) ⊎ RefusesCommandOfFound composes t found word e

-- of two words the first; what the second is refused for stands beside these
abbrev pub RefusesTaskOverTree : Bool → Names → OwnershipByPath → CallEnvironment → Option (List ℕ) → CommandRefusal → CommandTask → Type 0
RefusesTaskOverTree composes t owned place directory e (call_of call asked writing) = RefusesCallOverTree composes t (found_in_call_environment place directory asked t owned) call e
RefusesTaskOverTree composes t owned place directory e (word_of word asked) = RefusesCommandOverTree composes t (found_for_command_in_environment place directory word asked t owned) word e
RefusesTaskOverTree composes t owned place directory e (check_of wants asked) = rule_command_reply_in_environment place directory wants asked t owned ≡ Err e
RefusesTaskOverTree composes t owned place directory e (compare_of comparing asked) = ⊥
RefusesTaskOverTree composes t owned place directory e (both_of word stat asked) = RefusesCommandOverTree composes t (found_for_command_in_environment place directory word asked t owned) word e
RefusesTaskOverTree composes t owned place directory e (fixed_text_task text) = ⊥

-- The words ask for something, and it is refused so over the tree.
pub record RefusesWordsOverTree (composes : Bool) (t : Names) (owned : OwnershipByPath) (place : CallEnvironment) (words : List (List ℕ)) (e : CommandRefusal) : Type 0 where
  pub request : Request
  pub asked : WordsParseToRequest words request
  pub refused : RefusesTaskOverTree composes t owned place request.directory e (task_of_command place.takes_colors request.command)

-- no root and no setup is found; or `check-ignore` is refused, whatever for
abbrev pub IsWorkTreeNotFoundForTask : Names → OwnershipByPath → CallEnvironment → Option (List ℕ) → CommandRefusal → CommandTask → Type 0
IsWorkTreeNotFoundForTask t owned place directory e (call_of call asked writing) = found_in_call_environment place directory asked t owned ≡ Err e
IsWorkTreeNotFoundForTask t owned place directory e (word_of word asked) = found_for_command_in_environment place directory word asked t owned ≡ Err e
IsWorkTreeNotFoundForTask t owned place directory e (check_of wants asked) = rule_command_reply_in_environment place directory wants asked t owned ≡ Err e
IsWorkTreeNotFoundForTask t owned place directory e (compare_of comparing asked) = ⊥
IsWorkTreeNotFoundForTask t owned place directory e (both_of word stat asked) = found_for_command_in_environment place directory word asked t owned ≡ Err e
IsWorkTreeNotFoundForTask t owned place directory e (fixed_text_task text) = ⊥

-- No word is wrong, and no root and no setup is found for what they ask for.
pub record RefusesWordsBeforeSetupIsFound (t : Names) (owned : OwnershipByPath) (place : CallEnvironment) (words : List (List ℕ)) (e : CommandRefusal) : Type 0 where
  pub directory : Option (List ℕ)
  pub command : Command
  pub words_are : parse_request_words words ≡ asks directory command
  pub refused : (request : Request) → WordsParseToRequest words request → IsWorkTreeNotFoundForTask t owned place request.directory e (task_of_command place.takes_colors request.command)

-- ---- what can be had

-- a root and a setup are found, and there is a text by them
pub record IsCallAnswerableByFound (composes : Bool) (t : Names) (found : Result Found CommandRefusal) (call : Call) : Type 0 where
  pub here : Found
  pub found_is : found ≡ Ok here
  pub ready : IsSetupValidForCall call composes t here.root here.setup

-- the same for one of git's own words
pub record IsCommandAnswerableByFound (composes : Bool) (t : Names) (found : Result Found CommandRefusal) (word : WorkTreeCommand) : Type 0 where
  pub here : Found
  pub found_is : found ≡ Ok here
  pub ready : IsWorkTreeCommandAnswerable composes t here word

-- what the task asks for can be had over the tree; never so here where it asks for stats, which is said beside this
abbrev pub IsTaskAnswerableOverTree : Bool → Names → OwnershipByPath → CallEnvironment → Option (List ℕ) → CommandTask → Type 0
IsTaskAnswerableOverTree composes t owned place directory (call_of call asked writing) = IsCallAnswerableByFound composes t (found_in_call_environment place directory asked t owned) call
IsTaskAnswerableOverTree composes t owned place directory (word_of word asked) = IsCommandAnswerableByFound composes t (found_for_command_in_environment place directory word asked t owned) word
IsTaskAnswerableOverTree composes t owned place directory (check_of wants asked) = IsReplyNoRefusal (rule_command_reply_in_environment place directory wants asked t owned)
IsTaskAnswerableOverTree composes t owned place directory (compare_of comparing asked) = ⊥
IsTaskAnswerableOverTree composes t owned place directory (both_of word stat asked) = ⊥
IsTaskAnswerableOverTree composes t owned place directory (fixed_text_task text) = Unit {0}

-- No word is wrong, and what the words ask for can be had.
pub record AreWordsAnswerableOverTree (composes : Bool) (t : Names) (owned : OwnershipByPath) (place : CallEnvironment) (words : List (List ℕ)) : Type 0 where
  pub directory : Option (List ℕ)
  pub command : Command
  pub words_are : parse_request_words words ≡ asks directory command
  pub ready : (request : Request) → WordsParseToRequest words request → IsTaskAnswerableOverTree composes t owned place request.directory (task_of_command place.takes_colors request.command)
