-- The answer to words that ask a walk and stats, among the other commands: `ls-files` with `-d` or `-m` and with `-o` or `-k`, and `state`
-- with `--by-stat`.
use Rattle.std.specs.Prelude.{◌≡◌, ◌⊎◌, ℕ, List, Bool, Option, Some, Result, Ok, Err}
use Rattle.command_line.specs.Requests.{Command, asks, parse_request_words}
use Rattle.command_line.specs.declared.command.Request.{Request}
use Rattle.diff_files.specs.Stats.{StatsByPath}
use Rattle.diff_files.specs.declared.stats.Stats.{Ghosts as StatsOf}
use Rattle.git_setup.specs.declared.asked.Asked.{Asked}
use Rattle.git_setup.specs.declared.found.Found.{Found}
use Rattle.worktree_fs.specs.declared.interrupt.Interrupt.{Ghosts as InterruptOf}
use Rattle.worktree_fs.specs.declared.owners.Owners.{Ghosts as OwnersOf}
use Rattle.worktree_fs.specs.declared.worktree.Worktree.{Ghosts as WorktreeOf}
use Rattle.worktree_fs.specs.Causes.{CountNotIncreased}
use Rattle.worktree_fs.specs.Owners.{OwnershipByPath}
use Rattle.worktree_fs.specs.Tree.{Names}
use Rattle.tizhagor.specs.declared.refusal.CommandRefusal.{CommandRefusal}
use Rattle.tizhagor.specs.declared.reply.Reply.{Reply}
use Rattle.tizhagor.specs.Answers.{WordsParseToRequest, CallEnvironment, CommandTask, both_of, call_of, check_of, compare_of, fixed_text_task, task_of_command, found_for_command_in_environment, word_of}
use Rattle.tizhagor.specs.Both.{reply_join_of_stat_command}
use Rattle.tizhagor.specs.BothAnswers.{AnswersTreeAndStatCommand}
use Rattle.tizhagor.specs.ComparedHere.{AnswersWordsWithOrWithoutStats, stat_command_reply_in_environment}
use Rattle.tizhagor.specs.Output.{IsReplyOfWorkTreeCommand, IsCommandAnswerableByFound}
use Rattle.tizhagor.specs.TreeWords.{WorkTreeCommand}
use Rattle.tizhagor.specs.Refusals.{memory}
use Rattle.tizhagor.specs.StatWords.{StatCommand}

-- ---- an answer

-- The words ask for both, and this is the answer to it.
pub record AnswersRequestForWalkAndStats {W I O D : Type 0} (w : WorktreeOf W) (i : InterruptOf I) (o : OwnersOf O) (d : StatsOf D) (w0 w1 : W) (i0 i1 : I) (o0 o1 : O) (d0 d1 : D) (place : CallEnvironment) (words : List (List ℕ)) (answer : Result Reply CommandRefusal) : Type 0 where
  pub request : Request
  pub asked : WordsParseToRequest words request
  pub word : WorkTreeCommand
  pub stat : StatCommand
  pub wants : Asked
  pub task_is : task_of_command place.takes_colors request.command ≡ both_of word stat wants
  pub both : AnswersTreeAndStatCommand w i o d w0 w1 i0 i1 o0 o1 d0 d1 (found_for_command_in_environment place request.directory word wants) word (reply_join_of_stat_command stat)
      (stat_command_reply_in_environment place request.directory wants stat) answer

-- the words are answered by one of the two, or they ask for both
abbrev pub AnswersWordsOfAnyCommand : {W I O D : Type 0} → WorktreeOf W → InterruptOf I → OwnersOf O → StatsOf D → W → W → I → I → O → O → D → D → CallEnvironment → List (List ℕ) → Result Reply CommandRefusal → Type 0
AnswersWordsOfAnyCommand w i o d w0 w1 i0 i1 o0 o1 d0 d1 place words answer =
    AnswersWordsWithOrWithoutStats w i o d w0 w1 i0 i1 o0 o1 d0 d1 place words answer ⊎ AnswersRequestForWalkAndStats w i o d w0 w1 i0 i1 o0 o1 d0 d1 place words answer

-- ---- over a tree, owners and stats

-- a task asks for both, and this is the reply of the first over a tree
abbrev pub IsWalkReplyOfBothTask : Bool → Names → OwnershipByPath → CallEnvironment → Option (List ℕ) → Reply → CommandTask → Type 0
IsWalkReplyOfBothTask composes t owned place directory reply (call_of call asked writing) = ⊥
IsWalkReplyOfBothTask composes t owned place directory reply (word_of word asked) = ⊥
IsWalkReplyOfBothTask composes t owned place directory reply (check_of wants asked) = ⊥
IsWalkReplyOfBothTask composes t owned place directory reply (compare_of comparing asked) = ⊥
IsWalkReplyOfBothTask composes t owned place directory reply (both_of word stat asked) = IsReplyOfWorkTreeCommand composes t (found_for_command_in_environment place directory word asked t owned) word reply
IsWalkReplyOfBothTask composes t owned place directory reply (fixed_text_task text) = ⊥

-- it asks for both, and this is what the second says, or is refused for
abbrev pub IsStatResultOfBothTask : Names → OwnershipByPath → StatsByPath → CallEnvironment → Option (List ℕ) → Result Reply CommandRefusal → CommandTask → Type 0
IsStatResultOfBothTask t owned told place directory answer (call_of call asked writing) = ⊥
IsStatResultOfBothTask t owned told place directory answer (word_of word asked) = ⊥
IsStatResultOfBothTask t owned told place directory answer (check_of wants asked) = ⊥
IsStatResultOfBothTask t owned told place directory answer (compare_of comparing asked) = ⊥
IsStatResultOfBothTask t owned told place directory answer (both_of word stat asked) = stat_command_reply_in_environment place directory asked stat t owned told ≡ answer
IsStatResultOfBothTask t owned told place directory answer (fixed_text_task text) = ⊥

-- it asks for both, and the reply is put together from these two
abbrev pub IsJoinedReplyOfBothTask : Reply → Reply → Reply → CommandTask → Type 0
IsJoinedReplyOfBothTask reply first second (call_of call asked writing) = ⊥
IsJoinedReplyOfBothTask reply first second (word_of word asked) = ⊥
IsJoinedReplyOfBothTask reply first second (check_of wants asked) = ⊥
IsJoinedReplyOfBothTask reply first second (compare_of comparing asked) = ⊥
IsJoinedReplyOfBothTask reply first second (both_of word stat asked) = reply ≡ reply_join_of_stat_command stat first second
IsJoinedReplyOfBothTask reply first second (fixed_text_task text) = ⊥

-- The words ask for both: the reply is the first's over the tree and the owners, and beside it another; where the stats are told, that is
-- what the second says over all three.
pub record IsWalkStatReplyOfWords (composes : Bool) (t : Names) (owned : OwnershipByPath) (stats : Option StatsByPath) (place : CallEnvironment) (words : List (List ℕ)) (reply : Reply) : Type 0 where
  pub request : Request
  pub asked : WordsParseToRequest words request
  pub first : Reply
  pub second : Reply
  pub first_is : IsWalkReplyOfBothTask composes t owned place request.directory first (task_of_command place.takes_colors request.command)
  pub second_is : (told : StatsByPath) → stats ≡ Some told → IsStatResultOfBothTask t owned told place request.directory (Ok second) (task_of_command place.takes_colors request.command)
  pub joined : IsJoinedReplyOfBothTask reply first second (task_of_command place.takes_colors request.command)

-- The words ask for both, and the first has a reply over the tree and the owners. Where the stats are told and did not fail, the second is
-- refused so over all three, or memory was wanted.
pub record RefusesStatPartAfterWalk (composes : Bool) (t : Names) (owned : OwnershipByPath) (stats : Option StatsByPath) (before now : ℕ) (place : CallEnvironment) (words : List (List ℕ)) (e : CommandRefusal) : Type 0 where
  pub request : Request
  pub asked : WordsParseToRequest words request
  pub first : Reply
  pub first_is : IsWalkReplyOfBothTask composes t owned place request.directory first (task_of_command place.takes_colors request.command)
  pub is : (told : StatsByPath) → stats ≡ Some told → CountNotIncreased before now
      → (e ≡ memory) ⊎ IsStatResultOfBothTask t owned told place request.directory (Err e) (task_of_command place.takes_colors request.command)

-- what the second says beside the first reply, as `join` puts them together
abbrev pub join_second_result_to_reply : (Reply → Reply → Reply) → Reply → Result Reply CommandRefusal → Result Reply CommandRefusal
join_second_result_to_reply join first (Ok second) = Ok (join first second)
join_second_result_to_reply join first (Err e) = Err e

-- The first can be had and has this reply, and the second says this, or is refused for it.
pub record WalkReadyAndJoinedWithStats (composes : Bool) (t : Names) (found : Result Found CommandRefusal) (word : WorkTreeCommand) (join : Reply → Reply → Reply) (second wanted : Result Reply CommandRefusal) : Type 0 where
  pub first : Reply
  pub first_is : IsReplyOfWorkTreeCommand composes t found word first
  pub ready : IsCommandAnswerableByFound composes t found word
  pub wanted_is : wanted ≡ join_second_result_to_reply join first second

-- a task asks for both, the first can be had, and this is what both say joined, or what the second is refused for; so of no other
-- task
abbrev pub IsResultOfWalkStatTask : Bool → Names → OwnershipByPath → StatsByPath → CallEnvironment → Option (List ℕ) → Result Reply CommandRefusal → CommandTask → Type 0
IsResultOfWalkStatTask composes t owned told place directory wanted (call_of call asked writing) = ⊥
IsResultOfWalkStatTask composes t owned told place directory wanted (word_of word asked) = ⊥
IsResultOfWalkStatTask composes t owned told place directory wanted (check_of wants asked) = ⊥
IsResultOfWalkStatTask composes t owned told place directory wanted (compare_of comparing asked) = ⊥
IsResultOfWalkStatTask composes t owned told place directory wanted (both_of word stat asked) =
    WalkReadyAndJoinedWithStats composes t (found_for_command_in_environment place directory word asked t owned) word (reply_join_of_stat_command stat) (stat_command_reply_in_environment place directory asked stat t owned told) wanted
IsResultOfWalkStatTask composes t owned told place directory wanted (fixed_text_task text) = ⊥

-- The words ask for both, the first can be had over the tree and the owners, and with the stats this is what both say, or what the second is
-- refused for.
pub record WalkAndStatWordsHaveResult (composes : Bool) (t : Names) (owned : OwnershipByPath) (told : StatsByPath) (place : CallEnvironment) (words : List (List ℕ)) (wanted : Result Reply CommandRefusal) : Type 0 where
  pub directory : Option (List ℕ)
  pub command : Command
  pub words_are : parse_request_words words ≡ asks directory command
  pub is : (request : Request) → WordsParseToRequest words request → IsResultOfWalkStatTask composes t owned told place request.directory wanted (task_of_command place.takes_colors request.command)
