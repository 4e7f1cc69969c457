-- What `diff-files`, and `ls-files` with `-d` or `-m`, answer to the words, and what stands beside a walk, among the other commands.
use Rattle.std.specs.Prelude.{◌≡◌, ◌⊎◌, ℕ, List, Option, Some, Result, Ok, Err}
use Rattle.command_line.specs.Requests.{Command, asks, parse_request_words}
use Rattle.command_line.specs.declared.command.Request.{Request}
use Rattle.diff_files.specs.Stats.{StatsByPath}
use Rattle.diff_files.specs.declared.stats.Stats.{Ghosts as StatsOf}
use Rattle.git_setup.specs.declared.asked.Asked.{Asked}
use Rattle.worktree_fs.specs.declared.interrupt.Interrupt.{Ghosts as InterruptOf}
use Rattle.worktree_fs.specs.declared.owners.Owners.{Ghosts as OwnersOf}
use Rattle.worktree_fs.specs.declared.worktree.Worktree.{Ghosts as WorktreeOf}
use Rattle.worktree_fs.specs.Causes.{CountNotIncreased}
use Rattle.worktree_fs.specs.Owners.{OwnershipByPath}
use Rattle.worktree_fs.specs.Tree.{Names}
use Rattle.tizhagor.specs.declared.refusal.CommandRefusal.{CommandRefusal}
use Rattle.tizhagor.specs.declared.reply.Reply.{Reply}
use Rattle.tizhagor.specs.Answers.{AnswersWordsWithoutStats, AnswersTaskWithoutStats, WordsParseToRequest, CallEnvironment, CommandTask, both_of, call_of, check_of, compare_of, fixed_text_task, task_of_command, found_for_command_in_environment, word_of}
use Rattle.tizhagor.specs.Both.{reply_join_of_stat_command}
use Rattle.tizhagor.specs.BothAnswers.{AnswersTreeAndStatCommand}
use Rattle.tizhagor.specs.Compares.{FindsOverTreeOwnersAndStats}
use Rattle.tizhagor.specs.Refusals.{memory}
use Rattle.tizhagor.specs.StatWords.{StatCommand, stat_command_reply_around}

-- what is said of the work tree around a directory
abbrev pub stat_command_reply_in_environment : CallEnvironment → Option (List ℕ) → Asked → StatCommand → Names → OwnershipByPath → StatsByPath → Result Reply CommandRefusal
stat_command_reply_in_environment place directory asked comparing t owned told = stat_command_reply_around t owned told place.current place.variables directory asked comparing

-- ---- an answer

-- what a task is answered with: what is told by stats alone asks no interrupt, and only that and what stands beside a walk is told by them
abbrev pub AnswersAnyTask : {W I O D : Type 0} → WorktreeOf W → InterruptOf I → OwnersOf O → StatsOf D → W → W → I → I → O → O → D → D → CallEnvironment → Option (List ℕ) → Result Reply CommandRefusal → CommandTask → Type 0
AnswersAnyTask w i o d w0 w1 i0 i1 o0 o1 d0 d1 place directory answer (call_of call asked writing) = AnswersTaskWithoutStats w i o w0 w1 i0 i1 o0 o1 place directory answer (call_of call asked writing) × (d1 ≡ d0)
AnswersAnyTask w i o d w0 w1 i0 i1 o0 o1 d0 d1 place directory answer (word_of word asked) = AnswersTaskWithoutStats w i o w0 w1 i0 i1 o0 o1 place directory answer (word_of word asked) × (d1 ≡ d0)
AnswersAnyTask w i o d w0 w1 i0 i1 o0 o1 d0 d1 place directory answer (check_of wants asked) = AnswersTaskWithoutStats w i o w0 w1 i0 i1 o0 o1 place directory answer (check_of wants asked) × (d1 ≡ d0)
AnswersAnyTask w i o d w0 w1 i0 i1 o0 o1 d0 d1 place directory answer (compare_of comparing asked) = FindsOverTreeOwnersAndStats w o d w0 w1 o0 o1 d0 d1 (stat_command_reply_in_environment place directory asked comparing) answer × (i1 ≡ i0)
AnswersAnyTask w i o d w0 w1 i0 i1 o0 o1 d0 d1 place directory answer (both_of word stat asked) =
    AnswersTreeAndStatCommand w i o d w0 w1 i0 i1 o0 o1 d0 d1 (found_for_command_in_environment place directory word asked) word (reply_join_of_stat_command stat) (stat_command_reply_in_environment place directory asked stat) answer
AnswersAnyTask w i o d w0 w1 i0 i1 o0 o1 d0 d1 place directory answer (fixed_text_task text) = AnswersTaskWithoutStats w i o w0 w1 i0 i1 o0 o1 place directory answer (fixed_text_task text) × (d1 ≡ d0)

-- The words ask for what is told by stats, and this is the answer to it.
pub record AnswersRequestByStats {W I O D : Type 0} (w : WorktreeOf W) (o : OwnersOf O) (d : StatsOf D) (w0 w1 : W) (i0 i1 : I) (o0 o1 : O) (d0 d1 : D) (place : CallEnvironment) (words : List (List ℕ)) (answer : Result Reply CommandRefusal) : Type 0 where
  pub request : Request
  pub asked : WordsParseToRequest words request
  pub comparing : StatCommand
  pub wants : Asked
  pub task_is : task_of_command place.takes_colors request.command ≡ compare_of comparing wants
  pub compares : FindsOverTreeOwnersAndStats w o d w0 w1 o0 o1 d0 d1 (stat_command_reply_in_environment place request.directory wants comparing) answer
  pub interrupt : i1 ≡ i0

-- the words are answered without stats, or they ask for what is told by these
abbrev pub AnswersWordsWithOrWithoutStats : {W I O D : Type 0} → WorktreeOf W → InterruptOf I → OwnersOf O → StatsOf D → W → W → I → I → O → O → D → D → CallEnvironment → List (List ℕ) → Result Reply CommandRefusal → Type 0
AnswersWordsWithOrWithoutStats w i o d w0 w1 i0 i1 o0 o1 d0 d1 place words answer =
    (AnswersWordsWithoutStats w i o w0 w1 i0 i1 o0 o1 place words answer × (d1 ≡ d0)) ⊎ AnswersRequestByStats w o d w0 w1 i0 i1 o0 o1 d0 d1 place words answer

-- ---- over a tree, owners and stats

-- a task is told by stats alone, and this is what it says
abbrev pub IsResultOfStatTask : Names → OwnershipByPath → StatsByPath → CallEnvironment → Option (List ℕ) → Result Reply CommandRefusal → CommandTask → Type 0
IsResultOfStatTask t owned told place directory answer (call_of call asked writing) = ⊥
IsResultOfStatTask t owned told place directory answer (word_of word asked) = ⊥
IsResultOfStatTask t owned told place directory answer (check_of wants asked) = ⊥
IsResultOfStatTask t owned told place directory answer (compare_of comparing asked) = stat_command_reply_in_environment place directory asked comparing t owned told ≡ answer
IsResultOfStatTask t owned told place directory answer (both_of word stat asked) = ⊥
IsResultOfStatTask t owned told place directory answer (fixed_text_task text) = ⊥

-- the task is answered by stats alone: `diff-files`, or `ls-files` with `-d` or `-m` where no walk is needed
abbrev pub IsStatTask : CommandTask → Type 0
IsStatTask (call_of call asked writing) = ⊥
IsStatTask (word_of word asked) = ⊥
IsStatTask (check_of wants asked) = ⊥
IsStatTask (compare_of comparing asked) = Unit {0}
IsStatTask (both_of word stat asked) = ⊥
IsStatTask (fixed_text_task text) = ⊥

-- The words ask for what is told by stats; where the stats are told, this is what it says.
pub record IsReplyOfStatWords (t : Names) (owned : OwnershipByPath) (stats : Option StatsByPath) (place : CallEnvironment) (words : List (List ℕ)) (reply : Reply) : Type 0 where
  pub request : Request
  pub asked : WordsParseToRequest words request
  pub compares : IsStatTask (task_of_command place.takes_colors request.command)
  pub is : (told : StatsByPath) → stats ≡ Some told → IsResultOfStatTask t owned told place request.directory (Ok reply) (task_of_command place.takes_colors request.command)

-- The words ask for what is told by stats; where the stats are told and did not fail, it is refused so, or for want of memory.
pub record RefusesStatWords (t : Names) (owned : OwnershipByPath) (stats : Option StatsByPath) (before now : ℕ) (place : CallEnvironment) (words : List (List ℕ)) (e : CommandRefusal) : Type 0 where
  pub request : Request
  pub asked : WordsParseToRequest words request
  pub compares : IsStatTask (task_of_command place.takes_colors request.command)
  pub is : (told : StatsByPath) → stats ≡ Some told → CountNotIncreased before now
      → (e ≡ memory) ⊎ IsResultOfStatTask t owned told place request.directory (Err e) (task_of_command place.takes_colors request.command)

-- The words ask for what is told by stats, and over the tree, the owners and the stats this is what it says, or is refused for.
pub record StatWordsHaveResult (t : Names) (owned : OwnershipByPath) (told : StatsByPath) (place : CallEnvironment) (words : List (List ℕ)) (answer : Result Reply CommandRefusal) : Type 0 where
  pub directory : Option (List ℕ)
  pub command : Command
  pub words_are : parse_request_words words ≡ asks directory command
  pub is : (request : Request) → WordsParseToRequest words request → IsResultOfStatTask t owned told place request.directory answer (task_of_command place.takes_colors request.command)
