-- What is answered to two words: one of git's own words, or the report, and then one that is told by stats.
use Rattle.std.specs.Prelude.{◌≡◌, ◌⊎◌, Result, Ok, Err}
use Rattle.diff_files.specs.Stats.{StatsByPath}
use Rattle.diff_files.specs.declared.stats.Stats.{Ghosts as StatsOf}
use Rattle.git_setup.specs.declared.found.Found.{Found}
use Rattle.worktree_fs.specs.declared.interrupt.Interrupt.{Ghosts as InterruptOf}
use Rattle.worktree_fs.specs.declared.owners.Owners.{Ghosts as OwnersOf}
use Rattle.worktree_fs.specs.declared.worktree.Worktree.{Ghosts as WorktreeOf}
use Rattle.worktree_fs.specs.Owners.{OwnershipByPath}
use Rattle.worktree_fs.specs.Tree.{Names}
use Rattle.tizhagor.specs.declared.refusal.CommandRefusal.{CommandRefusal}
use Rattle.tizhagor.specs.declared.reply.Reply.{Reply}
use Rattle.tizhagor.specs.Answers.{AnswersWorkTreeCommand}
use Rattle.tizhagor.specs.Compares.{FindsOverTreeOwnersAndStats}
use Rattle.tizhagor.specs.TreeWords.{WorkTreeCommand}
use Rattle.tizhagor.specs.Refusals.{memory}

-- two replies as `join` puts them together, or the refusal of the second; or memory was wanted for both together
abbrev pub IsJoinedReply : (Reply → Reply → Reply) → Reply → Result Reply CommandRefusal → Result Reply CommandRefusal → Type 0
IsJoinedReply join first (Ok second) answer = (answer ≡ Ok (join first second)) ⊎ (answer ≡ Err memory)
IsJoinedReply join first (Err e) answer = answer ≡ Err e

-- The first word is refused, and the second is not asked for.
pub record FirstCommandRefuses {W I O D : Type 0} (w : WorktreeOf W) (i : InterruptOf I) (o : OwnersOf O) (w0 w1 : W) (i0 i1 : I) (o0 o1 : O) (d0 d1 : D)
    (walked : Names → OwnershipByPath → Result Found CommandRefusal) (word : WorkTreeCommand) (answer : Result Reply CommandRefusal) : Type 0 where
  pub refusal : CommandRefusal
  pub answer_is : answer ≡ Err refusal
  pub walks : AnswersWorkTreeCommand w i o w0 w1 i0 i1 o0 o1 walked word (Err refusal)
  pub stats : d1 ≡ d0

-- The first word has a reply. The second is answered over the worktree and the owners as they were by then, and asks no interrupt.
pub record SecondAnswersAfterFirst {W I O D : Type 0} (w : WorktreeOf W) (i : InterruptOf I) (o : OwnersOf O) (d : StatsOf D) (w0 w1 : W) (i0 i1 : I) (o0 o1 : O) (d0 d1 : D)
    (walked : Names → OwnershipByPath → Result Found CommandRefusal) (word : WorkTreeCommand) (join : Reply → Reply → Reply) (changed : Names → OwnershipByPath → StatsByPath → Result Reply CommandRefusal) (answer : Result Reply CommandRefusal) : Type 0 where
  pub middle : W
  pub owners : O
  pub first : Reply
  pub second : Result Reply CommandRefusal
  pub walks : AnswersWorkTreeCommand w i o w0 middle i0 i1 o0 owners walked word (Ok first)
  pub compares : FindsOverTreeOwnersAndStats w o d middle w1 owners o1 d0 d1 changed second
  pub joined : IsJoinedReply join first second answer

-- the first command is refused and no stat is asked for, or its reply and that of the second are joined;
-- where the second is refused, nothing of the first is given
abbrev pub AnswersTreeAndStatCommand : {W I O D : Type 0} → WorktreeOf W → InterruptOf I → OwnersOf O → StatsOf D → W → W → I → I → O → O → D → D
    → (Names → OwnershipByPath → Result Found CommandRefusal) → WorkTreeCommand → (Reply → Reply → Reply) → (Names → OwnershipByPath → StatsByPath → Result Reply CommandRefusal) → Result Reply CommandRefusal → Type 0
AnswersTreeAndStatCommand w i o d w0 w1 i0 i1 o0 o1 d0 d1 walked word join changed answer =
    FirstCommandRefuses w i o w0 w1 i0 i1 o0 o1 d0 d1 walked word answer ⊎ SecondAnswersAfterFirst w i o d w0 w1 i0 i1 o0 o1 d0 d1 walked word join changed answer
