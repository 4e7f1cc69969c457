-- How the program ends: with a reply, or with a line that says why there is none.
use Rattle.std.specs.Prelude.{◌≡◌, ◌⊎◌, ◌≤◌, ℕ, List, [], ◌∷◌, Result, Ok, Err}
use Rattle.worktree_fs.specs.declared.sink.Sink.{Ghosts as SinkOf}
use Rattle.worktree_fs.specs.Causes.{CountIncrementedOrSaturated}
use Rattle.worktree_report.specs.Ends.{WritesLineToStderr}
use Rattle.worktree_report.specs.Written.{AppendsWholeBytes, AppendsFrontOfBytes}
use Rattle.tizhagor.specs.declared.refusal.CommandRefusal.{CommandRefusal}
use Rattle.tizhagor.specs.declared.reply.Reply.{Reply}
use Rattle.tizhagor.specs.Parts.{out_of_memory_line, output_refused_line}
use Rattle.tizhagor.specs.Replies.{status_of_reply}
use Rattle.tizhagor.specs.Refusals.{line_of_refusal_with_fault_path, status_of}

-- some lines stand on standard error; where there are none it is not touched
abbrev pub SaysLinesOrNothing : {E : Type 0} → SinkOf E → E → E → List ℕ → Type 0
SaysLinesOrNothing e e0 e1 [] = e1 ≡ e0
SaysLinesOrNothing e e0 e1 (b ∷ lines) = WritesLineToStderr e e0 e1 (b ∷ lines)

-- the output has all bytes of a reply, no write of them is refused, and then standard error has its lines
pub record WritesReplyWhole {S E : Type 0} (s : SinkOf S) (e : SinkOf E) (s0 s1 : S) (e0 e1 : E) (reply : Reply) (status : ℕ) : Type 0 where
  pub status_is : status ≡ status_of_reply reply
  pub written : AppendsWholeBytes (s.written s0) (s.written s1) reply.out
  pub unrefused : s.refusals s1 ≡ s.refusals s0
  pub said : SaysLinesOrNothing e e0 e1 reply.err

-- the output is refused once, behind a front of the text that is not all of it
pub record WritesFrontOfTextThenFails {S E : Type 0} (s : SinkOf S) (e : SinkOf E) (s0 s1 : S) (e0 e1 : E) (text : List ℕ) (status : ℕ) : Type 0 where
  pub status_is : status ≡ 128
  pub written : AppendsFrontOfBytes (s.written s0) (s.written s1) text
  pub cause : CountIncrementedOrSaturated (s.refusals s0) (s.refusals s1)
  pub said : WritesLineToStderr e e0 e1 output_refused_line

-- a status with a line
pub record SaysLineWithStatus {E : Type 0} (e : SinkOf E) (e0 e1 : E) (line : List ℕ) (is status : ℕ) : Type 0 where
  pub status_is : status ≡ is
  pub said : WritesLineToStderr e e0 e1 line

-- the status with the line of a refusal, or, as a line takes memory, the want of it instead; `first` is the path that the worktree names
-- as that of its first fault
abbrev pub SaysRefusalOrMemoryLine : {E : Type 0} → SinkOf E → E → E → List ℕ → CommandRefusal → ℕ → Type 0
SaysRefusalOrMemoryLine e e0 e1 first refusal status = SaysLineWithStatus e e0 e1 (line_of_refusal_with_fault_path first refusal) (status_of refusal) status ⊎ SaysLineWithStatus e e0 e1 out_of_memory_line 128 status

-- a reply is written, whole or a front of its bytes; a refusal is told, and nothing is written
abbrev pub WritesReplyOrSaysRefusal : {S E : Type 0} → SinkOf S → SinkOf E → S → S → E → E → List ℕ → Result Reply CommandRefusal → ℕ → Type 0
WritesReplyOrSaysRefusal s e s0 s1 e0 e1 first (Ok reply) status = WritesReplyWhole s e s0 s1 e0 e1 reply status ⊎ WritesFrontOfTextThenFails s e s0 s1 e0 e1 reply.out status
WritesReplyOrSaysRefusal s e s0 s1 e0 e1 first (Err refusal) status = (s1 ≡ s0) × SaysRefusalOrMemoryLine e e0 e1 first refusal status

-- The status, and what stands on the output and on standard error, where these were `s0` and `e0` and are `s1` and `e1`.
pub record EndsWithStatusAndStreams {S E : Type 0} (s : SinkOf S) (e : SinkOf E) (s0 s1 : S) (e0 e1 : E) (first : List ℕ) (answer : Result Reply CommandRefusal) (status : ℕ) : Type 0 where
  pub by : WritesReplyOrSaysRefusal s e s0 s1 e0 e1 first answer status
  pub refusals : s.refusals s0 ≤ s.refusals s1
  pub err_refusals : e.refusals e0 ≤ e.refusals e1

-- A call: what it was asked for came to an answer for which `Answers` holds, and it ends as that answer does.
pub record RunsToAnswerAndEnds {S E : Type 0} (s : SinkOf S) (e : SinkOf E) (s0 s1 : S) (e0 e1 : E) (first : List ℕ) (Answers : Result Reply CommandRefusal → Type 0) (status : ℕ) : Type 0 where
  pub answer : Result Reply CommandRefusal
  pub answers : Answers answer
  pub ends : EndsWithStatusAndStreams s e s0 s1 e0 e1 first answer status

-- The line of a refusal was said, for which `Refuses` holds.
pub record SaysRefusalWithProperty {E : Type 0} (e : SinkOf E) (e0 e1 : E) (first : List ℕ) (Refuses : CommandRefusal → Type 0) : Type 0 where
  pub refusal : CommandRefusal
  pub refused : Refuses refusal
  pub said : WritesLineToStderr e e0 e1 (line_of_refusal_with_fault_path first refusal)
