-- What a top call ends in, where what it was asked for came to an answer: a text, or why there is none.
use Rattle.std.specs.Prelude.{◌≡◌, ◌⊎◌, ◌≤◌, ℕ, List, true, Result, Ok, Err}
use Rattle.worktree_fs.specs.declared.sink.Sink.{Ghosts as SinkOf}
use Rattle.worktree_fs.specs.Causes.{CountIncrementedOrSaturated}
use Rattle.worktree_report.specs.declared.refusal.Refusal.{Refusal}
use Rattle.worktree_report.specs.declared.refusal.Refusal.TheVariants as refusals
use Rattle.worktree_report.specs.Refusals.{WritesLineOrRefusedFront, takes_memory_for_line, line_of_refusal, status_of}
use Rattle.worktree_report.specs.Written.{AppendsWholeBytes, AppendsFrontOfBytes}

-- one line more stands on standard error, where that refuses nothing; else a front of it, and nothing is written behind what is refused
abbrev pub WritesLineToStderr : {E : Type 0} → SinkOf E → E → E → List ℕ → Type 0
WritesLineToStderr e e0 e1 line = WritesLineOrRefusedFront (e.written e0) (e.written e1) (e.refusals e0) (e.refusals e1) line

-- the text is written whole, no write of it is refused, and standard error is not touched
pub record WritesWholeText {S E : Type 0} (s : SinkOf S) (e : SinkOf E) (s0 s1 : S) (e0 e1 : E) (text : List ℕ) (status : ℕ) : Type 0 where
  pub status_is : status ≡ 0
  pub written : AppendsWholeBytes (s.written s0) (s.written s1) text
  pub unrefused : s.refusals s1 ≡ s.refusals s0
  pub silent : e1 ≡ e0

-- the output is refused once, behind a front of the text that is not all of it
pub record WritesTextPartly {S E : Type 0} (s : SinkOf S) (e : SinkOf E) (s0 s1 : S) (e0 e1 : E) (usage text : List ℕ) (status : ℕ) : Type 0 where
  pub status_is : status ≡ 7
  pub written : AppendsFrontOfBytes (s.written s0) (s.written s1) text
  pub cause : CountIncrementedOrSaturated (s.refusals s0) (s.refusals s1)
  pub said : WritesLineToStderr e e0 e1 (line_of_refusal usage refusals.Output)

-- a status with the line of a refusal
pub record ReportsRefusalLine {E : Type 0} (e : SinkOf E) (e0 e1 : E) (usage : List ℕ) (refusal : Refusal) (status : ℕ) : Type 0 where
  pub status_is : status ≡ status_of refusal
  pub said : WritesLineToStderr e e0 e1 (line_of_refusal usage refusal)

-- and, where that line takes memory, the want of it instead
pub record ReportsMemoryForLine {E : Type 0} (e : SinkOf E) (e0 e1 : E) (usage : List ℕ) (refusal : Refusal) (status : ℕ) : Type 0 where
  pub made : takes_memory_for_line refusal ≡ true
  pub wants : ReportsRefusalLine e e0 e1 usage refusals.OutOfMemory status

-- a refusal is told with its own status and line, or as `out of memory` where its line could not be made
abbrev pub ReportsRefusalOrMemory : {E : Type 0} → SinkOf E → E → E → List ℕ → Refusal → ℕ → Type 0
ReportsRefusalOrMemory e e0 e1 usage refusal status = ReportsRefusalLine e e0 e1 usage refusal status ⊎ ReportsMemoryForLine e e0 e1 usage refusal status

-- a text is written, whole or a front of it; a refusal is told, and nothing is written
abbrev pub EndsWithTextOrRefusal : {S E : Type 0} → SinkOf S → SinkOf E → S → S → E → E → List ℕ → Result (List ℕ) Refusal → ℕ → Type 0
EndsWithTextOrRefusal s e s0 s1 e0 e1 usage (Ok text) status = WritesWholeText s e s0 s1 e0 e1 text status ⊎ WritesTextPartly s e s0 s1 e0 e1 usage text status
EndsWithTextOrRefusal s e s0 s1 e0 e1 usage (Err refusal) status =
    (s1 ≡ s0) × ReportsRefusalOrMemory e e0 e1 usage refusal status

-- The status, and what stands on the output and on standard error, where these were `s0` and `e0` and are `s1` and `e1`. `usage` is the
-- line for words that ask for nothing.
pub record TopCallEnds {S E : Type 0} (s : SinkOf S) (e : SinkOf E) (s0 s1 : S) (e0 e1 : E) (usage : List ℕ) (answer : Result (List ℕ) Refusal) (status : ℕ) : Type 0 where
  pub by : EndsWithTextOrRefusal s e s0 s1 e0 e1 usage answer status
  pub refusals : s.refusals s0 ≤ s.refusals s1
  pub err_refusals : e.refusals e0 ≤ e.refusals e1

-- A top call: what it was asked for came to an answer for which `Answers` holds, and it ends as that answer does.
pub record TopCallAnswersAndEnds {S E : Type 0} (s : SinkOf S) (e : SinkOf E) (s0 s1 : S) (e0 e1 : E) (usage : List ℕ) (Answers : Result (List ℕ) Refusal → Type 0) (status : ℕ) : Type 0 where
  pub answer : Result (List ℕ) Refusal
  pub answers : Answers answer
  pub ends : TopCallEnds s e s0 s1 e0 e1 usage answer status
