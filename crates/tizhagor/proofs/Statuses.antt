-- The status of each refusal, and how the top call ends with an answer.
use Rattle.std.proofs.Common.{◌≡◌, ◌≤◌, ◌<◌, inl, inr, ℕ, List, Bool, true, false, Option, Result, Ok, Err, sym, ap, ◌∙◌, subst, refl, arith}
use Rattle.worktree_fs.specs.declared.sink.Sink.{Ghosts as SinkOf}
use Rattle.worktree_report.specs.declared.refusal.Refusal.{Refusal}
use Rattle.worktree_report.specs.declared.refusal.Refusal.TheVariants as refusals
use Rattle.command_line.specs.Requests.{RequestOrMisuse, Command as Commands, asks, is_misuse}
use Rattle.command_line.specs.declared.misuse.Wrong.{Wrong}
use Rattle.command_line.specs.declared.verb.Topic.{Topic}
use Rattle.git_setup.specs.declared.found.Found.{Found}
use Rattle.tizhagor.specs.declared.refusal.CommandRefusal.{CommandRefusal}
use Rattle.tizhagor.specs.declared.refusal.CommandRefusal.TheVariants as errors
use Rattle.tizhagor.specs.declared.reply.Reply.{Reply}
use Rattle.tizhagor.specs.Ends.{EndsWithStatusAndStreams, WritesReplyWhole, SaysRefusalOrMemoryLine, SaysLineWithStatus}
use Rattle.tizhagor.specs.Parts.{out_of_memory_line}
use Rattle.tizhagor.specs.ProgramLines.{status_of_program_refusal}
use Rattle.tizhagor.specs.Refusals.{MayComeBeforeSetupIsFound, memory, status_of}
use Rattle.tizhagor.specs.Replies.{status_of_yes_or_no, status_of_reply}

-- ---- statuses

program_high : (r : Refusal) → 128 ≤ status_of_program_refusal r
program_high refusals.Interrupted = omega arith
program_high refusals.Usage = omega arith
program_high (refusals.Setup line) = omega arith
program_high (refusals.Walk word path) = omega arith
program_high (refusals.Misread which) = omega arith
program_high refusals.Fault = omega arith
program_high refusals.Output = omega arith
program_high refusals.OutOfMemory = omega arith

is_high : (e : CommandRefusal) → 128 ≤ status_of e
is_high (errors.Words misuse) = omega arith
is_high (errors.Absent directory) = omega arith
is_high (errors.NotADirectory directory) = omega arith
is_high (errors.NotAtTop root) = omega arith
is_high errors.Elsewhere = omega arith
is_high (errors.Git refusal) = omega arith
is_high (errors.Listing wrong) = omega arith
is_high (errors.ExcludeFile name) = omega arith
is_high (errors.Uncompared reason) = omega arith
is_high (errors.Unchecked reason) = omega arith
is_high (errors.Cleaning wrong) = omega arith
is_high (errors.Program r) = program_high r

pub is_low : (reply : Reply) → status_of_reply reply ≤ 1
is_low reply = go reply.is_no
  where
    go : (is_no : Bool) → status_of_yes_or_no is_no ≤ 1
    go true = omega arith
    go false = omega arith

pub program_not_misuse : (r : Refusal) → status_of_program_refusal r ≡ 129 → ⊥
program_not_misuse refusals.Interrupted is = omega arith
program_not_misuse refusals.Usage is = omega arith
program_not_misuse (refusals.Setup line) is = omega arith
program_not_misuse (refusals.Walk word path) is = omega arith
program_not_misuse (refusals.Misread which) is = omega arith
program_not_misuse refusals.Fault is = omega arith
program_not_misuse refusals.Output is = omega arith
program_not_misuse refusals.OutOfMemory is = omega arith

-- while a work tree is looked for no word is found wrong, and no interrupt is asked
pub finding_not_misuse : (e : CommandRefusal) → MayComeBeforeSetupIsFound e → status_of e ≡ 129 → ⊥
finding_not_misuse (errors.Words misuse) of is = absurd of
finding_not_misuse (errors.Absent directory) of is = omega arith
finding_not_misuse (errors.NotADirectory directory) of is = omega arith
finding_not_misuse (errors.NotAtTop root) of is = omega arith
finding_not_misuse errors.Elsewhere of is = omega arith
finding_not_misuse (errors.Git refusal) of is = omega arith
finding_not_misuse (errors.Listing wrong) of is = omega arith
finding_not_misuse (errors.ExcludeFile name) of is = omega arith
finding_not_misuse (errors.Uncompared reason) of is = omega arith
finding_not_misuse (errors.Unchecked reason) of is = omega arith
finding_not_misuse (errors.Cleaning wrong) of is = omega arith
finding_not_misuse (errors.Program r) of is = program_not_misuse r is

pub interrupted_is : (r : Refusal) → status_of_program_refusal r ≡ 130 → r ≡ refusals.Interrupted
interrupted_is refusals.Interrupted is = refl
interrupted_is refusals.Usage is = absurd (omega arith)
interrupted_is (refusals.Setup line) is = absurd (omega arith)
interrupted_is (refusals.Walk word path) is = absurd (omega arith)
interrupted_is (refusals.Misread which) is = absurd (omega arith)
interrupted_is refusals.Fault is = absurd (omega arith)
interrupted_is refusals.Output is = absurd (omega arith)
interrupted_is refusals.OutOfMemory is = absurd (omega arith)

pub finding_not_interrupted : (e : CommandRefusal) → MayComeBeforeSetupIsFound e → status_of e ≡ 130 → ⊥
finding_not_interrupted (errors.Words misuse) of is = absurd of
finding_not_interrupted (errors.Absent directory) of is = omega arith
finding_not_interrupted (errors.NotADirectory directory) of is = omega arith
finding_not_interrupted (errors.NotAtTop root) of is = omega arith
finding_not_interrupted errors.Elsewhere of is = omega arith
finding_not_interrupted (errors.Git refusal) of is = omega arith
finding_not_interrupted (errors.Listing wrong) of is = omega arith
finding_not_interrupted (errors.ExcludeFile name) of is = omega arith
finding_not_interrupted (errors.Uncompared reason) of is = omega arith
finding_not_interrupted (errors.Unchecked reason) of is = omega arith
finding_not_interrupted (errors.Cleaning wrong) of is = omega arith
finding_not_interrupted (errors.Program refusals.Interrupted) of is = absurd of
finding_not_interrupted (errors.Program refusals.Usage) of is = absurd of
finding_not_interrupted (errors.Program (refusals.Setup line)) of is = absurd of
finding_not_interrupted (errors.Program (refusals.Walk word path)) of is = absurd of
finding_not_interrupted (errors.Program (refusals.Misread which)) of is = absurd of
finding_not_interrupted (errors.Program refusals.Fault) of is = omega arith
finding_not_interrupted (errors.Program refusals.Output) of is = absurd of
finding_not_interrupted (errors.Program refusals.OutOfMemory) of is = omega arith

pub memory_not : (e : CommandRefusal) (n : ℕ) → e ≡ memory → status_of e ≡ n → n ≡ 128
memory_not e n is status = sym status ∙ ap status_of is

-- ---- terms

pub no_reply : {a : Reply} {b : CommandRefusal} → ◌≡◌ {A = Result Reply CommandRefusal} (Ok a) (Err b) → ⊥
no_reply is = absurd cc

pub same_error : {a b : CommandRefusal} → ◌≡◌ {A = Result Reply CommandRefusal} (Err a) (Err b) → a ≡ b
same_error e = cc

pub same_found : {a b : Found} → ◌≡◌ {A = Result Found CommandRefusal} (Ok a) (Ok b) → a ≡ b
same_found e = cc

pub same_refusal : {a b : CommandRefusal} → ◌≡◌ {A = Result Found CommandRefusal} (Err a) (Err b) → a ≡ b
same_refusal e = cc

pub not_found : {a : Found} {b : CommandRefusal} → ◌≡◌ {A = Result Found CommandRefusal} (Ok a) (Err b) → ⊥
not_found is = absurd cc

pub no_asking : {directory : Option (List ℕ)} {command : Commands} {topic : Topic} {wrong : Wrong} {word : List ℕ} → ◌≡◌ {A = RequestOrMisuse} (asks directory command) (is_misuse topic wrong word) → ⊥
no_asking is = absurd cc

-- ---- how it ends

module _ {S E : Type 0} (s : SinkOf S) (e : SinkOf E) (s0 s1 : S) (e0 e1 : E) (first : List ℕ) (status : ℕ) where
  -- with 0 and 1 there is a reply, and it is written
  pub ends_low : (answer : Result Reply CommandRefusal) → EndsWithStatusAndStreams s e s0 s1 e0 e1 first answer status → status ≤ 1
      → (reply : Reply) × (answer ≡ Ok reply) × WritesReplyWhole s e s0 s1 e0 e1 reply status
  ends_low (Ok reply) ends few = elim ends.by [ inl whole ↦ (reply, refl, whole) | inr cut ↦ absurd (let is = cut.status_is in omega (arith, is, few)) ]
  ends_low (Err refusal) ends few =
      elim ends.by.1 [
        | inl told ↦ absurd (let is = told.status_is in let high = is_high refusal in omega (arith, is, high, few))
        | inr untold ↦ absurd (let is = untold.status_is in omega (arith, is, few))
      ]

  -- a status above 128 is that of a refusal
  pub ends_above : (answer : Result Reply CommandRefusal) → EndsWithStatusAndStreams s e s0 s1 e0 e1 first answer status → (n : ℕ) → status ≡ n → 128 < n
      → (refusal : CommandRefusal) × (answer ≡ Err refusal) × (status_of refusal ≡ n)
  ends_above (Ok reply) ends n is high =
      elim ends.by [
        | inl whole ↦ absurd (let same = whole.status_is in let low = is_low reply in omega (arith, same, low, is, high))
        | inr cut ↦ absurd (let same = cut.status_is in omega (arith, same, is, high))
      ]
  ends_above (Err refusal) ends n is high =
      elim ends.by.1 [ inl told ↦ (refusal, refl, sym told.status_is ∙ is) | inr untold ↦ absurd (let same = untold.status_is in omega (arith, same, is, high)) ]

  -- want of memory is told
  pub wants_memory : (refusal : CommandRefusal) → refusal ≡ memory → SaysRefusalOrMemoryLine e e0 e1 first refusal status → SaysLineWithStatus e e0 e1 out_of_memory_line 128 status
  wants_memory refusal is told = elim (subst (λ (x : CommandRefusal). SaysRefusalOrMemoryLine e e0 e1 first x status) is told) [ inl known ↦ record { status_is = known.status_is; said = known.said } | inr untold ↦ untold ]
