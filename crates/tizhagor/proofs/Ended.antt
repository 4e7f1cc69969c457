-- What follows of how the top call ends.
use Rattle.std.proofs.Common.{◌≡◌, ◌⊎◌, ◌≤◌, inl, inr, ℕ, List, Some, Result, Ok, Err, sym, ap, ◌∙◌, subst, refl, arith}
use Rattle.worktree_fs.specs.declared.interrupt.Interrupt.{Ghosts as InterruptOf}
use Rattle.worktree_fs.specs.declared.owners.Owners.{Ghosts as OwnersOf}
use Rattle.worktree_fs.specs.declared.sink.Sink.{Ghosts as SinkOf}
use Rattle.worktree_fs.specs.declared.worktree.Worktree.{Ghosts as WorktreeOf}
use Rattle.worktree_fs.specs.Causes.{CountIncreasedOrSaturated, CountNotIncreased}
use Rattle.worktree_fs.specs.Owners.{OwnershipByPath}
use Rattle.worktree_fs.specs.Tree.{Names}
use Rattle.tizhagor.specs.declared.refusal.CommandRefusal.{CommandRefusal}
use Rattle.tizhagor.specs.declared.reply.Reply.{Reply}
use Rattle.tizhagor.specs.Answers.{AnswersWordsWithoutStats, WordsAreMisuse, CallEnvironment, task_of_command}
use Rattle.tizhagor.specs.Ends.{EndsWithStatusAndStreams, SaysRefusalWithProperty, WritesReplyWhole, SaysRefusalOrMemoryLine, SaysLineWithStatus}
use Rattle.tizhagor.specs.Output as output
use Rattle.tizhagor.specs.Parts.{out_of_memory_line}
use Rattle.tizhagor.specs.Refusals.{memory, status_of}
use Rattle.tizhagor.proofs.Statuses.{ends_above, ends_low, is_low, memory_not, no_asking, no_reply, same_error, wants_memory}
use Rattle.tizhagor.proofs.TaskEnds.{IsRefusedAs, task_complete, task_interrupted, task_none, task_not_misuse, task_owners, task_refused, task_reply, task_unfaulted}

-- ---- the call

module _ {W I O S E : Type 0} (w : WorktreeOf W) (i : InterruptOf I) (o : OwnersOf O) (s : SinkOf S) (e : SinkOf E) (w0 w1 : W) (i0 i1 : I) (o0 o1 : O) (s0 s1 : S) (e0 e1 : E) (first : List ℕ) (place : CallEnvironment) (words : List (List ℕ)) (status : ℕ) where
  reply_unfaulted : (reply : Reply) → AnswersWordsWithoutStats w i o w0 w1 i0 i1 o0 o1 place words (Ok reply) → output.CountsNoFaultForWords place words (w.faults w0) (w.faults w1)
  reply_unfaulted reply a =
      elim a [
        | inl of ↦ record { request = of.request; asked = of.asked; unfaulted = task_unfaulted w i o w0 w1 i0 i1 o0 o1 place of.request.directory (task_of_command place.takes_colors of.request.command) reply of.answers }
        | inr (inl wrong) ↦ absurd (no_reply wrong.answer_is)
        | inr (inr unread) ↦ absurd (no_reply unread.answer_is)
      ]

  reply_owners : (reply : Reply) → AnswersWordsWithoutStats w i o w0 w1 i0 i1 o0 o1 place words (Ok reply) → o.faults o1 ≡ o.faults o0
  reply_owners reply a =
      elim a [
        | inl of ↦ task_owners w i o w0 w1 i0 i1 o0 o1 place of.request.directory (task_of_command place.takes_colors of.request.command) reply of.answers
        | inr (inl wrong) ↦ absurd (no_reply wrong.answer_is)
        | inr (inr unread) ↦ absurd (no_reply unread.answer_is)
      ]

  reply_output : (reply : Reply) → AnswersWordsWithoutStats w i o w0 w1 i0 i1 o0 o1 place words (Ok reply) → (t : Names) (owned : OwnershipByPath) → w.told w0 ≡ Some t → o.told o0 ≡ Some owned
      → output.IsReplyOfWords (w.precomposes w0) t owned place words (w.faults w0) (w.faults w1) reply
  reply_output reply a t owned told tells =
      elim a [
        | inl of ↦ record { request = of.request; asked = of.asked; reply_is = λ quiet. task_reply w i o w0 w1 i0 i1 o0 o1 place of.request.directory (task_of_command place.takes_colors of.request.command) reply of.answers t owned told tells quiet }
        | inr (inl wrong) ↦ absurd (no_reply wrong.answer_is)
        | inr (inr unread) ↦ absurd (no_reply unread.answer_is)
      ]

  pub unfaulted : (answer : Result Reply CommandRefusal) → AnswersWordsWithoutStats w i o w0 w1 i0 i1 o0 o1 place words answer → EndsWithStatusAndStreams s e s0 s1 e0 e1 first answer status
      → status ≤ 1 → output.CountsNoFaultForWords place words (w.faults w0) (w.faults w1)
  unfaulted answer a ends few =
      let wrote = ends_low s e s0 s1 e0 e1 first status answer ends few in
      reply_unfaulted wrote.0 (subst (λ (x : Result Reply CommandRefusal). AnswersWordsWithoutStats w i o w0 w1 i0 i1 o0 o1 place words x) wrote.1 a)

  pub owners_unfaulted : (answer : Result Reply CommandRefusal) → AnswersWordsWithoutStats w i o w0 w1 i0 i1 o0 o1 place words answer → EndsWithStatusAndStreams s e s0 s1 e0 e1 first answer status
      → status ≤ 1 → o.faults o1 ≡ o.faults o0
  owners_unfaulted answer a ends few =
      let wrote = ends_low s e s0 s1 e0 e1 first status answer ends few in
      reply_owners wrote.0 (subst (λ (x : Result Reply CommandRefusal). AnswersWordsWithoutStats w i o w0 w1 i0 i1 o0 o1 place words x) wrote.1 a)

  pub gives : (answer : Result Reply CommandRefusal) → AnswersWordsWithoutStats w i o w0 w1 i0 i1 o0 o1 place words answer → EndsWithStatusAndStreams s e s0 s1 e0 e1 first answer status
      → (t : Names) (owned : OwnershipByPath) → w.told w0 ≡ Some t → o.told o0 ≡ Some owned → status ≤ 1
      → (reply : Reply) × output.IsReplyOfWords (w.precomposes w0) t owned place words (w.faults w0) (w.faults w1) reply × WritesReplyWhole s e s0 s1 e0 e1 reply status
  gives answer a ends t owned told tells few =
      let wrote = ends_low s e s0 s1 e0 e1 first status answer ends few in
      (wrote.0, reply_output wrote.0 (subst (λ (x : Result Reply CommandRefusal). AnswersWordsWithoutStats w i o w0 w1 i0 i1 o0 o1 place words x) wrote.1 a) t owned told tells, wrote.2)

  error_misuse : (refusal : CommandRefusal) → AnswersWordsWithoutStats w i o w0 w1 i0 i1 o0 o1 place words (Err refusal) → status_of refusal ≡ 129 → WordsAreMisuse words
  error_misuse refusal a is =
      elim a [
        | inl of ↦ absurd (task_not_misuse w i o w0 w1 i0 i1 o0 o1 place of.request.directory (task_of_command place.takes_colors of.request.command) refusal of.answers is)
        | inr (inl wrong) ↦ wrong.misuse
        | inr (inr unread) ↦ absurd (let same = memory_not refusal 129 (same_error unread.answer_is) is in omega (arith, same))
      ]

  pub misuse : (answer : Result Reply CommandRefusal) → AnswersWordsWithoutStats w i o w0 w1 i0 i1 o0 o1 place words answer → EndsWithStatusAndStreams s e s0 s1 e0 e1 first answer status → status ≡ 129 → WordsAreMisuse words
  misuse answer a ends is =
      let refused = ends_above s e s0 s1 e0 e1 first status answer ends 129 is (omega arith) in
      error_misuse refused.0 (subst (λ (x : Result Reply CommandRefusal). AnswersWordsWithoutStats w i o w0 w1 i0 i1 o0 o1 place words x) refused.1 a) refused.2

  pub usage : (answer : Result Reply CommandRefusal) → AnswersWordsWithoutStats w i o w0 w1 i0 i1 o0 o1 place words answer → EndsWithStatusAndStreams s e s0 s1 e0 e1 first answer status → WordsAreMisuse words
      → (status ≡ 129) ⊎ SaysLineWithStatus e e0 e1 out_of_memory_line 128 status
  usage answer a ends known =
      elim a [
        | inl of ↦ absurd (no_asking (sym of.asked ∙ known.is))
        | inr (inl wrong) ↦ elim (subst (λ (x : Result Reply CommandRefusal). EndsWithStatusAndStreams s e s0 s1 e0 e1 first x status) wrong.answer_is ends).by.1 [ inl told ↦ inl told.status_is | inr untold ↦ inr untold ]
        | inr (inr unread) ↦ inr (wants_memory s e s0 s1 e0 e1 first status memory refl (subst (λ (x : Result Reply CommandRefusal). EndsWithStatusAndStreams s e s0 s1 e0 e1 first x status) unread.answer_is ends).by.1)
      ]

  error_refused : (refusal : CommandRefusal) → AnswersWordsWithoutStats w i o w0 w1 i0 i1 o0 o1 place words (Err refusal) → (t : Names) (owned : OwnershipByPath) → w.told w0 ≡ Some t → o.told o0 ≡ Some owned → CountNotIncreased (w.faults w0) (w.faults w1) → CountNotIncreased (o.faults o0) (o.faults o1)
      → status_of refusal ≡ 128 → (refusal ≡ memory) ⊎ output.RefusesWordsOverTree (w.precomposes w0) t owned place words refusal
  error_refused refusal a t owned told tells quiet owners_quiet is =
      elim a [
        | inl of ↦ elim (task_refused w i o w0 w1 i0 i1 o0 o1 place of.request.directory (task_of_command place.takes_colors of.request.command) refusal of.answers t owned told tells quiet owners_quiet is) [
          | inl wants ↦ inl wants
          | inr refused ↦ inr (record { request = of.request; asked = of.asked; refused = refused })
        ]
        | inr (inl wrong) ↦ absurd (let same = sym is ∙ ap status_of (same_error wrong.answer_is) in omega (arith, same))
        | inr (inr unread) ↦ inl (same_error unread.answer_is)
      ]

  pub fatal : (answer : Result Reply CommandRefusal) → AnswersWordsWithoutStats w i o w0 w1 i0 i1 o0 o1 place words answer → EndsWithStatusAndStreams s e s0 s1 e0 e1 first answer status
      → (t : Names) (owned : OwnershipByPath) → w.told w0 ≡ Some t → o.told o0 ≡ Some owned → status ≡ 128 → CountNotIncreased (w.faults w0) (w.faults w1) → CountNotIncreased (o.faults o0) (o.faults o1) → CountNotIncreased (s.refusals s0) (s.refusals s1)
      → SaysLineWithStatus e e0 e1 out_of_memory_line 128 status ⊎ SaysRefusalWithProperty e e0 e1 first (output.RefusesWordsOverTree (w.precomposes w0) t owned place words)
  fatal (Ok reply) a ends t owned told tells is quiet owners_quiet taken =
      elim ends.by [
        | inl whole ↦ absurd (let same = whole.status_is in let low = is_low reply in omega (arith, same, low, is))
        | inr cut ↦ absurd (let cause = cut.cause in omega (arith, cause, taken))
      ]
  fatal (Err refusal) a ends t owned told tells is quiet owners_quiet taken =
      elim ends.by.1 [
        | inl told_of ↦ elim (error_refused refusal a t owned told tells quiet owners_quiet (sym told_of.status_is ∙ is)) [
          | inl wants ↦ inl (wants_memory s e s0 s1 e0 e1 first status refusal wants ends.by.1)
          | inr refused ↦ inr (record { refusal = refusal; refused = refused; said = told_of.said })
        ]
        | inr untold ↦ inl untold
      ]

  answer_none : (answer : Result Reply CommandRefusal) → AnswersWordsWithoutStats w i o w0 w1 i0 i1 o0 o1 place words answer → (t : Names) (owned : OwnershipByPath) (e : CommandRefusal)
      → w.told w0 ≡ Some t → o.told o0 ≡ Some owned → output.RefusesWordsBeforeSetupIsFound t owned place words e → CountNotIncreased (w.faults w0) (w.faults w1) → CountNotIncreased (o.faults o0) (o.faults o1)
      → IsRefusedAs e answer
  answer_none answer a t owned e told tells known quiet owners_quiet =
      elim a [
        | inl of ↦ task_none w i o w0 w1 i0 i1 o0 o1 place of.request.directory (task_of_command place.takes_colors of.request.command) answer of.answers t owned told tells quiet owners_quiet e (known.refused of.request of.asked)
        | inr (inl wrong) ↦ absurd (no_asking (sym known.words_are ∙ wrong.misuse.is))
        | inr (inr unread) ↦ subst (λ (x : Result Reply CommandRefusal). IsRefusedAs e x) (sym unread.answer_is) (inr refl)
      ]

  pub told_refused : (refusal : CommandRefusal) (answer : Result Reply CommandRefusal) → IsRefusedAs refusal answer → EndsWithStatusAndStreams s e s0 s1 e0 e1 first answer status → SaysRefusalOrMemoryLine e e0 e1 first refusal status
  told_refused refusal (Ok reply) is ends = absurd is
  told_refused refusal (Err other) is ends =
      elim is [
        | inl same ↦ subst (λ (x : CommandRefusal). SaysRefusalOrMemoryLine e e0 e1 first x status) same ends.by.1
        | inr wants ↦ inr (wants_memory s e s0 s1 e0 e1 first status other wants ends.by.1)
      ]

  pub refused : (answer : Result Reply CommandRefusal) → AnswersWordsWithoutStats w i o w0 w1 i0 i1 o0 o1 place words answer → EndsWithStatusAndStreams s e s0 s1 e0 e1 first answer status
      → (t : Names) (owned : OwnershipByPath) (refusal : CommandRefusal) → w.told w0 ≡ Some t → o.told o0 ≡ Some owned → output.RefusesWordsBeforeSetupIsFound t owned place words refusal
      → CountNotIncreased (w.faults w0) (w.faults w1) → CountNotIncreased (o.faults o0) (o.faults o1) → SaysRefusalOrMemoryLine e e0 e1 first refusal status
  refused answer a ends t owned refusal told tells known quiet owners_quiet =
      told_refused refusal answer (answer_none answer a t owned refusal told tells known quiet owners_quiet) ends

  error_interrupted : (refusal : CommandRefusal) → AnswersWordsWithoutStats w i o w0 w1 i0 i1 o0 o1 place words (Err refusal) → status_of refusal ≡ 130 → CountIncreasedOrSaturated (i.raised i0) (i.raised i1)
  error_interrupted refusal a is =
      elim a [
        | inl of ↦ task_interrupted w i o w0 w1 i0 i1 o0 o1 place of.request.directory (task_of_command place.takes_colors of.request.command) refusal of.answers is
        | inr (inl wrong) ↦ absurd (let same = sym is ∙ ap status_of (same_error wrong.answer_is) in omega (arith, same))
        | inr (inr unread) ↦ absurd (let same = memory_not refusal 130 (same_error unread.answer_is) is in omega (arith, same))
      ]

  pub interrupted : (answer : Result Reply CommandRefusal) → AnswersWordsWithoutStats w i o w0 w1 i0 i1 o0 o1 place words answer → EndsWithStatusAndStreams s e s0 s1 e0 e1 first answer status → status ≡ 130
      → CountIncreasedOrSaturated (i.raised i0) (i.raised i1)
  interrupted answer a ends is =
      let refused = ends_above s e s0 s1 e0 e1 first status answer ends 130 is (omega arith) in
      error_interrupted refused.0 (subst (λ (x : Result Reply CommandRefusal). AnswersWordsWithoutStats w i o w0 w1 i0 i1 o0 o1 place words x) refused.1 a) refused.2

  error_complete : (refusal : CommandRefusal) → AnswersWordsWithoutStats w i o w0 w1 i0 i1 o0 o1 place words (Err refusal) → (t : Names) (owned : OwnershipByPath) → w.told w0 ≡ Some t → o.told o0 ≡ Some owned → output.AreWordsAnswerableOverTree (w.precomposes w0) t owned place words
      → CountNotIncreased (w.faults w0) (w.faults w1) → CountNotIncreased (o.faults o0) (o.faults o1) → CountNotIncreased (i.raised i0) (i.raised i1) → refusal ≡ memory
  error_complete refusal a t owned told tells valid quiet owners_quiet calm =
      elim a [
        | inl of ↦ task_complete w i o w0 w1 i0 i1 o0 o1 place of.request.directory (task_of_command place.takes_colors of.request.command) refusal of.answers t owned told tells quiet owners_quiet calm (valid.ready of.request of.asked)
        | inr (inl wrong) ↦ absurd (no_asking (sym valid.words_are ∙ wrong.misuse.is))
        | inr (inr unread) ↦ same_error unread.answer_is
      ]

  pub complete : (answer : Result Reply CommandRefusal) → AnswersWordsWithoutStats w i o w0 w1 i0 i1 o0 o1 place words answer → EndsWithStatusAndStreams s e s0 s1 e0 e1 first answer status
      → (t : Names) (owned : OwnershipByPath) → w.told w0 ≡ Some t → o.told o0 ≡ Some owned → output.AreWordsAnswerableOverTree (w.precomposes w0) t owned place words → CountNotIncreased (w.faults w0) (w.faults w1) → CountNotIncreased (o.faults o0) (o.faults o1)
      → CountNotIncreased (i.raised i0) (i.raised i1) → CountNotIncreased (s.refusals s0) (s.refusals s1) → (status ≤ 1) ⊎ SaysLineWithStatus e e0 e1 out_of_memory_line 128 status
  complete (Ok reply) a ends t owned told tells valid quiet owners_quiet calm taken =
      elim ends.by [ inl whole ↦ inl (let same = whole.status_is in let low = is_low reply in omega (arith, same, low)) | inr cut ↦ absurd (let cause = cut.cause in omega (arith, cause, taken)) ]
  complete (Err refusal) a ends t owned told tells valid quiet owners_quiet calm taken =
      inr (wants_memory s e s0 s1 e0 e1 first status refusal (error_complete refusal a t owned told tells valid quiet owners_quiet calm) ends.by.1)
