-- What follows of how the top call ends, with what is told by stats among the commands.
use Rattle.std.proofs.Common.{◌≡◌, ◌⊎◌, ◌≤◌, ◌<◌, inl, inr, ℕ, List, Bool, true, false, Option, Some, Result, Ok, Err, IfErr, sym, ap, ◌∙◌, subst, refl, arith}
use Rattle.diff_files.specs.Stats.{StatsByPath}
use Rattle.diff_files.specs.declared.stats.Stats.{Ghosts as StatsOf}
use Rattle.command_line.specs.declared.command.Request.{Request}
use Rattle.git_places.specs.Answers.{IsFoundOrFailed}
use Rattle.git_setup.specs.declared.asked.Asked.{Asked}
use Rattle.worktree_fs.specs.declared.interrupt.Interrupt.{Ghosts as InterruptOf}
use Rattle.worktree_fs.specs.declared.owners.Owners.{Ghosts as OwnersOf}
use Rattle.worktree_fs.specs.declared.sink.Sink.{Ghosts as SinkOf}
use Rattle.worktree_fs.specs.declared.worktree.Worktree.{Ghosts as WorktreeOf}
use Rattle.worktree_fs.specs.Causes.{CountIncreasedOrSaturated, CountNotIncreased}
use Rattle.worktree_fs.specs.Owners.{OwnershipByPath}
use Rattle.worktree_fs.specs.Tree.{Names}
use Rattle.tizhagor.specs.declared.refusal.CommandRefusal.{CommandRefusal}
use Rattle.tizhagor.specs.declared.reply.Reply.{Reply}
use Rattle.tizhagor.specs.Answers.{AnswersWordsWithoutStats, AnswersTaskWithoutStats, WordsParseToRequest, WordsAreMisuse, CallEnvironment, CommandTask, both_of, call_of, check_of, compare_of, fixed_text_task, task_of_command, word_of}
use Rattle.tizhagor.specs.ComparedHere.{AnswersWordsWithOrWithoutStats, AnswersAnyTask, AnswersRequestByStats, StatWordsHaveResult, IsReplyOfStatWords, IsStatTask, IsResultOfStatTask, RefusesStatWords, stat_command_reply_in_environment}
use Rattle.tizhagor.specs.Compares.{FindsOverTreeOwnersAndStats, WorktreeOwnersOrStatsFail}
use Rattle.tizhagor.specs.Ends.{EndsWithStatusAndStreams, SaysRefusalWithProperty, WritesReplyWhole, SaysRefusalOrMemoryLine, SaysLineWithStatus}
use Rattle.tizhagor.specs.Output as output
use Rattle.tizhagor.specs.Parts.{out_of_memory_line}
use Rattle.tizhagor.specs.Refusals.{MayComeBeforeSetupIsFound, fault, memory, status_of}
use Rattle.tizhagor.proofs.Ended as ended
use Rattle.tizhagor.proofs.Statuses as statuses

-- ---- tasks

no_word : {W I O : Type 0} (w : WorktreeOf W) (i : InterruptOf I) (o : OwnersOf O) (w0 w1 : W) (i0 i1 : I) (o0 o1 : O) (place : CallEnvironment) (directory : Option (List ℕ)) (answer wanted : Result Reply CommandRefusal)
    (t : Names) (owned : OwnershipByPath) (told : StatsByPath) (task : CommandTask) → AnswersTaskWithoutStats w i o w0 w1 i0 i1 o0 o1 place directory answer task → IsResultOfStatTask t owned told place directory wanted task → ⊥
no_word w i o w0 w1 i0 i1 o0 o1 place directory answer wanted t owned told (call_of call asked writing) a said = said
no_word w i o w0 w1 i0 i1 o0 o1 place directory answer wanted t owned told (word_of word asked) a said = said
no_word w i o w0 w1 i0 i1 o0 o1 place directory answer wanted t owned told (check_of wants asked) a said = said
no_word w i o w0 w1 i0 i1 o0 o1 place directory answer wanted t owned told (compare_of comparing asked) a said = a
no_word w i o w0 w1 i0 i1 o0 o1 place directory answer wanted t owned told (both_of word stat asked) a said = said
no_word w i o w0 w1 i0 i1 o0 o1 place directory answer wanted t owned told (fixed_text_task text) a said = said

-- ---- the call

module _ {W I O D S E : Type 0} (w : WorktreeOf W) (i : InterruptOf I) (o : OwnersOf O) (d : StatsOf D) (s : SinkOf S) (e : SinkOf E) (w0 w1 : W) (i0 i1 : I) (o0 o1 : O) (d0 d1 : D) (s0 s1 : S) (e0 e1 : E) (first : List ℕ) (place : CallEnvironment) (words : List (List ℕ)) (status : ℕ) where
  -- what is said of a comparison where the answer is known
  as_known : (answer known : Result Reply CommandRefusal) (a : AnswersRequestByStats w o d w0 w1 i0 i1 o0 o1 d0 d1 place words answer) → answer ≡ known
      → FindsOverTreeOwnersAndStats w o d w0 w1 o0 o1 d0 d1 (stat_command_reply_in_environment place a.request.directory a.wants a.comparing) known
  as_known answer known a is = subst (λ (x : Result Reply CommandRefusal). FindsOverTreeOwnersAndStats w o d w0 w1 o0 o1 d0 d1 (stat_command_reply_in_environment place a.request.directory a.wants a.comparing) x) is a.compares

  -- and of its task
  as_task : (P : CommandTask → Type 0) (answer : Result Reply CommandRefusal) (a : AnswersRequestByStats w o d w0 w1 i0 i1 o0 o1 d0 d1 place words answer) → P (compare_of a.comparing a.wants) → P (task_of_command place.takes_colors a.request.command)
  as_task P answer a holds = subst P (sym a.task_is) holds

  of_task : (P : CommandTask → Type 0) (answer : Result Reply CommandRefusal) (a : AnswersRequestByStats w o d w0 w1 i0 i1 o0 o1 d0 d1 place words answer) → P (task_of_command place.takes_colors a.request.command) → P (compare_of a.comparing a.wants)
  of_task P answer a holds = subst P a.task_is holds

  pub unfaulted : (answer : Result Reply CommandRefusal) → AnswersWordsWithOrWithoutStats w i o d w0 w1 i0 i1 o0 o1 d0 d1 place words answer → EndsWithStatusAndStreams s e s0 s1 e0 e1 first answer status
      → status ≤ 1 → output.CountsNoFaultForWords place words (w.faults w0) (w.faults w1)
  unfaulted answer any ends few =
      elim any [
        | inl here ↦ ended.unfaulted w i o s e w0 w1 i0 i1 o0 o1 s0 s1 e0 e1 first place words status answer here.0 ends few
        | inr a ↦
            let wrote = statuses.ends_low s e s0 s1 e0 e1 first status answer ends few in
            record {
              request = a.request;
              asked = a.asked;
              unfaulted = as_task (λ (x : CommandTask). output.CountsNoFaultForTask (w.faults w0) (w.faults w1) x) answer a (as_known answer (Ok wrote.0) a wrote.1).unfaulted;
            }
      ]

  pub owners_unfaulted : (answer : Result Reply CommandRefusal) → AnswersWordsWithOrWithoutStats w i o d w0 w1 i0 i1 o0 o1 d0 d1 place words answer → EndsWithStatusAndStreams s e s0 s1 e0 e1 first answer status
      → status ≤ 1 → o.faults o1 ≡ o.faults o0
  owners_unfaulted answer any ends few =
      elim any [
        | inl here ↦ ended.owners_unfaulted w i o s e w0 w1 i0 i1 o0 o1 s0 s1 e0 e1 first place words status answer here.0 ends few
        | inr a ↦ let wrote = statuses.ends_low s e s0 s1 e0 e1 first status answer ends few in (as_known answer (Ok wrote.0) a wrote.1).owners_unfaulted
      ]

  pub stats_unfaulted : (answer : Result Reply CommandRefusal) → AnswersWordsWithOrWithoutStats w i o d w0 w1 i0 i1 o0 o1 d0 d1 place words answer → EndsWithStatusAndStreams s e s0 s1 e0 e1 first answer status
      → status ≤ 1 → d.faults d1 ≡ d.faults d0
  stats_unfaulted answer any ends few =
      elim any [
        | inl here ↦ ap d.faults here.1
        | inr a ↦ let wrote = statuses.ends_low s e s0 s1 e0 e1 first status answer ends few in (as_known answer (Ok wrote.0) a wrote.1).stats_unfaulted
      ]

  pub gives : (answer : Result Reply CommandRefusal) → AnswersWordsWithOrWithoutStats w i o d w0 w1 i0 i1 o0 o1 d0 d1 place words answer → EndsWithStatusAndStreams s e s0 s1 e0 e1 first answer status
      → (t : Names) (owned : OwnershipByPath) → w.told w0 ≡ Some t → o.told o0 ≡ Some owned → status ≤ 1
      → (reply : Reply) × (output.IsReplyOfWords (w.precomposes w0) t owned place words (w.faults w0) (w.faults w1) reply ⊎ IsReplyOfStatWords t owned (d.told d0) place words reply) × WritesReplyWhole s e s0 s1 e0 e1 reply status
  gives answer any ends t owned tree owns few =
      elim any [
        | inl here ↦ let gave = ended.gives w i o s e w0 w1 i0 i1 o0 o1 s0 s1 e0 e1 first place words status answer here.0 ends t owned tree owns few in (gave.0, inl gave.1, gave.2)
        | inr a ↦
            let wrote = statuses.ends_low s e s0 s1 e0 e1 first status answer ends few in (
              wrote.0,
              inr (record {
                request = a.request;
                asked = a.asked;
                compares = as_task IsStatTask answer a tt;
                is = λ told tells. as_task (λ (x : CommandTask). IsResultOfStatTask t owned told place a.request.directory (Ok wrote.0) x) answer a ((as_known answer (Ok wrote.0) a wrote.1).gives t owned told tree owns tells);
              }),
              wrote.2,
            )
      ]

  pub misuse : (answer : Result Reply CommandRefusal) → AnswersWordsWithOrWithoutStats w i o d w0 w1 i0 i1 o0 o1 d0 d1 place words answer → EndsWithStatusAndStreams s e s0 s1 e0 e1 first answer status → status ≡ 129 → WordsAreMisuse words
  misuse answer any ends is =
      elim any [
        | inl here ↦ ended.misuse w i o s e w0 w1 i0 i1 o0 o1 s0 s1 e0 e1 first place words status answer here.0 ends is
        | inr a ↦
            let refused = statuses.ends_above s e s0 s1 e0 e1 first status answer ends 129 is (omega arith) in
            absurd (statuses.finding_not_misuse refused.0 (as_known answer (Err refused.0) a refused.1).of refused.2)
      ]

  pub usage : (answer : Result Reply CommandRefusal) → AnswersWordsWithOrWithoutStats w i o d w0 w1 i0 i1 o0 o1 d0 d1 place words answer → EndsWithStatusAndStreams s e s0 s1 e0 e1 first answer status → WordsAreMisuse words
      → (status ≡ 129) ⊎ SaysLineWithStatus e e0 e1 out_of_memory_line 128 status
  usage answer any ends known =
      elim any [
        | inl here ↦ ended.usage w i o s e w0 w1 i0 i1 o0 o1 s0 s1 e0 e1 first place words status answer here.0 ends known
        | inr a ↦ absurd (statuses.no_asking (sym a.asked ∙ known.is))
      ]

  pub interrupted : (answer : Result Reply CommandRefusal) → AnswersWordsWithOrWithoutStats w i o d w0 w1 i0 i1 o0 o1 d0 d1 place words answer → EndsWithStatusAndStreams s e s0 s1 e0 e1 first answer status → status ≡ 130
      → CountIncreasedOrSaturated (i.raised i0) (i.raised i1)
  interrupted answer any ends is =
      elim any [
        | inl here ↦ ended.interrupted w i o s e w0 w1 i0 i1 o0 o1 s0 s1 e0 e1 first place words status answer here.0 ends is
        | inr a ↦
            let refused = statuses.ends_above s e s0 s1 e0 e1 first status answer ends 130 is (omega arith) in
            absurd (statuses.finding_not_interrupted refused.0 (as_known answer (Err refused.0) a refused.1).of refused.2)
      ]

  -- nothing failed
  no_fault : WorktreeOwnersOrStatsFail w o d w0 w1 o0 o1 d0 d1 → CountNotIncreased (w.faults w0) (w.faults w1) → CountNotIncreased (o.faults o0) (o.faults o1) → CountNotIncreased (d.faults d0) (d.faults d1) → ⊥
  no_fault failed quiet owners_quiet stats_quiet =
      elim failed [ inl rose ↦ omega (arith, rose, quiet) | inr (inl rose) ↦ omega (arith, rose, owners_quiet) | inr (inr rose) ↦ omega (arith, rose, stats_quiet) ]

  is_refused : (refusal : CommandRefusal) (a : AnswersRequestByStats w o d w0 w1 i0 i1 o0 o1 d0 d1 place words (Err refusal)) (t : Names) (owned : OwnershipByPath) → w.told w0 ≡ Some t → o.told o0 ≡ Some owned
      → CountNotIncreased (w.faults w0) (w.faults w1) → CountNotIncreased (o.faults o0) (o.faults o1) → (told : StatsByPath) → d.told d0 ≡ Some told → CountNotIncreased (d.faults d0) (d.faults d1)
      → (refusal ≡ memory) ⊎ (stat_command_reply_in_environment place a.request.directory a.wants a.comparing t owned told ≡ Err refusal)
  is_refused refusal a t owned tree owns quiet owners_quiet told tells stats_quiet =
      elim (a.compares.gives t owned told tree owns tells) [
        | inl is ↦ inr is
        | inr (inl failed) ↦ absurd (no_fault (a.compares.cause (ap Err failed)) quiet owners_quiet stats_quiet)
        | inr (inr wants) ↦ inl wants
      ]

  refuses : (refusal : CommandRefusal) (a : AnswersRequestByStats w o d w0 w1 i0 i1 o0 o1 d0 d1 place words (Err refusal)) (t : Names) (owned : OwnershipByPath) → w.told w0 ≡ Some t → o.told o0 ≡ Some owned
      → CountNotIncreased (w.faults w0) (w.faults w1) → CountNotIncreased (o.faults o0) (o.faults o1) → RefusesStatWords t owned (d.told d0) (d.faults d0) (d.faults d1) place words refusal
  refuses refusal a t owned tree owns quiet owners_quiet =
      record {
        request = a.request;
        asked = a.asked;
        compares = as_task IsStatTask (Err refusal) a tt;
        is = λ told tells stats_quiet. elim (is_refused refusal a t owned tree owns quiet owners_quiet told tells stats_quiet) [
          | inl wants ↦ inl wants
          | inr said ↦ inr (as_task (λ (x : CommandTask). IsResultOfStatTask t owned told place a.request.directory (Err refusal) x) (Err refusal) a said)
        ];
      }

  pub fatal : (answer : Result Reply CommandRefusal) → AnswersWordsWithOrWithoutStats w i o d w0 w1 i0 i1 o0 o1 d0 d1 place words answer → EndsWithStatusAndStreams s e s0 s1 e0 e1 first answer status
      → (t : Names) (owned : OwnershipByPath) → w.told w0 ≡ Some t → o.told o0 ≡ Some owned → status ≡ 128 → CountNotIncreased (w.faults w0) (w.faults w1) → CountNotIncreased (o.faults o0) (o.faults o1) → CountNotIncreased (s.refusals s0) (s.refusals s1)
      → SaysLineWithStatus e e0 e1 out_of_memory_line 128 status
      ⊎ SaysRefusalWithProperty e e0 e1 first (λ refusal. output.RefusesWordsOverTree (w.precomposes w0) t owned place words refusal ⊎ RefusesStatWords t owned (d.told d0) (d.faults d0) (d.faults d1) place words refusal)
  fatal (Ok reply) any ends t owned tree owns is quiet owners_quiet taken =
      elim ends.by [
        | inl whole ↦ absurd (let same = whole.status_is in let low = statuses.is_low reply in omega (arith, same, low, is))
        | inr cut ↦ absurd (let cause = cut.cause in omega (arith, cause, taken))
      ]
  fatal (Err refusal) any ends t owned tree owns is quiet owners_quiet taken =
      elim any [
        | inl here ↦ elim (ended.fatal w i o s e w0 w1 i0 i1 o0 o1 s0 s1 e0 e1 first place words status (Err refusal) here.0 ends t owned tree owns is quiet owners_quiet taken) [
          | inl wants ↦ inl wants
          | inr told ↦ inr (record { refusal = told.refusal; refused = inl told.refused; said = told.said })
        ]
        | inr a ↦ elim ends.by.1 [
          | inl told ↦ inr (record { refusal = refusal; refused = inr (refuses refusal a t owned tree owns quiet owners_quiet); said = told.said })
          | inr untold ↦ inl untold
        ]
      ]

  pub refused : (answer : Result Reply CommandRefusal) → AnswersWordsWithOrWithoutStats w i o d w0 w1 i0 i1 o0 o1 d0 d1 place words answer → EndsWithStatusAndStreams s e s0 s1 e0 e1 first answer status
      → (t : Names) (owned : OwnershipByPath) (refusal : CommandRefusal) → w.told w0 ≡ Some t → o.told o0 ≡ Some owned → output.RefusesWordsBeforeSetupIsFound t owned place words refusal
      → CountNotIncreased (w.faults w0) (w.faults w1) → CountNotIncreased (o.faults o0) (o.faults o1) → SaysRefusalOrMemoryLine e e0 e1 first refusal status
  refused answer any ends t owned refusal tree owns known quiet owners_quiet =
      elim any [
        | inl here ↦ ended.refused w i o s e w0 w1 i0 i1 o0 o1 s0 s1 e0 e1 first place words status answer here.0 ends t owned refusal tree owns known quiet owners_quiet
        | inr a ↦ absurd (of_task (λ (x : CommandTask). output.IsWorkTreeNotFoundForTask t owned place a.request.directory refusal x) answer a (known.refused a.request a.asked))
      ]

  pub complete : (answer : Result Reply CommandRefusal) → AnswersWordsWithOrWithoutStats w i o d w0 w1 i0 i1 o0 o1 d0 d1 place words answer → EndsWithStatusAndStreams s e s0 s1 e0 e1 first answer status
      → (t : Names) (owned : OwnershipByPath) → w.told w0 ≡ Some t → o.told o0 ≡ Some owned → output.AreWordsAnswerableOverTree (w.precomposes w0) t owned place words → CountNotIncreased (w.faults w0) (w.faults w1) → CountNotIncreased (o.faults o0) (o.faults o1)
      → CountNotIncreased (i.raised i0) (i.raised i1) → CountNotIncreased (s.refusals s0) (s.refusals s1) → (status ≤ 1) ⊎ SaysLineWithStatus e e0 e1 out_of_memory_line 128 status
  complete answer any ends t owned tree owns valid quiet owners_quiet calm taken =
      elim any [
        | inl here ↦ ended.complete w i o s e w0 w1 i0 i1 o0 o1 s0 s1 e0 e1 first place words status answer here.0 ends t owned tree owns valid quiet owners_quiet calm taken
        | inr a ↦ absurd (of_task (λ (x : CommandTask). output.IsTaskAnswerableOverTree (w.precomposes w0) t owned place a.request.directory x) answer a (valid.ready a.request a.asked))
      ]

  -- it ends as what is wanted does
  ends_as : (answer wanted found : Result Reply CommandRefusal) → found ≡ answer → found ≡ wanted → EndsWithStatusAndStreams s e s0 s1 e0 e1 first answer status → EndsWithStatusAndStreams s e s0 s1 e0 e1 first wanted status
  ends_as answer wanted found is said ends = subst (λ (x : Result Reply CommandRefusal). EndsWithStatusAndStreams s e s0 s1 e0 e1 first x status) (sym is ∙ said) ends

  comparing_ends : (answer wanted : Result Reply CommandRefusal) (a : AnswersRequestByStats w o d w0 w1 i0 i1 o0 o1 d0 d1 place words answer) → EndsWithStatusAndStreams s e s0 s1 e0 e1 first answer status
      → (t : Names) (owned : OwnershipByPath) (told : StatsByPath) → w.told w0 ≡ Some t → o.told o0 ≡ Some owned → d.told d0 ≡ Some told → StatWordsHaveResult t owned told place words wanted
      → CountNotIncreased (w.faults w0) (w.faults w1) → CountNotIncreased (o.faults o0) (o.faults o1) → CountNotIncreased (d.faults d0) (d.faults d1)
      → SaysLineWithStatus e e0 e1 out_of_memory_line 128 status ⊎ EndsWithStatusAndStreams s e s0 s1 e0 e1 first wanted status
  comparing_ends (Ok reply) wanted a ends t owned told tree owns tells known quiet owners_quiet stats_quiet =
      let said = of_task (λ (x : CommandTask). IsResultOfStatTask t owned told place a.request.directory wanted x) (Ok reply) a (known.is a.request a.asked) in
      inr (ends_as (Ok reply) wanted _ (a.compares.gives t owned told tree owns tells) said ends)
  comparing_ends (Err refusal) wanted a ends t owned told tree owns tells known quiet owners_quiet stats_quiet =
      let said = of_task (λ (x : CommandTask). IsResultOfStatTask t owned told place a.request.directory wanted x) (Err refusal) a (known.is a.request a.asked) in
      elim (is_refused refusal a t owned tree owns quiet owners_quiet told tells stats_quiet) [
        | inl wants ↦ inl (statuses.wants_memory s e s0 s1 e0 e1 first status refusal wants ends.by.1)
        | inr is ↦ inr (ends_as (Err refusal) wanted _ is said ends)
      ]

  pub compared : (answer : Result Reply CommandRefusal) → AnswersWordsWithOrWithoutStats w i o d w0 w1 i0 i1 o0 o1 d0 d1 place words answer → EndsWithStatusAndStreams s e s0 s1 e0 e1 first answer status
      → (t : Names) (owned : OwnershipByPath) (told : StatsByPath) (wanted : Result Reply CommandRefusal) → w.told w0 ≡ Some t → o.told o0 ≡ Some owned → d.told d0 ≡ Some told → StatWordsHaveResult t owned told place words wanted
      → CountNotIncreased (w.faults w0) (w.faults w1) → CountNotIncreased (o.faults o0) (o.faults o1) → CountNotIncreased (d.faults d0) (d.faults d1)
      → SaysLineWithStatus e e0 e1 out_of_memory_line 128 status ⊎ EndsWithStatusAndStreams s e s0 s1 e0 e1 first wanted status
  compared answer any ends t owned told wanted tree owns tells known quiet owners_quiet stats_quiet =
      elim any [
        | inl here ↦ elim here.0 [
          | inl of ↦ absurd (no_word w i o w0 w1 i0 i1 o0 o1 place of.request.directory answer wanted t owned told (task_of_command place.takes_colors of.request.command) of.answers (known.is of.request of.asked))
          | inr (inl wrong) ↦ absurd (statuses.no_asking (sym known.words_are ∙ wrong.misuse.is))
          | inr (inr unread) ↦ inl (statuses.wants_memory s e s0 s1 e0 e1 first status memory refl (subst (λ (x : Result Reply CommandRefusal). EndsWithStatusAndStreams s e s0 s1 e0 e1 first x status) unread.answer_is ends).by.1)
        ]
        | inr a ↦ comparing_ends answer wanted a ends t owned told tree owns tells known quiet owners_quiet stats_quiet
      ]
