-- What follows of how the top call ends, with what is asked of a walk and of stats among the commands.
use Rattle.std.proofs.Common.{◌≡◌, ◌⊎◌, ◌≤◌, inl, inr, ℕ, List, Bool, Option, Some, Result, Ok, Err, sym, ap, ◌∙◌, subst, refl, arith}
use Rattle.diff_files.specs.Stats.{StatsByPath}
use Rattle.diff_files.specs.declared.stats.Stats.{Ghosts as StatsOf}
use Rattle.command_line.specs.declared.command.Request.{Request}
use Rattle.git_setup.specs.declared.found.Found.{Found}
use Rattle.worktree_fs.specs.declared.interrupt.Interrupt.{Ghosts as InterruptOf}
use Rattle.worktree_fs.specs.declared.owners.Owners.{Ghosts as OwnersOf}
use Rattle.worktree_fs.specs.declared.sink.Sink.{Ghosts as SinkOf}
use Rattle.worktree_fs.specs.declared.worktree.Worktree.{Ghosts as WorktreeOf}
use Rattle.worktree_fs.specs.Causes.{CountIncreasedOrSaturated, CountNotIncreased}
use Rattle.worktree_fs.specs.Owners.{OwnershipByPath}
use Rattle.worktree_fs.specs.Tree.{Names}
use Rattle.tizhagor.specs.declared.refusal.CommandRefusal.{CommandRefusal}
use Rattle.tizhagor.specs.declared.reply.Reply.{Reply}
use Rattle.tizhagor.specs.Answers.{AnswersTaskWithoutStats, AnswersWorkTreeCommand, WordsParseToRequest, WordsAreMisuse, CallEnvironment, CommandTask, both_of, call_of, check_of, compare_of, fixed_text_task, task_of_command, found_for_command_in_environment, word_of}
use Rattle.tizhagor.specs.Both.{reply_join_of_stat_command}
use Rattle.tizhagor.specs.BothAnswers.{AnswersTreeAndStatCommand, SecondAnswersAfterFirst, IsJoinedReply}
use Rattle.tizhagor.specs.BothHere.{AnswersWordsOfAnyCommand, AnswersRequestForWalkAndStats, IsWalkStatReplyOfWords, IsResultOfWalkStatTask, WalkAndStatWordsHaveResult, IsWalkReplyOfBothTask, IsJoinedReplyOfBothTask, IsStatResultOfBothTask, RefusesStatPartAfterWalk, WalkReadyAndJoinedWithStats, join_second_result_to_reply}
use Rattle.tizhagor.specs.ComparedHere.{AnswersWordsWithOrWithoutStats, AnswersAnyTask, StatWordsHaveResult, IsReplyOfStatWords, IsResultOfStatTask, RefusesStatWords, stat_command_reply_in_environment}
use Rattle.tizhagor.specs.Compares.{FindsOverTreeOwnersAndStats, WorktreeOwnersOrStatsFail}
use Rattle.tizhagor.specs.Ends.{EndsWithStatusAndStreams, SaysRefusalWithProperty, WritesReplyWhole, SaysRefusalOrMemoryLine, SaysLineWithStatus}
use Rattle.tizhagor.specs.Output as output
use Rattle.tizhagor.specs.TreeWords.{WorkTreeCommand, reply_of_command_over_tree}
use Rattle.tizhagor.specs.Parts.{out_of_memory_line}
use Rattle.tizhagor.specs.Refusals.{memory, status_of}
use Rattle.tizhagor.proofs.ComparedEnds as alone
use Rattle.tizhagor.proofs.Ended as ended
use Rattle.tizhagor.proofs.Statuses as statuses
use Rattle.tizhagor.proofs.TaskEnds as tasks

same_reply : {a b : Reply} → ◌≡◌ {A = Result Reply CommandRefusal} (Ok a) (Ok b) → a ≡ b
same_reply e = cc

same_some : {a b : Reply} → ◌≡◌ {A = Option Reply} (Some a) (Some b) → a ≡ b
same_some e = cc

-- a first reply is one alone
same_first : (composes : Bool) (t : Names) (found : Result Found CommandRefusal) (word : WorkTreeCommand) (a b : Reply) → output.IsReplyOfWorkTreeCommand composes t found word a → output.IsReplyOfWorkTreeCommand composes t found word b → a ≡ b
same_first composes t found word a b x y =
    let same : x.here ≡ y.here = statuses.same_found (sym x.found_is ∙ y.found_is) in
    same_some (sym x.reply_is ∙ ap (λ (here : Found). reply_of_command_over_tree composes t here word) same ∙ y.reply_is)

memory_not : (e : CommandRefusal) (n : ℕ) → e ≡ memory → status_of e ≡ n → n ≡ 128
memory_not e n is status = sym status ∙ ap status_of is

-- ---- two words, the second behind the first

module _ {W I O D : Type 0} (w : WorktreeOf W) (i : InterruptOf I) (o : OwnersOf O) (d : StatsOf D) (w0 w1 : W) (i0 i1 : I) (o0 o1 : O) (d0 d1 : D)
    (walked : Names → OwnershipByPath → Result Found CommandRefusal) (word : WorkTreeCommand) (join : Reply → Reply → Reply) (changed : Names → OwnershipByPath → StatsByPath → Result Reply CommandRefusal) where
  -- both have a reply
  record Gave (reply : Reply) : Type 0 where
    middle : W
    owners : O
    first : Reply
    second : Reply
    walks : AnswersWorkTreeCommand w i o w0 middle i0 i1 o0 owners walked word (Ok first)
    compares : FindsOverTreeOwnersAndStats w o d middle w1 owners o1 d0 d1 changed (Ok second)
    reply_is : reply ≡ join first second

  -- the second is refused
  record RefusedBehind (e : CommandRefusal) : Type 0 where
    middle : W
    owners : O
    first : Reply
    walks : AnswersWorkTreeCommand w i o w0 middle i0 i1 o0 owners walked word (Ok first)
    compares : FindsOverTreeOwnersAndStats w o d middle w1 owners o1 d0 d1 changed (Err e)

  gave_by : (reply : Reply) (both : SecondAnswersAfterFirst w i o d w0 w1 i0 i1 o0 o1 d0 d1 walked word join changed (Ok reply)) (second : Result Reply CommandRefusal)
      → FindsOverTreeOwnersAndStats w o d both.middle w1 both.owners o1 d0 d1 changed second → IsJoinedReply join both.first second (Ok reply) → Gave reply
  gave_by reply both (Ok second) compares is =
      elim is [
        | inl same ↦ record { middle = both.middle; owners = both.owners; first = both.first; second = second; walks = both.walks; compares = compares; reply_is = same_reply same }
        | inr wants ↦ absurd (statuses.no_reply wants)
      ]
  gave_by reply both (Err e) compares is = absurd (statuses.no_reply is)

  gave : (reply : Reply) → AnswersTreeAndStatCommand w i o d w0 w1 i0 i1 o0 o1 d0 d1 walked word join changed (Ok reply) → Gave reply
  gave reply a = elim a [ inl refused ↦ absurd (statuses.no_reply refused.answer_is) | inr both ↦ gave_by reply both both.second both.compares both.joined ]

  refused_by : (e : CommandRefusal) (both : SecondAnswersAfterFirst w i o d w0 w1 i0 i1 o0 o1 d0 d1 walked word join changed (Err e)) (second : Result Reply CommandRefusal)
      → FindsOverTreeOwnersAndStats w o d both.middle w1 both.owners o1 d0 d1 changed second → IsJoinedReply join both.first second (Err e) → RefusedBehind e ⊎ (e ≡ memory)
  refused_by e both (Ok second) compares is = elim is [ inl same ↦ absurd (statuses.no_reply (sym same)) | inr wants ↦ inr (statuses.same_error wants) ]
  refused_by e both (Err other) compares is =
      inl (record {
        middle = both.middle;
        owners = both.owners;
        first = both.first;
        walks = both.walks;
        compares = subst (λ (x : CommandRefusal). FindsOverTreeOwnersAndStats w o d both.middle w1 both.owners o1 d0 d1 changed (Err x)) (sym (statuses.same_error is)) compares;
      })

  -- a refusal is the first's, the second's, or want of memory
  refusal_of : (e : CommandRefusal) → AnswersTreeAndStatCommand w i o d w0 w1 i0 i1 o0 o1 d0 d1 walked word join changed (Err e)
      → AnswersWorkTreeCommand w i o w0 w1 i0 i1 o0 o1 walked word (Err e) ⊎ (RefusedBehind e ⊎ (e ≡ memory))
  refusal_of e a =
      elim a [
        | inl refused ↦ inl (subst (λ (x : CommandRefusal). AnswersWorkTreeCommand w i o w0 w1 i0 i1 o0 o1 walked word (Err x)) (sym (statuses.same_error refused.answer_is)) refused.walks)
        | inr both ↦ inr (refused_by e both both.second both.compares both.joined)
      ]

  gave_faults : (reply : Reply) → Gave reply → w.faults w1 ≡ w.faults w0
  gave_faults reply g = g.compares.unfaulted ∙ tasks.word_unfaulted w i o w0 g.middle i0 i1 o0 g.owners walked word g.first g.walks

  gave_owners : (reply : Reply) → Gave reply → o.faults o1 ≡ o.faults o0
  gave_owners reply g = g.compares.owners_unfaulted ∙ g.walks.owners_unfaulted

  gave_first : (reply : Reply) (g : Gave reply) (t : Names) (owned : OwnershipByPath) → w.told w0 ≡ Some t → o.told o0 ≡ Some owned → output.IsReplyOfWorkTreeCommand (w.precomposes w0) t (walked t owned) word g.first
  gave_first reply g t owned tree owns = tasks.word_reply w i o w0 g.middle i0 i1 o0 g.owners walked word g.first g.walks t owned tree owns

  gave_second : (reply : Reply) (g : Gave reply) (t : Names) (owned : OwnershipByPath) → w.told w0 ≡ Some t → o.told o0 ≡ Some owned → (told : StatsByPath) → d.told d0 ≡ Some told → changed t owned told ≡ Ok g.second
  gave_second reply g t owned tree owns told tells =
      g.compares.gives t owned told (tasks.word_tree w i o w0 g.middle i0 i1 o0 g.owners walked word g.first g.walks ∙ tree) (g.walks.owners.told ∙ owns) tells

  behind_first : (e : CommandRefusal) (r : RefusedBehind e) (t : Names) (owned : OwnershipByPath) → w.told w0 ≡ Some t → o.told o0 ≡ Some owned → output.IsReplyOfWorkTreeCommand (w.precomposes w0) t (walked t owned) word r.first
  behind_first e r t owned tree owns = tasks.word_reply w i o w0 r.middle i0 i1 o0 r.owners walked word r.first r.walks t owned tree owns

  -- nothing failed
  no_fault : (e : CommandRefusal) (r : RefusedBehind e) → WorktreeOwnersOrStatsFail w o d r.middle w1 r.owners o1 d0 d1 → CountNotIncreased (w.faults w0) (w.faults w1) → CountNotIncreased (o.faults o0) (o.faults o1) → CountNotIncreased (d.faults d0) (d.faults d1) → ⊥
  no_fault e r failed quiet owners_quiet stats_quiet =
      let same = tasks.word_unfaulted w i o w0 r.middle i0 i1 o0 r.owners walked word r.first r.walks in
      let owners_same = r.walks.owners_unfaulted in
      elim failed [
        | inl rose ↦ omega (arith, rose, quiet, same)
        | inr (inl rose) ↦ omega (arith, rose, owners_quiet, owners_same)
        | inr (inr rose) ↦ omega (arith, rose, stats_quiet)
      ]

  behind_is : (e : CommandRefusal) (r : RefusedBehind e) (t : Names) (owned : OwnershipByPath) → w.told w0 ≡ Some t → o.told o0 ≡ Some owned
      → CountNotIncreased (w.faults w0) (w.faults w1) → CountNotIncreased (o.faults o0) (o.faults o1) → (told : StatsByPath) → d.told d0 ≡ Some told → CountNotIncreased (d.faults d0) (d.faults d1)
      → (e ≡ memory) ⊎ (changed t owned told ≡ Err e)
  behind_is e r t owned tree owns quiet owners_quiet told tells stats_quiet =
      elim (r.compares.gives t owned told (tasks.word_tree w i o w0 r.middle i0 i1 o0 r.owners walked word r.first r.walks ∙ tree) (r.walks.owners.told ∙ owns) tells) [
        | inl is ↦ inr is
        | inr (inl failed) ↦ absurd (no_fault e r (r.compares.cause (ap Err failed)) quiet owners_quiet stats_quiet)
        | inr (inr wants) ↦ inl wants
      ]

  not_misuse : (e : CommandRefusal) → AnswersTreeAndStatCommand w i o d w0 w1 i0 i1 o0 o1 d0 d1 walked word join changed (Err e) → status_of e ≡ 129 → ⊥
  not_misuse e a is =
      elim (refusal_of e a) [
        | inl walks ↦ tasks.word_not_misuse w i o w0 w1 i0 i1 o0 o1 walked word e walks is
        | inr (inl r) ↦ statuses.finding_not_misuse e r.compares.of is
        | inr (inr wants) ↦ absurd (let same = memory_not e 129 wants is in omega (arith, same))
      ]

  was_interrupted : (e : CommandRefusal) → AnswersTreeAndStatCommand w i o d w0 w1 i0 i1 o0 o1 d0 d1 walked word join changed (Err e) → status_of e ≡ 130 → CountIncreasedOrSaturated (i.raised i0) (i.raised i1)
  was_interrupted e a is =
      elim (refusal_of e a) [
        | inl walks ↦ tasks.word_interrupted w i o w0 w1 i0 i1 o0 o1 walked word e walks is
        | inr (inl r) ↦ absurd (statuses.finding_not_interrupted e r.compares.of is)
        | inr (inr wants) ↦ absurd (let same = memory_not e 130 wants is in omega (arith, same))
      ]

  -- nothing is found for the first
  none_found : (answer : Result Reply CommandRefusal) → AnswersTreeAndStatCommand w i o d w0 w1 i0 i1 o0 o1 d0 d1 walked word join changed answer → (t : Names) (owned : OwnershipByPath) → w.told w0 ≡ Some t → o.told o0 ≡ Some owned
      → CountNotIncreased (w.faults w0) (w.faults w1) → CountNotIncreased (o.faults o0) (o.faults o1) → (e : CommandRefusal) → walked t owned ≡ Err e → tasks.IsRefusedAs e answer
  none_found (Ok reply) a t owned tree owns quiet owners_quiet e known = let g = gave reply a in statuses.not_found (sym (g.walks.is t owned tree owns) ∙ known)
  none_found (Err other) a t owned tree owns quiet owners_quiet e known =
      elim (refusal_of other a) [
        | inl walks ↦ tasks.word_none w i o w0 w1 i0 i1 o0 o1 walked word (Err other) walks t owned tree owns quiet owners_quiet e known
        | inr (inl r) ↦ absurd (statuses.not_found (sym (r.walks.is t owned tree owns) ∙ known))
        | inr (inr wants) ↦ inr wants
      ]

  -- what both say over a tree, owners and stats is the answer, or memory is wanted
  gave_wanted : (reply : Reply) → AnswersTreeAndStatCommand w i o d w0 w1 i0 i1 o0 o1 d0 d1 walked word join changed (Ok reply) → (t : Names) (owned : OwnershipByPath) (told : StatsByPath) → w.told w0 ≡ Some t → o.told o0 ≡ Some owned → d.told d0 ≡ Some told
      → (wanted : Result Reply CommandRefusal) → WalkReadyAndJoinedWithStats (w.precomposes w0) t (walked t owned) word join (changed t owned told) wanted → wanted ≡ Ok reply
  gave_wanted reply a t owned told tree owns tells wanted says =
      let g = gave reply a in
      let same : says.first ≡ g.first = same_first (w.precomposes w0) t (walked t owned) word says.first g.first says.first_is (gave_first reply g t owned tree owns) in
      says.wanted_is ∙ ap (join_second_result_to_reply join says.first) (gave_second reply g t owned tree owns told tells) ∙ ap (λ (first : Reply). Ok (join first g.second)) same ∙ ap Ok (sym g.reply_is)

  refused_wanted : (e : CommandRefusal) → AnswersTreeAndStatCommand w i o d w0 w1 i0 i1 o0 o1 d0 d1 walked word join changed (Err e) → (t : Names) (owned : OwnershipByPath) (told : StatsByPath) → w.told w0 ≡ Some t → o.told o0 ≡ Some owned → d.told d0 ≡ Some told
      → CountNotIncreased (w.faults w0) (w.faults w1) → CountNotIncreased (o.faults o0) (o.faults o1) → CountNotIncreased (d.faults d0) (d.faults d1) → CountNotIncreased (i.raised i0) (i.raised i1)
      → (wanted : Result Reply CommandRefusal) → WalkReadyAndJoinedWithStats (w.precomposes w0) t (walked t owned) word join (changed t owned told) wanted → (e ≡ memory) ⊎ (wanted ≡ Err e)
  refused_wanted e a t owned told tree owns tells quiet owners_quiet stats_quiet calm wanted says =
      elim (refusal_of e a) [
        | inl walks ↦ inl (tasks.word_complete w i o w0 w1 i0 i1 o0 o1 walked word e walks t owned tree owns quiet owners_quiet calm says.ready)
        | inr (inl r) ↦ elim (behind_is e r t owned tree owns quiet owners_quiet told tells stats_quiet) [
          | inl wants ↦ inl wants
          | inr is ↦ inr (says.wanted_is ∙ ap (join_second_result_to_reply join says.first) is)
        ]
        | inr (inr wants) ↦ inl wants
      ]

-- ---- tasks

no_both : {W I O : Type 0} (w : WorktreeOf W) (i : InterruptOf I) (o : OwnersOf O) (w0 w1 : W) (i0 i1 : I) (o0 o1 : O) (place : CallEnvironment) (directory : Option (List ℕ)) (answer wanted : Result Reply CommandRefusal)
    (composes : Bool) (t : Names) (owned : OwnershipByPath) (told : StatsByPath) (task : CommandTask) → AnswersTaskWithoutStats w i o w0 w1 i0 i1 o0 o1 place directory answer task → IsResultOfWalkStatTask composes t owned told place directory wanted task → ⊥
no_both w i o w0 w1 i0 i1 o0 o1 place directory answer wanted composes t owned told (call_of call asked writing) a says = says
no_both w i o w0 w1 i0 i1 o0 o1 place directory answer wanted composes t owned told (word_of word asked) a says = says
no_both w i o w0 w1 i0 i1 o0 o1 place directory answer wanted composes t owned told (check_of wants asked) a says = says
no_both w i o w0 w1 i0 i1 o0 o1 place directory answer wanted composes t owned told (compare_of comparing asked) a says = a
no_both w i o w0 w1 i0 i1 o0 o1 place directory answer wanted composes t owned told (both_of word stat asked) a says = a
no_both w i o w0 w1 i0 i1 o0 o1 place directory answer wanted composes t owned told (fixed_text_task text) a says = says

-- the words are those of the task
pub by_request : {W I O D : Type 0} (w : WorktreeOf W) (i : InterruptOf I) (o : OwnersOf O) (d : StatsOf D) (w0 w1 : W) (i0 i1 : I) (o0 o1 : O) (d0 d1 : D) (place : CallEnvironment) (words : List (List ℕ)) (answer : Result Reply CommandRefusal)
    (request : Request) → WordsParseToRequest words request → (task : CommandTask) → task_of_command place.takes_colors request.command ≡ task → AnswersAnyTask w i o d w0 w1 i0 i1 o0 o1 d0 d1 place request.directory answer task
    → AnswersWordsOfAnyCommand w i o d w0 w1 i0 i1 o0 o1 d0 d1 place words answer
by_request w i o d w0 w1 i0 i1 o0 o1 d0 d1 place words answer request asked (call_of call wants writing) is a =
    inl (inl (inl (record { request = request; asked = asked; answers = subst (λ (x : CommandTask). AnswersTaskWithoutStats w i o w0 w1 i0 i1 o0 o1 place request.directory answer x) (sym is) a.0 }), a.1))
by_request w i o d w0 w1 i0 i1 o0 o1 d0 d1 place words answer request asked (word_of word wants) is a =
    inl (inl (inl (record { request = request; asked = asked; answers = subst (λ (x : CommandTask). AnswersTaskWithoutStats w i o w0 w1 i0 i1 o0 o1 place request.directory answer x) (sym is) a.0 }), a.1))
by_request w i o d w0 w1 i0 i1 o0 o1 d0 d1 place words answer request asked (check_of checking wants) is a =
    inl (inl (inl (record { request = request; asked = asked; answers = subst (λ (x : CommandTask). AnswersTaskWithoutStats w i o w0 w1 i0 i1 o0 o1 place request.directory answer x) (sym is) a.0 }), a.1))
by_request w i o d w0 w1 i0 i1 o0 o1 d0 d1 place words answer request asked (compare_of comparing wants) is a =
    inl (inr (record { request = request; asked = asked; comparing = comparing; wants = wants; task_is = is; compares = a.0; interrupt = a.1 }))
by_request w i o d w0 w1 i0 i1 o0 o1 d0 d1 place words answer request asked (both_of word stat wants) is a =
    inr (record { request = request; asked = asked; word = word; stat = stat; wants = wants; task_is = is; both = a })
by_request w i o d w0 w1 i0 i1 o0 o1 d0 d1 place words answer request asked (fixed_text_task text) is a =
    inl (inl (inl (record { request = request; asked = asked; answers = subst (λ (x : CommandTask). AnswersTaskWithoutStats w i o w0 w1 i0 i1 o0 o1 place request.directory answer x) (sym is) a.0 }), a.1))

-- ---- the call

module _ {W I O D S E : Type 0} (w : WorktreeOf W) (i : InterruptOf I) (o : OwnersOf O) (d : StatsOf D) (s : SinkOf S) (e : SinkOf E) (w0 w1 : W) (i0 i1 : I) (o0 o1 : O) (d0 d1 : D) (s0 s1 : S) (e0 e1 : E) (first : List ℕ) (place : CallEnvironment) (words : List (List ℕ)) (status : ℕ) where
  -- what is said of both where the answer is known
  as_known : (answer known : Result Reply CommandRefusal) (a : AnswersRequestForWalkAndStats w i o d w0 w1 i0 i1 o0 o1 d0 d1 place words answer) → answer ≡ known
      → AnswersTreeAndStatCommand w i o d w0 w1 i0 i1 o0 o1 d0 d1 (found_for_command_in_environment place a.request.directory a.word a.wants) a.word (reply_join_of_stat_command a.stat) (stat_command_reply_in_environment place a.request.directory a.wants a.stat) known
  as_known answer known a is =
      subst (λ (x : Result Reply CommandRefusal). AnswersTreeAndStatCommand w i o d w0 w1 i0 i1 o0 o1 d0 d1 (found_for_command_in_environment place a.request.directory a.word a.wants) a.word (reply_join_of_stat_command a.stat) (stat_command_reply_in_environment place a.request.directory a.wants a.stat) x) is a.both

  -- and of their task
  as_task : (P : CommandTask → Type 0) (answer : Result Reply CommandRefusal) (a : AnswersRequestForWalkAndStats w i o d w0 w1 i0 i1 o0 o1 d0 d1 place words answer) → P (both_of a.word a.stat a.wants) → P (task_of_command place.takes_colors a.request.command)
  as_task P answer a holds = subst P (sym a.task_is) holds

  of_task : (P : CommandTask → Type 0) (answer : Result Reply CommandRefusal) (a : AnswersRequestForWalkAndStats w i o d w0 w1 i0 i1 o0 o1 d0 d1 place words answer) → P (task_of_command place.takes_colors a.request.command) → P (both_of a.word a.stat a.wants)
  of_task P answer a holds = subst P a.task_is holds

  gave_here : (answer : Result Reply CommandRefusal) (reply : Reply) (a : AnswersRequestForWalkAndStats w i o d w0 w1 i0 i1 o0 o1 d0 d1 place words answer) → answer ≡ Ok reply
      → Gave w i o d w0 w1 i0 i1 o0 o1 d0 d1 (found_for_command_in_environment place a.request.directory a.word a.wants) a.word (reply_join_of_stat_command a.stat) (stat_command_reply_in_environment place a.request.directory a.wants a.stat) reply
  gave_here answer reply a is = gave w i o d w0 w1 i0 i1 o0 o1 d0 d1 _ _ _ _ reply (as_known answer (Ok reply) a is)

  pub unfaulted : (answer : Result Reply CommandRefusal) → AnswersWordsOfAnyCommand w i o d w0 w1 i0 i1 o0 o1 d0 d1 place words answer → EndsWithStatusAndStreams s e s0 s1 e0 e1 first answer status
      → status ≤ 1 → output.CountsNoFaultForWords place words (w.faults w0) (w.faults w1)
  unfaulted answer any ends few =
      elim any [
        | inl by ↦ alone.unfaulted w i o d s e w0 w1 i0 i1 o0 o1 d0 d1 s0 s1 e0 e1 first place words status answer by ends few
        | inr a ↦
            let wrote = statuses.ends_low s e s0 s1 e0 e1 first status answer ends few in
            record {
              request = a.request;
              asked = a.asked;
              unfaulted = as_task (λ (x : CommandTask). output.CountsNoFaultForTask (w.faults w0) (w.faults w1) x) answer a (gave_faults w i o d w0 w1 i0 i1 o0 o1 d0 d1 _ _ _ _ wrote.0 (gave_here answer wrote.0 a wrote.1));
            }
      ]

  pub owners_unfaulted : (answer : Result Reply CommandRefusal) → AnswersWordsOfAnyCommand w i o d w0 w1 i0 i1 o0 o1 d0 d1 place words answer → EndsWithStatusAndStreams s e s0 s1 e0 e1 first answer status
      → status ≤ 1 → o.faults o1 ≡ o.faults o0
  owners_unfaulted answer any ends few =
      elim any [
        | inl by ↦ alone.owners_unfaulted w i o d s e w0 w1 i0 i1 o0 o1 d0 d1 s0 s1 e0 e1 first place words status answer by ends few
        | inr a ↦ let wrote = statuses.ends_low s e s0 s1 e0 e1 first status answer ends few in gave_owners w i o d w0 w1 i0 i1 o0 o1 d0 d1 _ _ _ _ wrote.0 (gave_here answer wrote.0 a wrote.1)
      ]

  pub stats_unfaulted : (answer : Result Reply CommandRefusal) → AnswersWordsOfAnyCommand w i o d w0 w1 i0 i1 o0 o1 d0 d1 place words answer → EndsWithStatusAndStreams s e s0 s1 e0 e1 first answer status
      → status ≤ 1 → d.faults d1 ≡ d.faults d0
  stats_unfaulted answer any ends few =
      elim any [
        | inl by ↦ alone.stats_unfaulted w i o d s e w0 w1 i0 i1 o0 o1 d0 d1 s0 s1 e0 e1 first place words status answer by ends few
        | inr a ↦ let wrote = statuses.ends_low s e s0 s1 e0 e1 first status answer ends few in (gave_here answer wrote.0 a wrote.1).compares.stats_unfaulted
      ]

  -- what is said of the output where there is a reply
  is_both : (answer : Result Reply CommandRefusal) (reply : Reply) (a : AnswersRequestForWalkAndStats w i o d w0 w1 i0 i1 o0 o1 d0 d1 place words answer) → answer ≡ Ok reply
      → (t : Names) (owned : OwnershipByPath) → w.told w0 ≡ Some t → o.told o0 ≡ Some owned → IsWalkStatReplyOfWords (w.precomposes w0) t owned (d.told d0) place words reply
  is_both answer reply a is t owned tree owns =
      let g = gave_here answer reply a is in
      record {
        request = a.request;
        asked = a.asked;
        first = g.first;
        second = g.second;
        first_is = as_task (λ (x : CommandTask). IsWalkReplyOfBothTask (w.precomposes w0) t owned place a.request.directory g.first x) answer a (gave_first w i o d w0 w1 i0 i1 o0 o1 d0 d1 _ _ _ _ reply g t owned tree owns);
        second_is = λ told tells. as_task (λ (x : CommandTask). IsStatResultOfBothTask t owned told place a.request.directory (Ok g.second) x) answer a (gave_second w i o d w0 w1 i0 i1 o0 o1 d0 d1 _ _ _ _ reply g t owned tree owns told tells);
        joined = as_task (λ (x : CommandTask). IsJoinedReplyOfBothTask reply g.first g.second x) answer a g.reply_is;
      }

  pub gives : (answer : Result Reply CommandRefusal) → AnswersWordsOfAnyCommand w i o d w0 w1 i0 i1 o0 o1 d0 d1 place words answer → EndsWithStatusAndStreams s e s0 s1 e0 e1 first answer status
      → (t : Names) (owned : OwnershipByPath) → w.told w0 ≡ Some t → o.told o0 ≡ Some owned → status ≤ 1
      → (reply : Reply) × (output.IsReplyOfWords (w.precomposes w0) t owned place words (w.faults w0) (w.faults w1) reply ⊎ (IsReplyOfStatWords t owned (d.told d0) place words reply ⊎ IsWalkStatReplyOfWords (w.precomposes w0) t owned (d.told d0) place words reply))
      × WritesReplyWhole s e s0 s1 e0 e1 reply status
  gives answer any ends t owned tree owns few =
      elim any [
        | inl by ↦
            let gave = alone.gives w i o d s e w0 w1 i0 i1 o0 o1 d0 d1 s0 s1 e0 e1 first place words status answer by ends t owned tree owns few in
            elim gave.1 [ inl here ↦ (gave.0, inl here, gave.2) | inr compared ↦ (gave.0, inr (inl compared), gave.2) ]
        | inr a ↦
            let wrote = statuses.ends_low s e s0 s1 e0 e1 first status answer ends few in
            (wrote.0, inr (inr (is_both answer wrote.0 a wrote.1 t owned tree owns)), wrote.2)
      ]

  pub misuse : (answer : Result Reply CommandRefusal) → AnswersWordsOfAnyCommand w i o d w0 w1 i0 i1 o0 o1 d0 d1 place words answer → EndsWithStatusAndStreams s e s0 s1 e0 e1 first answer status → status ≡ 129 → WordsAreMisuse words
  misuse answer any ends is =
      elim any [
        | inl by ↦ alone.misuse w i o d s e w0 w1 i0 i1 o0 o1 d0 d1 s0 s1 e0 e1 first place words status answer by ends is
        | inr a ↦
            let refused = statuses.ends_above s e s0 s1 e0 e1 first status answer ends 129 is (omega arith) in
            absurd (not_misuse w i o d w0 w1 i0 i1 o0 o1 d0 d1 _ _ _ _ refused.0 (as_known answer (Err refused.0) a refused.1) refused.2)
      ]

  pub usage : (answer : Result Reply CommandRefusal) → AnswersWordsOfAnyCommand w i o d w0 w1 i0 i1 o0 o1 d0 d1 place words answer → EndsWithStatusAndStreams s e s0 s1 e0 e1 first answer status → WordsAreMisuse words
      → (status ≡ 129) ⊎ SaysLineWithStatus e e0 e1 out_of_memory_line 128 status
  usage answer any ends known =
      elim any [
        | inl by ↦ alone.usage w i o d s e w0 w1 i0 i1 o0 o1 d0 d1 s0 s1 e0 e1 first place words status answer by ends known
        | inr a ↦ absurd (statuses.no_asking (sym a.asked ∙ known.is))
      ]

  pub interrupted : (answer : Result Reply CommandRefusal) → AnswersWordsOfAnyCommand w i o d w0 w1 i0 i1 o0 o1 d0 d1 place words answer → EndsWithStatusAndStreams s e s0 s1 e0 e1 first answer status → status ≡ 130
      → CountIncreasedOrSaturated (i.raised i0) (i.raised i1)
  interrupted answer any ends is =
      elim any [
        | inl by ↦ alone.interrupted w i o d s e w0 w1 i0 i1 o0 o1 d0 d1 s0 s1 e0 e1 first place words status answer by ends is
        | inr a ↦
            let refused = statuses.ends_above s e s0 s1 e0 e1 first status answer ends 130 is (omega arith) in
            was_interrupted w i o d w0 w1 i0 i1 o0 o1 d0 d1 _ _ _ _ refused.0 (as_known answer (Err refused.0) a refused.1) refused.2
      ]

  -- a refusal of the first, or of the second
  refuses : (refusal : CommandRefusal) (a : AnswersRequestForWalkAndStats w i o d w0 w1 i0 i1 o0 o1 d0 d1 place words (Err refusal)) (t : Names) (owned : OwnershipByPath) → w.told w0 ≡ Some t → o.told o0 ≡ Some owned
      → CountNotIncreased (w.faults w0) (w.faults w1) → CountNotIncreased (o.faults o0) (o.faults o1) → status_of refusal ≡ 128
      → (refusal ≡ memory) ⊎ (output.RefusesWordsOverTree (w.precomposes w0) t owned place words refusal ⊎ RefusesStatPartAfterWalk (w.precomposes w0) t owned (d.told d0) (d.faults d0) (d.faults d1) place words refusal)
  refuses refusal a t owned tree owns quiet owners_quiet is =
      elim (refusal_of w i o d w0 w1 i0 i1 o0 o1 d0 d1 _ _ _ _ refusal a.both) [
        | inl walks ↦ elim (tasks.word_refuses w i o w0 w1 i0 i1 o0 o1 _ _ refusal walks t owned tree owns quiet owners_quiet is) [
          | inl wants ↦ inl wants
          | inr known ↦ inr (inl (record {
            request = a.request;
            asked = a.asked;
            refused = as_task (λ (x : CommandTask). output.RefusesTaskOverTree (w.precomposes w0) t owned place a.request.directory refusal x) (Err refusal) a known;
          }))
        ]
        | inr (inl r) ↦ inr (inr (record {
          request = a.request;
          asked = a.asked;
          first = r.first;
          first_is = as_task (λ (x : CommandTask). IsWalkReplyOfBothTask (w.precomposes w0) t owned place a.request.directory r.first x) (Err refusal) a (behind_first w i o d w0 w1 i0 i1 o0 o1 d0 d1 _ _ _ _ refusal r t owned tree owns);
          is = λ told tells stats_quiet. elim (behind_is w i o d w0 w1 i0 i1 o0 o1 d0 d1 _ _ _ _ refusal r t owned tree owns quiet owners_quiet told tells stats_quiet) [
            | inl wants ↦ inl wants
            | inr said ↦ inr (as_task (λ (x : CommandTask). IsStatResultOfBothTask t owned told place a.request.directory (Err refusal) x) (Err refusal) a said)
          ];
        }))
        | inr (inr wants) ↦ inl wants
      ]

  pub fatal : (answer : Result Reply CommandRefusal) → AnswersWordsOfAnyCommand w i o d w0 w1 i0 i1 o0 o1 d0 d1 place words answer → EndsWithStatusAndStreams s e s0 s1 e0 e1 first answer status
      → (t : Names) (owned : OwnershipByPath) → w.told w0 ≡ Some t → o.told o0 ≡ Some owned → status ≡ 128 → CountNotIncreased (w.faults w0) (w.faults w1) → CountNotIncreased (o.faults o0) (o.faults o1) → CountNotIncreased (s.refusals s0) (s.refusals s1)
      → SaysLineWithStatus e e0 e1 out_of_memory_line 128 status
      ⊎ SaysRefusalWithProperty e e0 e1 first (λ refusal. output.RefusesWordsOverTree (w.precomposes w0) t owned place words refusal
      ⊎ (RefusesStatWords t owned (d.told d0) (d.faults d0) (d.faults d1) place words refusal ⊎ RefusesStatPartAfterWalk (w.precomposes w0) t owned (d.told d0) (d.faults d0) (d.faults d1) place words refusal))
  fatal (Ok reply) any ends t owned tree owns is quiet owners_quiet taken =
      elim ends.by [
        | inl whole ↦ absurd (let same = whole.status_is in let low = statuses.is_low reply in omega (arith, same, low, is))
        | inr cut ↦ absurd (let cause = cut.cause in omega (arith, cause, taken))
      ]
  fatal (Err refusal) any ends t owned tree owns is quiet owners_quiet taken =
      elim any [
        | inl by ↦ elim (alone.fatal w i o d s e w0 w1 i0 i1 o0 o1 d0 d1 s0 s1 e0 e1 first place words status (Err refusal) by ends t owned tree owns is quiet owners_quiet taken) [
          | inl wants ↦ inl wants
          | inr told ↦ elim told.refused [
            | inl here ↦ inr (record { refusal = told.refusal; refused = inl here; said = told.said })
            | inr compared ↦ inr (record { refusal = told.refusal; refused = inr (inl compared); said = told.said })
          ]
        ]
        | inr a ↦ elim ends.by.1 [
          | inl told ↦ elim (refuses refusal a t owned tree owns quiet owners_quiet (sym told.status_is ∙ is)) [
            | inl wants ↦ inl (statuses.wants_memory s e s0 s1 e0 e1 first status refusal wants ends.by.1)
            | inr (inl here) ↦ inr (record { refusal = refusal; refused = inl here; said = told.said })
            | inr (inr second) ↦ inr (record { refusal = refusal; refused = inr (inr second); said = told.said })
          ]
          | inr untold ↦ inl untold
        ]
      ]

  pub refused : (answer : Result Reply CommandRefusal) → AnswersWordsOfAnyCommand w i o d w0 w1 i0 i1 o0 o1 d0 d1 place words answer → EndsWithStatusAndStreams s e s0 s1 e0 e1 first answer status
      → (t : Names) (owned : OwnershipByPath) (refusal : CommandRefusal) → w.told w0 ≡ Some t → o.told o0 ≡ Some owned → output.RefusesWordsBeforeSetupIsFound t owned place words refusal
      → CountNotIncreased (w.faults w0) (w.faults w1) → CountNotIncreased (o.faults o0) (o.faults o1) → SaysRefusalOrMemoryLine e e0 e1 first refusal status
  refused answer any ends t owned refusal tree owns known quiet owners_quiet =
      elim any [
        | inl by ↦ alone.refused w i o d s e w0 w1 i0 i1 o0 o1 d0 d1 s0 s1 e0 e1 first place words status answer by ends t owned refusal tree owns known quiet owners_quiet
        | inr a ↦ ended.told_refused w i o s e w0 w1 i0 i1 o0 o1 s0 s1 e0 e1 first place words status refusal answer
            (none_found w i o d w0 w1 i0 i1 o0 o1 d0 d1 _ _ _ _ answer a.both t owned tree owns quiet owners_quiet refusal
            (of_task (λ (x : CommandTask). output.IsWorkTreeNotFoundForTask t owned place a.request.directory refusal x) answer a (known.refused a.request a.asked))) ends
      ]

  pub complete : (answer : Result Reply CommandRefusal) → AnswersWordsOfAnyCommand w i o d w0 w1 i0 i1 o0 o1 d0 d1 place words answer → EndsWithStatusAndStreams s e s0 s1 e0 e1 first answer status
      → (t : Names) (owned : OwnershipByPath) → w.told w0 ≡ Some t → o.told o0 ≡ Some owned → output.AreWordsAnswerableOverTree (w.precomposes w0) t owned place words → CountNotIncreased (w.faults w0) (w.faults w1) → CountNotIncreased (o.faults o0) (o.faults o1)
      → CountNotIncreased (i.raised i0) (i.raised i1) → CountNotIncreased (s.refusals s0) (s.refusals s1) → (status ≤ 1) ⊎ SaysLineWithStatus e e0 e1 out_of_memory_line 128 status
  complete answer any ends t owned tree owns valid quiet owners_quiet calm taken =
      elim any [
        | inl by ↦ alone.complete w i o d s e w0 w1 i0 i1 o0 o1 d0 d1 s0 s1 e0 e1 first place words status answer by ends t owned tree owns valid quiet owners_quiet calm taken
        | inr a ↦ absurd (of_task (λ (x : CommandTask). output.IsTaskAnswerableOverTree (w.precomposes w0) t owned place a.request.directory x) answer a (valid.ready a.request a.asked))
      ]

  both_ends : (answer wanted : Result Reply CommandRefusal) (a : AnswersRequestForWalkAndStats w i o d w0 w1 i0 i1 o0 o1 d0 d1 place words answer) → EndsWithStatusAndStreams s e s0 s1 e0 e1 first answer status
      → (t : Names) (owned : OwnershipByPath) (told : StatsByPath) → w.told w0 ≡ Some t → o.told o0 ≡ Some owned → d.told d0 ≡ Some told → WalkAndStatWordsHaveResult (w.precomposes w0) t owned told place words wanted
      → CountNotIncreased (w.faults w0) (w.faults w1) → CountNotIncreased (o.faults o0) (o.faults o1) → CountNotIncreased (d.faults d0) (d.faults d1) → CountNotIncreased (i.raised i0) (i.raised i1)
      → SaysLineWithStatus e e0 e1 out_of_memory_line 128 status ⊎ EndsWithStatusAndStreams s e s0 s1 e0 e1 first wanted status
  both_ends (Ok reply) wanted a ends t owned told tree owns tells known quiet owners_quiet stats_quiet calm =
      let says = of_task (λ (x : CommandTask). IsResultOfWalkStatTask (w.precomposes w0) t owned told place a.request.directory wanted x) (Ok reply) a (known.is a.request a.asked) in
      inr (subst (λ (x : Result Reply CommandRefusal). EndsWithStatusAndStreams s e s0 s1 e0 e1 first x status) (sym (gave_wanted w i o d w0 w1 i0 i1 o0 o1 d0 d1 _ _ _ _ reply a.both t owned told tree owns tells wanted says)) ends)
  both_ends (Err refusal) wanted a ends t owned told tree owns tells known quiet owners_quiet stats_quiet calm =
      let says = of_task (λ (x : CommandTask). IsResultOfWalkStatTask (w.precomposes w0) t owned told place a.request.directory wanted x) (Err refusal) a (known.is a.request a.asked) in
      elim (refused_wanted w i o d w0 w1 i0 i1 o0 o1 d0 d1 _ _ _ _ refusal a.both t owned told tree owns tells quiet owners_quiet stats_quiet calm wanted says) [
        | inl wants ↦ inl (statuses.wants_memory s e s0 s1 e0 e1 first status refusal wants ends.by.1)
        | inr is ↦ inr (subst (λ (x : Result Reply CommandRefusal). EndsWithStatusAndStreams s e s0 s1 e0 e1 first x status) (sym is) ends)
      ]

  -- the words ask for both, and something else is answered: memory was wanted for them
  both_unread : (answer wanted : Result Reply CommandRefusal) → AnswersWordsWithOrWithoutStats w i o d w0 w1 i0 i1 o0 o1 d0 d1 place words answer → EndsWithStatusAndStreams s e s0 s1 e0 e1 first answer status
      → (t : Names) (owned : OwnershipByPath) (told : StatsByPath) → WalkAndStatWordsHaveResult (w.precomposes w0) t owned told place words wanted → SaysLineWithStatus e e0 e1 out_of_memory_line 128 status
  both_unread answer wanted by ends t owned told known =
      elim by [
        | inl here ↦ elim here.0 [
          | inl of ↦ absurd (no_both w i o w0 w1 i0 i1 o0 o1 place of.request.directory answer wanted (w.precomposes w0) t owned told (task_of_command place.takes_colors of.request.command) of.answers (known.is of.request of.asked))
          | inr (inl wrong) ↦ absurd (statuses.no_asking (sym known.words_are ∙ wrong.misuse.is))
          | inr (inr unread) ↦ statuses.wants_memory s e s0 s1 e0 e1 first status memory refl (subst (λ (x : Result Reply CommandRefusal). EndsWithStatusAndStreams s e s0 s1 e0 e1 first x status) unread.answer_is ends).by.1
        ]
        | inr a ↦ absurd (subst (λ (x : CommandTask). IsResultOfWalkStatTask (w.precomposes w0) t owned told place a.request.directory wanted x) a.task_is (known.is a.request a.asked))
      ]

  pub compared : (answer : Result Reply CommandRefusal) → AnswersWordsOfAnyCommand w i o d w0 w1 i0 i1 o0 o1 d0 d1 place words answer → EndsWithStatusAndStreams s e s0 s1 e0 e1 first answer status
      → (t : Names) (owned : OwnershipByPath) (told : StatsByPath) (wanted : Result Reply CommandRefusal) → w.told w0 ≡ Some t → o.told o0 ≡ Some owned → d.told d0 ≡ Some told
      → StatWordsHaveResult t owned told place words wanted ⊎ (CountNotIncreased (i.raised i0) (i.raised i1) × WalkAndStatWordsHaveResult (w.precomposes w0) t owned told place words wanted)
      → CountNotIncreased (w.faults w0) (w.faults w1) → CountNotIncreased (o.faults o0) (o.faults o1) → CountNotIncreased (d.faults d0) (d.faults d1)
      → SaysLineWithStatus e e0 e1 out_of_memory_line 128 status ⊎ EndsWithStatusAndStreams s e s0 s1 e0 e1 first wanted status
  compared answer any ends t owned told wanted tree owns tells (inl known) quiet owners_quiet stats_quiet =
      elim any [
        | inl by ↦ alone.compared w i o d s e w0 w1 i0 i1 o0 o1 d0 d1 s0 s1 e0 e1 first place words status answer by ends t owned told wanted tree owns tells known quiet owners_quiet stats_quiet
        | inr a ↦ absurd (of_task (λ (x : CommandTask). IsResultOfStatTask t owned told place a.request.directory wanted x) answer a (known.is a.request a.asked))
      ]
  compared answer any ends t owned told wanted tree owns tells (inr known) quiet owners_quiet stats_quiet =
      elim any [
        | inl by ↦ inl (both_unread answer wanted by ends t owned told known.1)
        | inr a ↦ both_ends answer wanted a ends t owned told tree owns tells known.1 quiet owners_quiet stats_quiet known.0
      ]
