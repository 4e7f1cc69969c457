-- What follows of the answer to a task: what stays, which reply it is, and why there is none.
use Rattle.std.proofs.Common.{◌≡◌, ◌⊎◌, inl, inr, ℕ, List, Bool, Option, Some, Result, Ok, Err, sym, ap, ◌∙◌, subst, arith}
use Rattle.worktree_fs.specs.declared.interrupt.Interrupt.{Ghosts as InterruptOf}
use Rattle.worktree_fs.specs.declared.owners.Owners.{Ghosts as OwnersOf}
use Rattle.worktree_fs.specs.declared.worktree.Worktree.{Ghosts as WorktreeOf}
use Rattle.worktree_fs.specs.Causes.{CountIncreasedOrSaturated, CountNotIncreased}
use Rattle.worktree_fs.specs.Owners.{OwnershipByPath}
use Rattle.worktree_fs.specs.Tree.{Names}
use Rattle.git_setup.specs.declared.found.Found.{Found}
use Rattle.tizhagor.specs.declared.call.Call.{Call}
use Rattle.tizhagor.specs.declared.refusal.CommandRefusal.{CommandRefusal}
use Rattle.tizhagor.specs.declared.refusal.CommandRefusal.TheVariants as errors
use Rattle.tizhagor.specs.declared.reply.Reply.{Reply}
use Rattle.tizhagor.specs.declared.written.Writing.{Writing}
use Rattle.tizhagor.specs.Answers.{AnswersCallBytes, AnswersTaskWithoutStats, AnswersWorkTreeCommand, RefusesFindingWorkTree, CallEnvironment, RefusesTextAfterFound, RefusesCommandAfterFound, CommandTask, FormatsBytesOfCallText, rule_command_reply_in_environment, both_of, call_of, check_of, compare_of, found_in_call_environment, fixed_text_task, found_for_command_in_environment, word_of}
use Rattle.tizhagor.specs.Checks.{FindsReplyOverTreeAndOwners, IsReplyNoRefusal}
use Rattle.tizhagor.specs.Output as output
use Rattle.tizhagor.specs.TreeWords.{IsWorkTreeCommandAnswerable, WorkTreeCommand, RefusesWorkTreeCommand, reply_of_command_over_tree}
use Rattle.tizhagor.specs.Refusals.{fault, memory, status_of}
use Rattle.tizhagor.specs.Texts.{TextNeedsNoFaultForCall, IsSetupValidForCall, IsTextOfCall, CountsNoFaultForCall, RefusesTextOfCall}
use Rattle.tizhagor.specs.Replies.{plain_reply}
use Rattle.tizhagor.proofs.ByCall as calls
use Rattle.tizhagor.proofs.Said as said
use Rattle.tizhagor.proofs.Statuses.{finding_not_interrupted, finding_not_misuse, interrupted_is, memory_not, no_reply, not_found, program_not_misuse, same_error, same_found, same_refusal}

-- ---- a task

-- this is the refusal, or want of memory
abbrev pub IsRefusedAs : {A : Type 0} → CommandRefusal → Result A CommandRefusal → Type 0
IsRefusedAs e (Ok given) = ⊥
IsRefusedAs e (Err other) = (other ≡ e) ⊎ (other ≡ memory)

module _ {W I O : Type 0} (w : WorktreeOf W) (i : InterruptOf I) (o : OwnersOf O) (w0 w1 : W) (i0 i1 : I) (o0 o1 : O) where
  call_unfaulted : (found : Names → OwnershipByPath → Result Found CommandRefusal) (call : Call) (writing : Writing) (bytes : List ℕ) → FormatsBytesOfCallText w i o w0 w1 i0 i1 o0 o1 found call writing bytes
      → CountsNoFaultForCall call (w.faults w0) (w.faults w1)
  call_unfaulted found call writing bytes a =
      subst (λ (n : ℕ). CountsNoFaultForCall call n (w.faults w1)) a.by.unfaulted (calls.unfaulted w i a.by.loaded w1 i0 i1 a.by.here.root a.by.here.setup call a.text a.by.made)

  call_bytes : (found : Names → OwnershipByPath → Result Found CommandRefusal) (call : Call) (writing : Writing) (bytes : List ℕ) → FormatsBytesOfCallText w i o w0 w1 i0 i1 o0 o1 found call writing bytes
      → (t : Names) (owned : OwnershipByPath) → w.told w0 ≡ Some t → o.told o0 ≡ Some owned → TextNeedsNoFaultForCall call (w.faults w0) (w.faults w1) → output.AreFormattedBytesOfCall (w.precomposes w0) t (found t owned) call writing bytes
  call_bytes found call writing bytes a t owned told tells quiet =
      let text_is : IsTextOfCall call (w.precomposes w0) t a.by.here.root a.by.here.setup a.text =
      subst (λ (b : Bool). IsTextOfCall call b t a.by.here.root a.by.here.setup a.text) a.by.asks.precomposes
      (calls.text_is w i a.by.loaded w1 i0 i1 a.by.here.root a.by.here.setup call a.text a.by.made t (a.by.asks.tree ∙ told)
      (subst (λ (n : ℕ). TextNeedsNoFaultForCall call n (w.faults w1)) (sym a.by.unfaulted) quiet)) in
      record {
        here = a.by.here;
        found_is = a.by.is t owned told tells;
        text = a.text;
        text_is = text_is;
        bytes_is = a.bytes_is;
        same = λ path read. calls.joins call (w.precomposes w0) t a.by.here.root path a.by.here.setup a.text read text_is;
      }

  pub word_unfaulted : (found : Names → OwnershipByPath → Result Found CommandRefusal) (word : WorkTreeCommand) (reply : Reply) → AnswersWorkTreeCommand w i o w0 w1 i0 i1 o0 o1 found word (Ok reply) → w.faults w1 ≡ w.faults w0
  word_unfaulted found word reply a = said.unfaulted w i a.loaded w1 i0 i1 a.here word reply a.made ∙ a.unfaulted

  pub word_reply : (found : Names → OwnershipByPath → Result Found CommandRefusal) (word : WorkTreeCommand) (reply : Reply) → AnswersWorkTreeCommand w i o w0 w1 i0 i1 o0 o1 found word (Ok reply)
      → (t : Names) (owned : OwnershipByPath) → w.told w0 ≡ Some t → o.told o0 ≡ Some owned → output.IsReplyOfWorkTreeCommand (w.precomposes w0) t (found t owned) word reply
  word_reply found word reply a t owned told tells =
      record {
        here = a.here;
        found_is = a.is t owned told tells;
        reply_is = subst (λ (b : Bool). reply_of_command_over_tree b t a.here word ≡ Some reply) a.asks.precomposes (said.reply_is w i a.loaded w1 i0 i1 a.here word reply a.made t (a.asks.tree ∙ told));
      }

  -- and the tree stays told
  pub word_tree : (found : Names → OwnershipByPath → Result Found CommandRefusal) (word : WorkTreeCommand) (reply : Reply) → AnswersWorkTreeCommand w i o w0 w1 i0 i1 o0 o1 found word (Ok reply) → w.told w1 ≡ w.told w0
  word_tree found word reply a = said.tree w i a.loaded w1 i0 i1 a.here word reply a.made ∙ a.asks.tree

  pub task_unfaulted : (place : CallEnvironment) (directory : Option (List ℕ)) (task : CommandTask) (reply : Reply) → AnswersTaskWithoutStats w i o w0 w1 i0 i1 o0 o1 place directory (Ok reply) task → output.CountsNoFaultForTask (w.faults w0) (w.faults w1) task
  task_unfaulted place directory (call_of call asked writing) reply a = call_unfaulted (found_in_call_environment place directory asked) call writing reply.out a.0
  task_unfaulted place directory (word_of word asked) reply a = word_unfaulted (found_for_command_in_environment place directory word asked) word reply a
  task_unfaulted place directory (check_of wants asked) reply a = a.0.unfaulted
  task_unfaulted place directory (compare_of comparing asked) reply a = absurd a
  task_unfaulted place directory (both_of word stat asked) reply a = absurd a
  task_unfaulted place directory (fixed_text_task text) reply a = ap w.faults a.0.worktree

  -- and the owners failed at nothing
  pub task_owners : (place : CallEnvironment) (directory : Option (List ℕ)) (task : CommandTask) (reply : Reply) → AnswersTaskWithoutStats w i o w0 w1 i0 i1 o0 o1 place directory (Ok reply) task → o.faults o1 ≡ o.faults o0
  task_owners place directory (call_of call asked writing) reply a = a.0.by.owners_unfaulted
  task_owners place directory (word_of word asked) reply a = a.owners_unfaulted
  task_owners place directory (check_of wants asked) reply a = a.0.owners_unfaulted
  task_owners place directory (compare_of comparing asked) reply a = absurd a
  task_owners place directory (both_of word stat asked) reply a = absurd a
  task_owners place directory (fixed_text_task text) reply a = ap o.faults a.0.owners

  pub task_reply : (place : CallEnvironment) (directory : Option (List ℕ)) (task : CommandTask) (reply : Reply) → AnswersTaskWithoutStats w i o w0 w1 i0 i1 o0 o1 place directory (Ok reply) task
      → (t : Names) (owned : OwnershipByPath) → w.told w0 ≡ Some t → o.told o0 ≡ Some owned → output.ReplyNeedsNoFaultForTask (w.faults w0) (w.faults w1) task → output.IsReplyOfTask (w.precomposes w0) t owned place directory reply task
  task_reply place directory (call_of call asked writing) reply a t owned told tells quiet = (call_bytes (found_in_call_environment place directory asked) call writing reply.out a.0 t owned told tells quiet, a.1)
  task_reply place directory (word_of word asked) reply a t owned told tells quiet = word_reply (found_for_command_in_environment place directory word asked) word reply a t owned told tells
  task_reply place directory (check_of wants asked) reply a t owned told tells quiet = a.0.gives t owned told tells
  task_reply place directory (compare_of comparing asked) reply a t owned told tells quiet = absurd a
  task_reply place directory (both_of word stat asked) reply a t owned told tells quiet = absurd a
  task_reply place directory (fixed_text_task text) reply a t owned told tells quiet = a.1 ∙ ap plain_reply a.0.gives

  -- a fault was counted, and none was
  no_fault : CountIncreasedOrSaturated (w.faults w0) (w.faults w1) ⊎ CountIncreasedOrSaturated (o.faults o0) (o.faults o1) → CountNotIncreased (w.faults w0) (w.faults w1) → CountNotIncreased (o.faults o0) (o.faults o1) → ⊥
  no_fault failed quiet owners_quiet = elim failed [ inl rose ↦ omega (arith, rose, quiet) | inr rose ↦ omega (arith, rose, owners_quiet) ]

  -- a refusal is not one of the words
  call_not_misuse : (found : Names → OwnershipByPath → Result Found CommandRefusal) (call : Call) (writing : Writing) (e : CommandRefusal) → AnswersCallBytes w i o w0 w1 i0 i1 o0 o1 found call writing (Err e) → status_of e ≡ 129 → ⊥
  call_not_misuse found call writing e a is =
      elim a [
        | inl (inl none) ↦ finding_not_misuse e none.of is
        | inl (inr refused) ↦ program_not_misuse refused.refusal (sym (ap status_of refused.e_is) ∙ is)
        | inr unwritten ↦ absurd (let same = memory_not e 129 unwritten.e_is is in omega (arith, same))
      ]

  pub word_not_misuse : (found : Names → OwnershipByPath → Result Found CommandRefusal) (word : WorkTreeCommand) (e : CommandRefusal) → AnswersWorkTreeCommand w i o w0 w1 i0 i1 o0 o1 found word (Err e) → status_of e ≡ 129 → ⊥
  word_not_misuse found word e a is =
      elim a [
        | inl none ↦ finding_not_misuse e none.of is
        | inr refused ↦ program_not_misuse refused.refusal (sym (ap status_of refused.e_is) ∙ is)
      ]

  pub task_not_misuse : (place : CallEnvironment) (directory : Option (List ℕ)) (task : CommandTask) (e : CommandRefusal) → AnswersTaskWithoutStats w i o w0 w1 i0 i1 o0 o1 place directory (Err e) task → status_of e ≡ 129 → ⊥
  task_not_misuse place directory (call_of call asked writing) e a is = call_not_misuse (found_in_call_environment place directory asked) call writing e a.0 is
  task_not_misuse place directory (word_of word asked) e a is = word_not_misuse (found_for_command_in_environment place directory word asked) word e a is
  task_not_misuse place directory (check_of wants asked) e a is = finding_not_misuse e a.0.of is
  task_not_misuse place directory (compare_of comparing asked) e a is = absurd a
  task_not_misuse place directory (both_of word stat asked) e a is = absurd a
  task_not_misuse place directory (fixed_text_task text) e a is = absurd (let same = memory_not e 129 a.0.refused is in omega (arith, same))

  -- an interrupt was raised
  call_interrupted : (found : Names → OwnershipByPath → Result Found CommandRefusal) (call : Call) (writing : Writing) (e : CommandRefusal) → AnswersCallBytes w i o w0 w1 i0 i1 o0 o1 found call writing (Err e) → status_of e ≡ 130 → CountIncreasedOrSaturated (i.raised i0) (i.raised i1)
  call_interrupted found call writing e a is =
      elim a [
        | inl (inl none) ↦ absurd (finding_not_interrupted e none.of is)
        | inl (inr refused) ↦ calls.interrupt_cause w i refused.by.loaded w1 i0 i1 refused.by.here.root refused.by.here.setup call refused.refusal refused.by.made
            (interrupted_is refused.refusal (sym (ap status_of refused.e_is) ∙ is))
        | inr unwritten ↦ absurd (let same = memory_not e 130 unwritten.e_is is in omega (arith, same))
      ]

  pub word_interrupted : (found : Names → OwnershipByPath → Result Found CommandRefusal) (word : WorkTreeCommand) (e : CommandRefusal) → AnswersWorkTreeCommand w i o w0 w1 i0 i1 o0 o1 found word (Err e) → status_of e ≡ 130 → CountIncreasedOrSaturated (i.raised i0) (i.raised i1)
  word_interrupted found word e a is =
      elim a [
        | inl none ↦ absurd (finding_not_interrupted e none.of is)
        | inr refused ↦ said.interrupt_cause w i refused.by.loaded w1 i0 i1 refused.by.here word refused.refusal refused.by.made
            (interrupted_is refused.refusal (sym (ap status_of refused.e_is) ∙ is))
      ]

  pub task_interrupted : (place : CallEnvironment) (directory : Option (List ℕ)) (task : CommandTask) (e : CommandRefusal) → AnswersTaskWithoutStats w i o w0 w1 i0 i1 o0 o1 place directory (Err e) task → status_of e ≡ 130 → CountIncreasedOrSaturated (i.raised i0) (i.raised i1)
  task_interrupted place directory (call_of call asked writing) e a is = call_interrupted (found_in_call_environment place directory asked) call writing e a.0 is
  task_interrupted place directory (word_of word asked) e a is = word_interrupted (found_for_command_in_environment place directory word asked) word e a is
  task_interrupted place directory (check_of wants asked) e a is = absurd (finding_not_interrupted e a.0.of is)
  task_interrupted place directory (compare_of comparing asked) e a is = absurd a
  task_interrupted place directory (both_of word stat asked) e a is = absurd a
  task_interrupted place directory (fixed_text_task text) e a is = absurd (let same = memory_not e 130 a.0.refused is in omega (arith, same))

  -- what is refused over a tree
  text_refused : (found : Names → OwnershipByPath → Result Found CommandRefusal) (call : Call) (e : CommandRefusal) → RefusesTextAfterFound w i o w0 w1 i0 i1 o0 o1 found call e
      → (t : Names) (owned : OwnershipByPath) → w.told w0 ≡ Some t → o.told o0 ≡ Some owned → CountNotIncreased (w.faults w0) (w.faults w1) → status_of e ≡ 128
      → (e ≡ memory) ⊎ output.RefusesCallTextOfFound (w.precomposes w0) t (found t owned) call e
  text_refused found call e refused t owned told tells quiet is =
      elim (calls.refused w i refused.by.loaded w1 i0 i1 refused.by.here.root refused.by.here.setup call refused.refusal refused.by.made t (refused.by.asks.tree ∙ told)
      (subst (λ (n : ℕ). CountNotIncreased n (w.faults w1)) (sym refused.by.unfaulted) quiet) (sym (ap status_of refused.e_is) ∙ is)) [
        | inl wants ↦ inl (refused.e_is ∙ ap errors.Program wants)
        | inr known ↦ inr (record {
          here = refused.by.here;
          found_is = refused.by.is t owned told tells;
          refusal = refused.refusal;
          e_is = refused.e_is;
          refused = subst (λ (b : Bool). RefusesTextOfCall call b t refused.by.here.root refused.by.here.setup refused.refusal) refused.by.asks.precomposes known;
        })
      ]

  call_refused : (found : Names → OwnershipByPath → Result Found CommandRefusal) (call : Call) (writing : Writing) (e : CommandRefusal) → AnswersCallBytes w i o w0 w1 i0 i1 o0 o1 found call writing (Err e)
      → (t : Names) (owned : OwnershipByPath) → w.told w0 ≡ Some t → o.told o0 ≡ Some owned → CountNotIncreased (w.faults w0) (w.faults w1) → CountNotIncreased (o.faults o0) (o.faults o1) → status_of e ≡ 128
      → (e ≡ memory) ⊎ output.RefusesCallOverTree (w.precomposes w0) t (found t owned) call e
  call_refused found call writing e a t owned told tells quiet owners_quiet is =
      elim a [
        | inl (inl none) ↦ elim (none.is t owned told tells) [
          | inl same ↦ inr (inl same)
          | inr (inl failed) ↦ absurd (no_fault (none.cause failed) quiet owners_quiet)
          | inr (inr wants) ↦ inl wants
        ]
        | inl (inr refused) ↦ elim (text_refused found call e refused t owned told tells quiet is) [ inl wants ↦ inl wants | inr known ↦ inr (inr known) ]
        | inr unwritten ↦ inl unwritten.e_is
      ]

  word_refused : (found : Names → OwnershipByPath → Result Found CommandRefusal) (word : WorkTreeCommand) (e : CommandRefusal) → RefusesCommandAfterFound w i o w0 w1 i0 i1 o0 o1 found word e
      → (t : Names) (owned : OwnershipByPath) → w.told w0 ≡ Some t → o.told o0 ≡ Some owned → CountNotIncreased (w.faults w0) (w.faults w1) → status_of e ≡ 128
      → (e ≡ memory) ⊎ output.RefusesCommandOfFound (w.precomposes w0) t (found t owned) word e
  word_refused found word e refused t owned told tells quiet is =
      elim (said.refused w i refused.by.loaded w1 i0 i1 refused.by.here word refused.refusal refused.by.made t (refused.by.asks.tree ∙ told)
      (subst (λ (n : ℕ). CountNotIncreased n (w.faults w1)) (sym refused.by.unfaulted) quiet) (sym (ap status_of refused.e_is) ∙ is)) [
        | inl wants ↦ inl (refused.e_is ∙ ap errors.Program wants)
        | inr known ↦ inr (record {
          here = refused.by.here;
          found_is = refused.by.is t owned told tells;
          refusal = refused.refusal;
          e_is = refused.e_is;
          refused = subst (λ (b : Bool). RefusesWorkTreeCommand b t refused.by.here refused.refusal word) refused.by.asks.precomposes known;
        })
      ]

  none_refused : (found : Names → OwnershipByPath → Result Found CommandRefusal) (e : CommandRefusal) → RefusesFindingWorkTree w o w0 w1 i0 i1 o0 o1 found e
      → (t : Names) (owned : OwnershipByPath) → w.told w0 ≡ Some t → o.told o0 ≡ Some owned → CountNotIncreased (w.faults w0) (w.faults w1) → CountNotIncreased (o.faults o0) (o.faults o1)
      → (e ≡ memory) ⊎ (found t owned ≡ Err e)
  none_refused found e none t owned told tells quiet owners_quiet =
      elim (none.is t owned told tells) [
        | inl same ↦ inr same
        | inr (inl failed) ↦ absurd (no_fault (none.cause failed) quiet owners_quiet)
        | inr (inr wants) ↦ inl wants
      ]

  check_refused : (found : Names → OwnershipByPath → Result Reply CommandRefusal) (e : CommandRefusal) → FindsReplyOverTreeAndOwners w o w0 w1 o0 o1 found (Err e)
      → (t : Names) (owned : OwnershipByPath) → w.told w0 ≡ Some t → o.told o0 ≡ Some owned → CountNotIncreased (w.faults w0) (w.faults w1) → CountNotIncreased (o.faults o0) (o.faults o1)
      → (e ≡ memory) ⊎ (found t owned ≡ Err e)
  check_refused found e a t owned told tells quiet owners_quiet =
      elim (a.gives t owned told tells) [
        | inl same ↦ inr same
        | inr (inl failed) ↦ absurd (no_fault (a.cause (ap Err failed)) quiet owners_quiet)
        | inr (inr wants) ↦ inl wants
      ]

  pub word_refuses : (found : Names → OwnershipByPath → Result Found CommandRefusal) (word : WorkTreeCommand) (e : CommandRefusal) → AnswersWorkTreeCommand w i o w0 w1 i0 i1 o0 o1 found word (Err e)
      → (t : Names) (owned : OwnershipByPath) → w.told w0 ≡ Some t → o.told o0 ≡ Some owned → CountNotIncreased (w.faults w0) (w.faults w1) → CountNotIncreased (o.faults o0) (o.faults o1) → status_of e ≡ 128
      → (e ≡ memory) ⊎ output.RefusesCommandOverTree (w.precomposes w0) t (found t owned) word e
  word_refuses found word e a t owned told tells quiet owners_quiet is =
      elim a [
        | inl none ↦ elim (none_refused found e none t owned told tells quiet owners_quiet) [ inl wants ↦ inl wants | inr known ↦ inr (inl known) ]
        | inr refused ↦ elim (word_refused found word e refused t owned told tells quiet is) [ inl wants ↦ inl wants | inr known ↦ inr (inr known) ]
      ]

  pub task_refused : (place : CallEnvironment) (directory : Option (List ℕ)) (task : CommandTask) (e : CommandRefusal) → AnswersTaskWithoutStats w i o w0 w1 i0 i1 o0 o1 place directory (Err e) task
      → (t : Names) (owned : OwnershipByPath) → w.told w0 ≡ Some t → o.told o0 ≡ Some owned → CountNotIncreased (w.faults w0) (w.faults w1) → CountNotIncreased (o.faults o0) (o.faults o1) → status_of e ≡ 128
      → (e ≡ memory) ⊎ output.RefusesTaskOverTree (w.precomposes w0) t owned place directory e task
  task_refused place directory (call_of call asked writing) e a t owned told tells quiet owners_quiet is = call_refused (found_in_call_environment place directory asked) call writing e a.0 t owned told tells quiet owners_quiet is
  task_refused place directory (word_of word asked) e a t owned told tells quiet owners_quiet is = word_refuses (found_for_command_in_environment place directory word asked) word e a t owned told tells quiet owners_quiet is
  task_refused place directory (check_of wants asked) e a t owned told tells quiet owners_quiet is = check_refused (rule_command_reply_in_environment place directory wants asked) e a.0 t owned told tells quiet owners_quiet
  task_refused place directory (compare_of comparing asked) e a t owned told tells quiet owners_quiet is = absurd a
  task_refused place directory (both_of word stat asked) e a t owned told tells quiet owners_quiet is = absurd a
  task_refused place directory (fixed_text_task text) e a t owned told tells quiet owners_quiet is = inl a.0.refused

  -- where nothing is found over a tree, that is the answer, or want of memory
  none_is : (found : Names → OwnershipByPath → Result Found CommandRefusal) (other : CommandRefusal) → RefusesFindingWorkTree w o w0 w1 i0 i1 o0 o1 found other
      → (t : Names) (owned : OwnershipByPath) → w.told w0 ≡ Some t → o.told o0 ≡ Some owned → CountNotIncreased (w.faults w0) (w.faults w1) → CountNotIncreased (o.faults o0) (o.faults o1)
      → (e : CommandRefusal) → found t owned ≡ Err e → (other ≡ e) ⊎ (other ≡ memory)
  none_is found other none t owned told tells quiet owners_quiet e known =
      elim (none_refused found other none t owned told tells quiet owners_quiet) [ inl wants ↦ inr wants | inr same ↦ inl (same_refusal (sym same ∙ known)) ]

  call_none : (found : Names → OwnershipByPath → Result Found CommandRefusal) (call : Call) (writing : Writing) (answer : Result (List ℕ) CommandRefusal) → AnswersCallBytes w i o w0 w1 i0 i1 o0 o1 found call writing answer
      → (t : Names) (owned : OwnershipByPath) → w.told w0 ≡ Some t → o.told o0 ≡ Some owned → CountNotIncreased (w.faults w0) (w.faults w1) → CountNotIncreased (o.faults o0) (o.faults o1)
      → (e : CommandRefusal) → found t owned ≡ Err e → IsRefusedAs e answer
  call_none found call writing (Ok bytes) a t owned told tells quiet owners_quiet e known = not_found (sym (a.by.is t owned told tells) ∙ known)
  call_none found call writing (Err other) a t owned told tells quiet owners_quiet e known =
      elim a [
        | inl (inl none) ↦ none_is found other none t owned told tells quiet owners_quiet e known
        | inl (inr refused) ↦ absurd (not_found (sym (refused.by.is t owned told tells) ∙ known))
        | inr unwritten ↦ inr unwritten.e_is
      ]

  pub word_none : (found : Names → OwnershipByPath → Result Found CommandRefusal) (word : WorkTreeCommand) (answer : Result Reply CommandRefusal) → AnswersWorkTreeCommand w i o w0 w1 i0 i1 o0 o1 found word answer
      → (t : Names) (owned : OwnershipByPath) → w.told w0 ≡ Some t → o.told o0 ≡ Some owned → CountNotIncreased (w.faults w0) (w.faults w1) → CountNotIncreased (o.faults o0) (o.faults o1)
      → (e : CommandRefusal) → found t owned ≡ Err e → IsRefusedAs e answer
  word_none found word (Ok reply) a t owned told tells quiet owners_quiet e known = not_found (sym (a.is t owned told tells) ∙ known)
  word_none found word (Err other) a t owned told tells quiet owners_quiet e known =
      elim a [
        | inl none ↦ none_is found other none t owned told tells quiet owners_quiet e known
        | inr refused ↦ absurd (not_found (sym (refused.by.is t owned told tells) ∙ known))
      ]

  check_none : (found : Names → OwnershipByPath → Result Reply CommandRefusal) (answer : Result Reply CommandRefusal) → FindsReplyOverTreeAndOwners w o w0 w1 o0 o1 found answer
      → (t : Names) (owned : OwnershipByPath) → w.told w0 ≡ Some t → o.told o0 ≡ Some owned → CountNotIncreased (w.faults w0) (w.faults w1) → CountNotIncreased (o.faults o0) (o.faults o1)
      → (e : CommandRefusal) → found t owned ≡ Err e → IsRefusedAs e answer
  check_none found (Ok reply) a t owned told tells quiet owners_quiet e known = no_reply (sym (a.gives t owned told tells) ∙ known)
  check_none found (Err other) a t owned told tells quiet owners_quiet e known =
      elim (check_refused found other a t owned told tells quiet owners_quiet) [ inl wants ↦ inr wants | inr same ↦ inl (same_error (sym same ∙ known)) ]

  pub task_none : (place : CallEnvironment) (directory : Option (List ℕ)) (task : CommandTask) (answer : Result Reply CommandRefusal) → AnswersTaskWithoutStats w i o w0 w1 i0 i1 o0 o1 place directory answer task
      → (t : Names) (owned : OwnershipByPath) → w.told w0 ≡ Some t → o.told o0 ≡ Some owned → CountNotIncreased (w.faults w0) (w.faults w1) → CountNotIncreased (o.faults o0) (o.faults o1)
      → (e : CommandRefusal) → output.IsWorkTreeNotFoundForTask t owned place directory e task → IsRefusedAs e answer
  task_none place directory (call_of call asked writing) (Ok reply) a t owned told tells quiet owners_quiet e known = call_none (found_in_call_environment place directory asked) call writing (Ok reply.out) a.0 t owned told tells quiet owners_quiet e known
  task_none place directory (call_of call asked writing) (Err other) a t owned told tells quiet owners_quiet e known = call_none (found_in_call_environment place directory asked) call writing (Err other) a.0 t owned told tells quiet owners_quiet e known
  task_none place directory (word_of word asked) answer a t owned told tells quiet owners_quiet e known = word_none (found_for_command_in_environment place directory word asked) word answer a t owned told tells quiet owners_quiet e known
  task_none place directory (check_of wants asked) answer a t owned told tells quiet owners_quiet e known = check_none (rule_command_reply_in_environment place directory wants asked) answer a.0 t owned told tells quiet owners_quiet e known
  task_none place directory (compare_of comparing asked) answer a t owned told tells quiet owners_quiet e known = absurd a
  task_none place directory (both_of word stat asked) answer a t owned told tells quiet owners_quiet e known = absurd a
  task_none place directory (fixed_text_task text) answer a t owned told tells quiet owners_quiet e known = absurd known

  -- for what can be had only memory may be wanted
  call_complete : (found : Names → OwnershipByPath → Result Found CommandRefusal) (call : Call) (writing : Writing) (e : CommandRefusal) → AnswersCallBytes w i o w0 w1 i0 i1 o0 o1 found call writing (Err e)
      → (t : Names) (owned : OwnershipByPath) → w.told w0 ≡ Some t → o.told o0 ≡ Some owned → CountNotIncreased (w.faults w0) (w.faults w1) → CountNotIncreased (o.faults o0) (o.faults o1) → CountNotIncreased (i.raised i0) (i.raised i1)
      → output.IsCallAnswerableByFound (w.precomposes w0) t (found t owned) call → e ≡ memory
  call_complete found call writing e a t owned told tells quiet owners_quiet calm ready =
      elim a [
        | inl (inl none) ↦ elim (none.is t owned told tells) [
          | inl is ↦ absurd (not_found (sym ready.found_is ∙ is))
          | inr (inl is) ↦ absurd (no_fault (none.cause is) quiet owners_quiet)
          | inr (inr is) ↦ is
        ]
        | inl (inr refused) ↦
            let by = refused.by in
            let same : ready.here ≡ by.here = same_found (sym ready.found_is ∙ by.is t owned told tells) in
            refused.e_is ∙ ap errors.Program
            (calls.complete w i by.loaded w1 i0 i1 by.here.root by.here.setup call refused.refusal by.made t (by.asks.tree ∙ told)
            (subst (λ (n : ℕ). CountNotIncreased n (w.faults w1)) (sym by.unfaulted) quiet) calm
            (subst (λ (b : Bool). IsSetupValidForCall call b t by.here.root by.here.setup) (sym by.asks.precomposes)
            (subst (λ (x : Found). IsSetupValidForCall call (w.precomposes w0) t x.root x.setup) same ready.ready)))
        | inr unwritten ↦ unwritten.e_is
      ]

  pub word_complete : (found : Names → OwnershipByPath → Result Found CommandRefusal) (word : WorkTreeCommand) (e : CommandRefusal) → AnswersWorkTreeCommand w i o w0 w1 i0 i1 o0 o1 found word (Err e)
      → (t : Names) (owned : OwnershipByPath) → w.told w0 ≡ Some t → o.told o0 ≡ Some owned → CountNotIncreased (w.faults w0) (w.faults w1) → CountNotIncreased (o.faults o0) (o.faults o1) → CountNotIncreased (i.raised i0) (i.raised i1)
      → output.IsCommandAnswerableByFound (w.precomposes w0) t (found t owned) word → e ≡ memory
  word_complete found word e a t owned told tells quiet owners_quiet calm ready =
      elim a [
        | inl none ↦ elim (none_refused found e none t owned told tells quiet owners_quiet) [
          | inl wants ↦ wants
          | inr is ↦ absurd (not_found (sym ready.found_is ∙ is))
        ]
        | inr refused ↦
            let by = refused.by in
            let same : ready.here ≡ by.here = same_found (sym ready.found_is ∙ by.is t owned told tells) in
            refused.e_is ∙ ap errors.Program
            (said.complete w i by.loaded w1 i0 i1 by.here word refused.refusal by.made t (by.asks.tree ∙ told)
            (subst (λ (n : ℕ). CountNotIncreased n (w.faults w1)) (sym by.unfaulted) quiet) calm
            (subst (λ (b : Bool). IsWorkTreeCommandAnswerable b t by.here word) (sym by.asks.precomposes)
            (subst (λ (x : Found). IsWorkTreeCommandAnswerable (w.precomposes w0) t x word) same ready.ready)))
      ]

  check_complete : (found : Names → OwnershipByPath → Result Reply CommandRefusal) (e : CommandRefusal) → FindsReplyOverTreeAndOwners w o w0 w1 o0 o1 found (Err e)
      → (t : Names) (owned : OwnershipByPath) → w.told w0 ≡ Some t → o.told o0 ≡ Some owned → CountNotIncreased (w.faults w0) (w.faults w1) → CountNotIncreased (o.faults o0) (o.faults o1)
      → IsReplyNoRefusal (found t owned) → e ≡ memory
  check_complete found e a t owned told tells quiet owners_quiet ready =
      elim (check_refused found e a t owned told tells quiet owners_quiet) [
        | inl wants ↦ wants
        | inr is ↦ absurd (subst (λ (r : Result Reply CommandRefusal). IsReplyNoRefusal r) is ready)
      ]

  pub task_complete : (place : CallEnvironment) (directory : Option (List ℕ)) (task : CommandTask) (e : CommandRefusal) → AnswersTaskWithoutStats w i o w0 w1 i0 i1 o0 o1 place directory (Err e) task
      → (t : Names) (owned : OwnershipByPath) → w.told w0 ≡ Some t → o.told o0 ≡ Some owned → CountNotIncreased (w.faults w0) (w.faults w1) → CountNotIncreased (o.faults o0) (o.faults o1) → CountNotIncreased (i.raised i0) (i.raised i1)
      → output.IsTaskAnswerableOverTree (w.precomposes w0) t owned place directory task → e ≡ memory
  task_complete place directory (call_of call asked writing) e a t owned told tells quiet owners_quiet calm ready = call_complete (found_in_call_environment place directory asked) call writing e a.0 t owned told tells quiet owners_quiet calm ready
  task_complete place directory (word_of word asked) e a t owned told tells quiet owners_quiet calm ready = word_complete (found_for_command_in_environment place directory word asked) word e a t owned told tells quiet owners_quiet calm ready
  task_complete place directory (check_of wants asked) e a t owned told tells quiet owners_quiet calm ready = check_complete (rule_command_reply_in_environment place directory wants asked) e a.0 t owned told tells quiet owners_quiet ready
  task_complete place directory (compare_of comparing asked) e a t owned told tells quiet owners_quiet calm ready = absurd a
  task_complete place directory (both_of word stat asked) e a t owned told tells quiet owners_quiet calm ready = absurd a
  task_complete place directory (fixed_text_task text) e a t owned told tells quiet owners_quiet calm ready = a.0.refused
