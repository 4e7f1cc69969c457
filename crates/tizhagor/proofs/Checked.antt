-- What is said of paths that are checked, over a worktree, and then behind owners.
use Rattle.std.proofs.Common.{◌≡◌, ◌⊎◌, inl, inr, ℕ, List, Option, Some, Result, Ok, Err, IfErr, IsErrOf, OnOk, refl, sym, ap, ◌∙◌, subst, arith}
use Rattle.check_ignore.specs.Finds.{FindsInTree}
use Rattle.check_ignore.specs.declared.answer.Answered.{Answered}
use Rattle.check_ignore.specs.declared.stop.Stop.{Stop}
use Rattle.check_ignore.specs.declared.stop.Stop.TheVariants as stops
use Rattle.git_places.specs.Answers.{IsFoundOrFailed, HoldsUnlessFault}
use Rattle.git_places.proofs.Passes.{passes}
use Rattle.worktree_fs.specs.declared.owners.Owners.{Ghosts as OwnersOf}
use Rattle.worktree_fs.specs.declared.worktree.Worktree.{Ghosts as WorktreeOf}
use Rattle.worktree_fs.specs.Causes.{CountIncreasedOrSaturated}
use Rattle.worktree_fs.specs.Kept.{KeepsTreeAndListCounts}
use Rattle.worktree_fs.specs.Owners.{OwnershipByPath}
use Rattle.worktree_fs.specs.Tree.{Names}
use Rattle.tizhagor.specs.declared.refusal.CommandRefusal.{CommandRefusal}
use Rattle.tizhagor.specs.declared.reply.Reply.{Reply}
use Rattle.tizhagor.specs.Checking.{reply_of_check_ignore_answer}
use Rattle.tizhagor.specs.Checks.{FindsReplyOverTreeAndOwners, FindsReplyOverTree}
use Rattle.tizhagor.specs.Finds.{FindsHereResultOverToldTree, FindsHereResultOverTreeAndOwners}
use Rattle.tizhagor.specs.Refusals.{fault, memory, here_refusal_of_check_ignore_stop, MayComeBeforeSetupIsFound}

-- ---- answers

err_is : {A : Type 0} (a b : CommandRefusal) → ◌≡◌ {A = Result A CommandRefusal} (Err a) (Err b) → a ≡ b
err_is a b e = cc

no_err : {A : Type 0} (a : A) (e : CommandRefusal) → ◌≡◌ {A = Result A CommandRefusal} (Ok a) (Err e) → ⊥
no_err a e is = absurd cc

same_err : {A B : Type 0} (a b : CommandRefusal) → ◌≡◌ {A = Result A CommandRefusal} (Err a) (Err b) → ◌≡◌ {A = Result B CommandRefusal} (Err a) (Err b)
same_err a b e = ap Err (err_is a b e)

unless_any : {A P : Type 0} (answer : Result A CommandRefusal) → P → HoldsUnlessFault fault answer P
unless_any (Ok given) holds = holds
unless_any (Err e) holds = inr holds

on_ok : {A P Q : Type 0} (answer : Result A CommandRefusal) → (P → Q) → OnOk answer P → OnOk answer Q
on_ok (Ok given) to holds = to holds
on_ok (Err e) to holds = tt

asks_then : {W : Type 0} (w : WorktreeOf W) (w0 w1 w2 : W) → KeepsTreeAndListCounts w w0 w1 → KeepsTreeAndListCounts w w1 w2 → KeepsTreeAndListCounts w w0 w2
asks_then w w0 w1 w2 first next =
    let faults0 = first.faults in
    let faults1 = next.faults in
    let reads0 = first.reads in
    let reads1 = next.reads in
    record {
      tree = next.tree ∙ first.tree;
      faults = omega (arith, faults0, faults1);
      list_faults = next.list_faults ∙ first.list_faults;
      reads = omega (arith, reads0, reads1);
      lists = next.lists ∙ first.lists;
      precomposes = next.precomposes ∙ first.precomposes;
    }

-- ---- what nothing is answered for

stop_is_fault : (root : List ℕ) (e : Stop) → here_refusal_of_check_ignore_stop root e ≡ fault → e ≡ stops.Fault
stop_is_fault root stops.SparseIndex is = absurd cc
stop_is_fault root stops.BadQuotes is = absurd cc
stop_is_fault root stops.Empty is = absurd cc
stop_is_fault root (stops.Magic text) is = absurd cc
stop_is_fault root (stops.Elsewhere text) is = absurd cc
stop_is_fault root (stops.Prefix text) is = absurd cc
stop_is_fault root (stops.Outside text) is = absurd cc
stop_is_fault root (stops.Beyond text) is = absurd cc
stop_is_fault root (stops.Inside text place) is = absurd cc
stop_is_fault root (stops.Slash text) is = absurd cc
stop_is_fault root (stops.Everything text file line) is = absurd cc
stop_is_fault root (stops.Unread text) is = absurd cc
stop_is_fault root stops.Fault is = refl
stop_is_fault root stops.OutOfMemory is = absurd cc

of_stop-is : (root : List ℕ) (e : Stop) → MayComeBeforeSetupIsFound (here_refusal_of_check_ignore_stop root e)
of_stop-is root stops.SparseIndex = tt
of_stop-is root stops.BadQuotes = tt
of_stop-is root stops.Empty = tt
of_stop-is root (stops.Magic text) = tt
of_stop-is root (stops.Elsewhere text) = tt
of_stop-is root (stops.Prefix text) = tt
of_stop-is root (stops.Outside text) = tt
of_stop-is root (stops.Beyond text) = tt
of_stop-is root (stops.Inside text place) = tt
of_stop-is root (stops.Slash text) = tt
of_stop-is root (stops.Everything text file line) = tt
of_stop-is root (stops.Unread text) = tt
of_stop-is root stops.Fault = tt
of_stop-is root stops.OutOfMemory = tt

pub as_reply-is : (root : List ℕ) (answer : Result Answered Stop) → IfErr (reply_of_check_ignore_answer root answer) MayComeBeforeSetupIsFound
as_reply-is root (Ok answered) = tt
as_reply-is root (Err e) = of_stop-is root e

-- ---- over a worktree

module _ {W : Type 0} (w : WorktreeOf W) where
  -- what is said by an answer
  pub of_answer : (w0 w1 : W) (root : List ℕ) (found : Names → Result Answered Stop) (answer : Result Answered Stop) → FindsInTree w w0 w1 found answer
      → FindsReplyOverTree w w0 w1 (λ t. reply_of_check_ignore_answer root (found t)) (reply_of_check_ignore_answer root answer)
  of_answer w0 w1 root found (Ok answered) h =
      record {
        gives = λ t told. ap (reply_of_check_ignore_answer root) (h.gives t told);
        cause = λ is. absurd (no_err _ _ is);
        unfaulted = h.unfaulted;
        keeps = h.keeps;
      }
  of_answer w0 w1 root found (Err e) h =
      record {
        gives = λ t told. elim (h.gives t told) [ inl is ↦ inl (ap (reply_of_check_ignore_answer root) is) | inr (inl is) ↦ inr (inl (ap (here_refusal_of_check_ignore_stop root) is)) | inr (inr is) ↦ inr (inr (ap (here_refusal_of_check_ignore_stop root) is)) ];
        cause = λ is. h.cause (ap Err (stop_is_fault root e (err_is _ _ is)));
        unfaulted = tt;
        keeps = h.keeps;
      }

  -- where the first gives something, the whole is what the next finds
  pub goes_on : {A : Type 0} (w0 w1 w2 : W) (given : A) (found : Names → Result A CommandRefusal) (next whole : Names → Result Reply CommandRefusal) (answer : Result Reply CommandRefusal)
      → ((t : Names) → found t ≡ Ok given → whole t ≡ next t)
      → FindsHereResultOverToldTree {A = A} w w0 w1 found (Ok given) → FindsReplyOverTree w w1 w2 next answer → FindsReplyOverTree w w0 w2 whole answer
  goes_on w0 w1 w2 given found next whole answer same first then =
      record {
        gives = λ t told.
            subst (λ (r : Result Reply CommandRefusal). IsFoundOrFailed fault memory answer r) (sym (same t (first.gives t told))) (then.gives t (first.keeps.tree ∙ told));
        cause = λ is. subst (λ (n : ℕ). CountIncreasedOrSaturated n (w.faults w2)) first.unfaulted (then.cause is);
        unfaulted = on_ok answer (λ is. is ∙ first.unfaulted) then.unfaulted;
        keeps = asks_then w w0 w1 w2 first.keeps then.keeps;
      }

  -- a refusal of the first is one of the whole
  pub refused_first : {A : Type 0} (w0 w1 : W) (e : CommandRefusal) (found : Names → Result A CommandRefusal) (whole : Names → Result Reply CommandRefusal)
      → ((t : Names) → found t ≡ Err e → whole t ≡ Err e)
      → FindsHereResultOverToldTree {A = A} w w0 w1 found (Err e) → FindsReplyOverTree w w0 w1 whole (Err e)
  refused_first w0 w1 e found whole to h =
      record {
        gives = λ t told. passes fault memory e (found t) (whole t) (h.gives t told) (to t);
        cause = λ is. h.cause (same_err _ _ is);
        unfaulted = tt;
        keeps = h.keeps;
      }

-- ---- behind owners

module _ {W O : Type 0} (w : WorktreeOf W) (o : OwnersOf O) where
  pub behind_owners : {A : Type 0} (w0 w1 w2 : W) (o0 o1 : O) (given : A) (found : Names → OwnershipByPath → Result A CommandRefusal) (next : Names → Result Reply CommandRefusal)
      (whole : Names → OwnershipByPath → Result Reply CommandRefusal) (answer : Result Reply CommandRefusal)
      → ((t : Names) (owned : OwnershipByPath) → found t owned ≡ Ok given → whole t owned ≡ next t)
      → FindsHereResultOverTreeAndOwners {A = A} w o w0 w1 o0 o1 found (Ok given) → FindsReplyOverTree w w1 w2 next answer → IfErr answer MayComeBeforeSetupIsFound
      → FindsReplyOverTreeAndOwners w o w0 w2 o0 o1 whole answer
  behind_owners w0 w1 w2 o0 o1 given found next whole answer same first then of =
      record {
        gives = λ t owned told owns.
            subst (λ (r : Result Reply CommandRefusal). IsFoundOrFailed fault memory answer r) (sym (same t owned (first.gives t owned told owns)))
            (then.gives t (first.keeps.tree ∙ told));
        of = of;
        cause = λ is. inl (subst (λ (n : ℕ). CountIncreasedOrSaturated n (w.faults w2)) first.unfaulted (then.cause is));
        unfaulted = on_ok answer (λ is. is ∙ first.unfaulted) then.unfaulted;
        owners_unfaulted = unless_any answer first.owners_unfaulted;
        keeps = asks_then w w0 w1 w2 first.keeps then.keeps;
        owners = first.owners;
      }

  pub stops_before : {A : Type 0} (w0 w1 : W) (o0 o1 : O) (e : CommandRefusal) (found : Names → OwnershipByPath → Result A CommandRefusal) (whole : Names → OwnershipByPath → Result Reply CommandRefusal)
      → ((t : Names) (owned : OwnershipByPath) → found t owned ≡ Err e → whole t owned ≡ Err e)
      → FindsHereResultOverTreeAndOwners {A = A} w o w0 w1 o0 o1 found (Err e) → MayComeBeforeSetupIsFound e → FindsReplyOverTreeAndOwners w o w0 w1 o0 o1 whole (Err e)
  stops_before w0 w1 o0 o1 e found whole to h of =
      record {
        gives = λ t owned told owns. passes fault memory e (found t owned) (whole t owned) (h.gives t owned told owns) (to t owned);
        of = of;
        cause = λ is. h.cause (same_err _ _ is);
        unfaulted = tt;
        owners_unfaulted = h.owners_unfaulted;
        keeps = h.keeps;
        owners = h.owners;
      }
