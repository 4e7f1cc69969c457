-- What one call says of what is found, carried to the call that makes it.
use Rattle.std.proofs.Common.{◌≡◌, ◌⊎◌, inl, inr, ℕ, Result, Ok, Err, refl, sym, ap, ◌∙◌, subst, arith}
use Rattle.worktree_fs.specs.declared.owners.Owners.{Ghosts as OwnersOf}
use Rattle.worktree_fs.specs.declared.worktree.Worktree.{Ghosts as WorktreeOf}
use Rattle.worktree_fs.specs.Causes.{CountIncreasedOrSaturated}
use Rattle.worktree_fs.specs.Kept.{KeepsTreeAndListCounts}
use Rattle.worktree_fs.specs.KeptOwners.{KeepsOwnershipAnswers}
use Rattle.worktree_fs.specs.Owners.{OwnershipByPath}
use Rattle.worktree_fs.specs.Tree.{Names}
use Rattle.git_places.specs.Answers.{IsFoundOrFailed, HoldsUnlessFault, map_error}
use Rattle.git_places.specs.Finds.{FindsInTreeByErrors, FindsInTreeAndOwnersByErrors}
use Rattle.git_places.proofs.Passes.{passes}

-- ---- answers

err_is : {A E : Type 0} (a b : E) → ◌≡◌ {A = Result A E} (Err a) (Err b) → a ≡ b
err_is a b e = cc

no_err : {A E : Type 0} (a : A) (e : E) → ◌≡◌ {A = Result A E} (Ok a) (Err e) → ⊥
no_err a e is = absurd cc

same_err : {A B E : Type 0} (a b : E) → ◌≡◌ {A = Result A E} (Err a) (Err b) → ◌≡◌ {A = Result B E} (Err a) (Err b)
same_err a b e = ap Err (err_is a b e)

unless_any : {A E P : Type 0} (fault : E) (answer : Result A E) → P → HoldsUnlessFault fault answer P
unless_any fault (Ok given) holds = holds
unless_any fault (Err e) holds = inr holds

unless_weaker : {A E P Q : Type 0} (fault : E) (answer : Result A E) → (P → Q) → HoldsUnlessFault fault answer P → HoldsUnlessFault fault answer Q
unless_weaker fault (Ok given) to holds = to holds
unless_weaker fault (Err e) to holds = elim holds [ inl is ↦ inl is | inr known ↦ inr (to known) ]

-- ---- what stays

asks_then : {W : Type 0} (w : WorktreeOf W) (w0 w1 w2 : W) → KeepsTreeAndListCounts w w0 w1 → KeepsTreeAndListCounts w w1 w2 → KeepsTreeAndListCounts w w0 w2
asks_then w w0 w1 w2 first next =
    let faults0 = first.faults in
    let faults1 = next.faults in
    let reads0 = first.reads in
    let reads1 = next.reads in
    record {
      tree = next.tree ∙ first.tree;
      faults = omega (arith, faults0, faults1);
      list_faults = next.list_faults ∙ first.list_faults;
      reads = omega (arith, reads0, reads1);
      lists = next.lists ∙ first.lists;
      precomposes = next.precomposes ∙ first.precomposes;
    }

owners_then : {O : Type 0} (o : OwnersOf O) (o0 o1 o2 : O) → KeepsOwnershipAnswers o o0 o1 → KeepsOwnershipAnswers o o1 o2 → KeepsOwnershipAnswers o o0 o2
owners_then o o0 o1 o2 first next =
    let faults0 = first.faults in
    let faults1 = next.faults in
    record { told = next.told ∙ first.told; faults = omega (arith, faults0, faults1) }

-- ---- refusals that stand for others

gives_as : {A E F : Type 0} (of : E → F) (fault memory e : E) (found : Result A E)
    → IsFoundOrFailed {A = A} fault memory (Err e) found → IsFoundOrFailed {A = A} (of fault) (of memory) (Err (of e)) (map_error of found)
gives_as of fault memory e found h = elim h [ inl is ↦ inl (ap (map_error of) is) | inr (inl is) ↦ inr (inl (ap of is)) | inr (inr is) ↦ inr (inr (ap of is)) ]

unless_as : {E F P : Type 0} (of : E → F) (fault e : E) → (e ≡ fault) ⊎ P → (of e ≡ of fault) ⊎ P
unless_as of fault e h = elim h [ inl is ↦ inl (ap of is) | inr holds ↦ inr holds ]

-- where no other refusal stands for a fault
pub as_refused : {W O A E F : Type 0} (w : WorktreeOf W) (o : OwnersOf O) (w0 w1 : W) (o0 o1 : O) (of : E → F) (fault memory : E)
    → ((e : E) → of e ≡ of fault → e ≡ fault) → (found : Names → OwnershipByPath → Result A E) (answer : Result A E)
    → FindsInTreeAndOwnersByErrors w o w0 w1 o0 o1 fault memory found answer
    → FindsInTreeAndOwnersByErrors w o w0 w1 o0 o1 (of fault) (of memory) (λ t owned. map_error of (found t owned)) (map_error of answer)
as_refused w o w0 w1 o0 o1 of fault memory only found (Ok given) h =
    record {
      gives = λ t owned told by. ap (map_error of) (h.gives t owned told by);
      cause = λ is. absurd (no_err _ _ is);
      unfaulted = h.unfaulted;
      owners_unfaulted = h.owners_unfaulted;
      keeps = h.keeps;
      owners = h.owners;
    }
as_refused w o w0 w1 o0 o1 of fault memory only found (Err e) h =
    record {
      gives = λ t owned told by. gives_as of fault memory e (found t owned) (h.gives t owned told by);
      cause = λ is. h.cause (ap Err (only e (err_is _ _ is)));
      unfaulted = unless_as of fault e h.unfaulted;
      owners_unfaulted = unless_as of fault e h.owners_unfaulted;
      keeps = h.keeps;
      owners = h.owners;
    }

-- ---- one call behind another

-- a call that asks no owners
pub with_owners : {W O A E : Type 0} (w : WorktreeOf W) (o : OwnersOf O) (w0 w1 : W) (o0 : O) (fault memory : E) (found : Names → Result A E) (answer : Result A E)
    → FindsInTreeByErrors w w0 w1 fault memory found answer → FindsInTreeAndOwnersByErrors w o w0 w1 o0 o0 fault memory (λ t owned. found t) answer
with_owners w o w0 w1 o0 fault memory found answer h =
    record {
      gives = λ t owned told by. h.gives t told;
      cause = λ is. inl (h.cause is);
      unfaulted = h.unfaulted;
      owners_unfaulted = unless_any fault answer refl;
      keeps = h.keeps;
      owners = record { told = refl; faults = omega arith };
    }

-- a refusal of the first is one of the whole
pub stops : {W O A B E : Type 0} (w : WorktreeOf W) (o : OwnersOf O) (w0 w1 : W) (o0 o1 : O) (fault memory e : E) (found : Names → OwnershipByPath → Result A E) (whole : Names → OwnershipByPath → Result B E)
    → ((t : Names) (owned : OwnershipByPath) → found t owned ≡ Err e → whole t owned ≡ Err e)
    → FindsInTreeAndOwnersByErrors {A = A} w o w0 w1 o0 o1 fault memory found (Err e) → FindsInTreeAndOwnersByErrors {A = B} w o w0 w1 o0 o1 fault memory whole (Err e)
stops w o w0 w1 o0 o1 fault memory e found whole to h =
    record {
      gives = λ t owned told by. passes fault memory e (found t owned) (whole t owned) (h.gives t owned told by) (to t owned);
      cause = λ is. h.cause (same_err _ _ is);
      unfaulted = h.unfaulted;
      owners_unfaulted = h.owners_unfaulted;
      keeps = h.keeps;
      owners = h.owners;
    }

-- where the first gives something, the whole is what the next finds
pub goes_on : {W O A B E : Type 0} (w : WorktreeOf W) (o : OwnersOf O) (w0 w1 w2 : W) (o0 o1 o2 : O) (fault memory : E) (given : A)
    (found : Names → OwnershipByPath → Result A E) (next whole : Names → OwnershipByPath → Result B E) (answer : Result B E)
    → ((t : Names) (owned : OwnershipByPath) → found t owned ≡ Ok given → whole t owned ≡ next t owned)
    → FindsInTreeAndOwnersByErrors w o w0 w1 o0 o1 fault memory found (Ok given) → FindsInTreeAndOwnersByErrors w o w1 w2 o1 o2 fault memory next answer
    → FindsInTreeAndOwnersByErrors w o w0 w2 o0 o2 fault memory whole answer
goes_on {B = B} {E = E} w o w0 w1 w2 o0 o1 o2 fault memory given found next whole answer same first then =
    record {
      gives = λ t owned told by.
          subst (λ (r : Result B E). IsFoundOrFailed fault memory answer r) (sym (same t owned (first.gives t owned told by)))
          (then.gives t owned (first.keeps.tree ∙ told) (first.owners.told ∙ by));
      cause = λ is. elim (then.cause is) [
        | inl rose ↦ inl (subst (λ (n : ℕ). CountIncreasedOrSaturated n (w.faults w2)) first.unfaulted rose)
        | inr rose ↦ inr (subst (λ (n : ℕ). CountIncreasedOrSaturated n (o.faults o2)) first.owners_unfaulted rose)
      ];
      unfaulted = unless_weaker fault answer (λ is. is ∙ first.unfaulted) then.unfaulted;
      owners_unfaulted = unless_weaker fault answer (λ is. is ∙ first.owners_unfaulted) then.owners_unfaulted;
      keeps = asks_then w w0 w1 w2 first.keeps then.keeps;
      owners = owners_then o o0 o1 o2 first.owners then.owners;
    }
