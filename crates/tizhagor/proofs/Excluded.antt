-- What is said of a listing of what rules exclude.
use Rattle.std.proofs.Common.{◌≡◌, inl, inr, Result, Ok, Err, IfErr, ap, refl}
use Rattle.ls_files.specs.Finds.{FindsInWorktree}
use Rattle.ls_files.specs.declared.excluded_error.ExcludedError.{ExcludedError}
use Rattle.ls_files.specs.declared.excluded_error.ExcludedError.TheVariants as excluding
use Rattle.ls_files.specs.declared.listed.Listed.{Listed}
use Rattle.worktree_fs.specs.declared.worktree.Worktree.{Ghosts as WorktreeOf}
use Rattle.worktree_fs.specs.Tree.{Names}
use Rattle.tizhagor.specs.declared.refusal.CommandRefusal.{CommandRefusal}
use Rattle.tizhagor.specs.declared.reply.Reply.{Reply}
use Rattle.tizhagor.specs.Checks.{FindsReplyOverTree}
use Rattle.tizhagor.specs.Excluding.{reply_of_ignored_index_listing, here_refusal_of_ignored_index_error}
use Rattle.tizhagor.specs.Refusals.{fault, MayComeBeforeSetupIsFound}

err_is : {A : Type 0} (a b : CommandRefusal) → ◌≡◌ {A = Result A CommandRefusal} (Err a) (Err b) → a ≡ b
err_is a b e = cc

no_err : {A : Type 0} (a : A) (e : CommandRefusal) → ◌≡◌ {A = Result A CommandRefusal} (Ok a) (Err e) → ⊥
no_err a e is = absurd cc

is_fault : (e : ExcludedError) → here_refusal_of_ignored_index_error e ≡ fault → e ≡ excluding.Fault
is_fault excluding.Unread is = absurd cc
is_fault excluding.Fault is = refl
is_fault excluding.OutOfMemory is = absurd cc

pub as_reply-is : (answer : Result Listed ExcludedError) → IfErr (reply_of_ignored_index_listing answer) MayComeBeforeSetupIsFound
as_reply-is (Ok made) = tt
as_reply-is (Err excluding.Unread) = tt
as_reply-is (Err excluding.Fault) = tt
as_reply-is (Err excluding.OutOfMemory) = tt

-- what is said by an answer
pub of_answer : {W : Type 0} (w : WorktreeOf W) (w0 w1 : W) (found : Names → Result Listed ExcludedError) (answer : Result Listed ExcludedError) → FindsInWorktree w w0 w1 found answer
    → FindsReplyOverTree w w0 w1 (λ t. reply_of_ignored_index_listing (found t)) (reply_of_ignored_index_listing answer)
of_answer w w0 w1 found (Ok made) h =
    record {
      gives = λ t told. ap reply_of_ignored_index_listing (h.gives t told);
      cause = λ is. absurd (no_err _ _ is);
      unfaulted = h.unfaulted;
      keeps = h.keeps;
    }
of_answer w w0 w1 found (Err e) h =
    record {
      gives = λ t told. elim (h.gives t told) [ inl is ↦ inl (ap reply_of_ignored_index_listing is) | inr (inl is) ↦ inr (inl (ap here_refusal_of_ignored_index_error is)) | inr (inr is) ↦ inr (inr (ap here_refusal_of_ignored_index_error is)) ];
      cause = λ is. h.cause (ap Err (is_fault e (err_is _ _ is)));
      unfaulted = tt;
      keeps = h.keeps;
    }
