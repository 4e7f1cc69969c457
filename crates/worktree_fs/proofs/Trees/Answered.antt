-- What the calls of a tree in memory say of a directory that was made, and of a node that was removed.
use Rattle.std.proofs.Common.{◌≡◌, Bool, true, false, Result, Ok, Err, List, ℕ, IfOk, sym, subst, if◌then◌else◌}
use Rattle.worktree_fs.specs.Tree.{Names, directory, resolution_of_path}
use Rattle.worktree_fs.specs.Naming.{IsValidTree}
use Rattle.worktree_fs.specs.MadeAndRemoved.{AnswersMakeInExistingParent, NodeRemovedAtPath}
use Rattle.worktree_fs.specs.Changes.{answer_to_make_dir, answer_to_remove_node, entries_after_remove_node}
use Rattle.worktree_fs.specs.declared.answers.ReadError.{ReadError}
use Rattle.worktree_fs.specs.declared.answers.ReadError.TheVariants as errors
use Rattle.worktree_fs.specs.declared.answers.RemoveAnswer.{RemoveAnswer}
use Rattle.worktree_fs.specs.declared.answers.RemoveAnswer.TheVariants as removes
use Rattle.worktree_fs.specs.declared.answers.MakeAnswer.{MakeAnswer}
use Rattle.worktree_fs.proofs.Trees.Changed.{made-in, removes-gone}

pub inside_of : (composes : Bool) (t : Names) (path : List ℕ) → IsValidTree (directory t) → (r : Result MakeAnswer ReadError) → IfOk r (λ answer. answer ≡ answer_to_make_dir composes t (resolution_of_path t path false)) → IfOk r (AnswersMakeInExistingParent composes t path)
inside_of composes t path tree (Ok answer) is = subst (AnswersMakeInExistingParent composes t path) (sym is) (made-in composes t path tree)
inside_of composes t path tree (Err error) is = tt

-- a removal that was planned to fail, or was made
pub gone_of : (t : Names) (path : List ℕ) → IsValidTree (directory t) → (planned : Bool) (r : Result RemoveAnswer ReadError) (now : Names)
    → r ≡ (if planned then Err errors.Fault else Ok (answer_to_remove_node (resolution_of_path t path false))) → now ≡ (if planned then t else entries_after_remove_node t (resolution_of_path t path false))
    → r ≡ Ok removes.Removed → NodeRemovedAtPath path t now
gone_of t path tree true r now answer is removed = absurd (clash answer removed)
  where
    clash : r ≡ Err errors.Fault → r ≡ Ok removes.Removed → ⊥
    clash e f = cc (e, f)
gone_of t path tree false r now answer is removed = subst (NodeRemovedAtPath path t) (sym is) (removes-gone t path tree (same answer removed))
  where
    same : r ≡ Ok (answer_to_remove_node (resolution_of_path t path false)) → r ≡ Ok removes.Removed → answer_to_remove_node (resolution_of_path t path false) ≡ removes.Removed
    same e f = cc (e, f)
