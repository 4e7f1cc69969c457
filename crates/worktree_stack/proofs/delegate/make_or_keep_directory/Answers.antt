use Rattle.std.proofs.Common.{◌∙◌, ◌≡◌, ◌+◌, inl, inr, sym, ap, subst, arith, Some, false}
use Rattle.gitbase_core.specs.Causes.{saturating_increment as one_more}
use Rattle.worktree_fs.specs.Answers.{kind_of_lookup}
use Rattle.worktree_fs.specs.Tree.{look, resolution_of_path}
use Rattle.worktree_fs.specs.declared.answers.MakeAnswer.TheVariants as makes
use Rattle.worktree_stack.specs.Checkout.{CountsAtMostOneMkdir, EqualsDirectoryOutcome, EnsuresDirectory, outcome_of_make_dir, outcome_by_existing_kind, outcome_by_make_answer}
use Rattle.worktree_stack.proofs.CheckOut.Preparing.{prepares-behind, exists-stays}
use Rattle.worktree_stack.proofs.delegate.make_or_keep_directory.Goals as goal

pub returns-in-Exists : goal.returns-in-Exists
returns-in-Exists g c =
    let W = g.W.Worktree in
    let a = c.args in
    let made = c.in_ok-answer.ensures in
    prepares-behind W a.path.now a.unlink_on_collision _ _ made.changes made.unfaulted
    (λ t told.
    let p = outcome_of_make_dir (W.precomposes a.worktree.now) t a.path.now a.mkdir_calls.now in
    let is : EqualsDirectoryOutcome p (W.told c.make_dir.new.worktree) c.make_dir.new.mkdir_calls c.in_ok-answer.answer = made.done t told in
    let exists : makes.Exists ≡ p.answer = sym c.in-Exists.is ∙ is.answer_is in (
      is.tree_is ∙ ap Some (exists-stays (W.precomposes a.worktree.now) t (resolution_of_path t a.path.now false) (sym exists)),
      ap (λ b. outcome_by_existing_kind a.unlink_on_collision b t a.path.now c.make_dir.new.mkdir_calls (kind_of_lookup (look t a.path.now false))) made.changes.precomposes
          ∙ ap (λ n. outcome_by_existing_kind a.unlink_on_collision (W.precomposes a.worktree.now) t a.path.now n (kind_of_lookup (look t a.path.now false))) is.calls_are
          ∙ ap (outcome_by_make_answer a.unlink_on_collision (W.precomposes a.worktree.now) t a.path.now p) exists,
    ))
    made.calls (omega (arith, made.most_calls))
    (λ n is. elim is [
      | inl e ↦ inl (e ∙ made.asked)
      | inr e ↦ inr (e ∙ ap one_more made.asked)
    ])
    (subst (λ n. EnsuresDirectory W c.make_dir.new.worktree c.keep_or_replace_existing_node.new.worktree a.unlink_on_collision a.path.now
    (λ t. outcome_by_existing_kind a.unlink_on_collision (W.precomposes c.make_dir.new.worktree) t a.path.now c.make_dir.new.mkdir_calls (kind_of_lookup (look t a.path.now false)))
    c.make_dir.new.mkdir_calls c.keep_or_replace_existing_node.new.mkdir_calls (c.make_dir.new.mkdir_calls + 1) (one_more n) (CountsAtMostOneMkdir c.make_dir.new.mkdir_calls) c.keep_or_replace_existing_node.result)
    made.asked c.keep_or_replace_existing_node.ensures)
