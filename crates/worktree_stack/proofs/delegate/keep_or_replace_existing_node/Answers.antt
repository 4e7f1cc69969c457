use Rattle.std.proofs.Common.{◌∙◌, refl, sym, ap, inl, inr, arith, Some}
use Rattle.std.proofs.lemmas.Result.{err_from_is_err_and}
use Rattle.worktree_fs.specs.declared.answers.MakeAnswer.TheVariants as makes
use Rattle.worktree_stack.specs.Checkout.{outcome_of_make_dir, outcome_of_unlink_then_make, outcome_by_existing_kind}
use Rattle.worktree_stack.proofs.CheckOut.Preparing.{prepares-behind, prepares-more, prepares-nothing, met-error, directory-leads, in-the-way, some-same}
use Rattle.worktree_stack.proofs.delegate.keep_or_replace_existing_node.Goals as goal

pub returns-in_err-kind : goal.returns-in_err-kind
returns-in_err-kind g c =
    let p = err_from_is_err_and c.from_residual.result c.from_residual.ensures.1 in
    let now = c.in_err-kind.ensures in
    rw (p.1, p.2)
    (record {
      done = λ t told. tt;
      there = λ t told keeps. tt;
      partly = λ t told. inl (now.tree ∙ told);
      cause = λ is. now.cause (met-error _ _ is);
      unfaulted = tt;
      calls = omega arith;
      most_calls = omega arith;
      asked = inl refl;
      changes = record { untold = λ none. now.tree ∙ none; faults = now.faults; list_faults = now.list_faults; reads = now.reads; lists = now.lists; precomposes = now.precomposes };
      changed = λ t after told told1 keeps. inl (some-same (sym told1 ∙ now.tree ∙ told));
    })

pub returns-in-Directory : goal.returns-in-Directory
returns-in-Directory g c =
    let W = g.W.Worktree in
    let a = c.args in
    let now = c.in_ok-kind.ensures in
    prepares-nothing W a.path.now a.mkdir_calls.now makes.Made a.unlink_on_collision _
    (record { untold = λ none. now.tree ∙ none; faults = now.faults; list_faults = now.list_faults; reads = now.reads; lists = now.lists; precomposes = now.precomposes })
    now.unfaulted now.tree
    (λ t told. ap (outcome_by_existing_kind a.unlink_on_collision (W.precomposes a.worktree.now) t a.path.now a.mkdir_calls.now) (sym (now.answer t told) ∙ c.in-Some.is ∙ ap Some c.in-Directory.is))
    (λ t told is. directory-leads t a.path.now (sym (now.answer t told) ∙ c.in-Some.is ∙ ap Some c.in-Directory.is))

pub returns-in_default : goal.returns-in_default
returns-in_default g c =
    let W = g.W.Worktree in
    let a = c.args in
    let now = c.in_ok-kind.ensures in
    prepares-behind W a.path.now a.unlink_on_collision _ _
    (record { untold = λ none. now.tree ∙ none; faults = now.faults; list_faults = now.list_faults; reads = now.reads; lists = now.lists; precomposes = now.precomposes })
    now.unfaulted
    (λ t told. (
      now.tree ∙ told,
      ap (λ b. outcome_of_make_dir b t a.path.now a.mkdir_calls.now) now.precomposes
          ∙ ap (outcome_by_existing_kind a.unlink_on_collision (W.precomposes a.worktree.now) t a.path.now a.mkdir_calls.now) (sym c.in_default.is ∙ now.answer t told),
    ))
    (omega arith) (omega arith) (λ n is. inr is)
    (prepares-more W a.path.now a.unlink_on_collision _ c.make_dir.ensures)

pub returns-in_default-kind : goal.returns-in_default-kind
returns-in_default-kind g c =
    let W = g.W.Worktree in
    let a = c.args in
    let now = c.in_ok-kind.ensures in
    prepares-behind W a.path.now a.unlink_on_collision _ _
    (record { untold = λ none. now.tree ∙ none; faults = now.faults; list_faults = now.list_faults; reads = now.reads; lists = now.lists; precomposes = now.precomposes })
    now.unfaulted
    (λ t told. (
      now.tree ∙ told,
      ap (λ b. outcome_of_unlink_then_make a.unlink_on_collision b t a.path.now a.mkdir_calls.now) now.precomposes
          ∙ in-the-way a.unlink_on_collision (W.precomposes a.worktree.now) t a.path.now a.mkdir_calls.now _ c.in_default-kind.not-Directory
          ∙ ap (outcome_by_existing_kind a.unlink_on_collision (W.precomposes a.worktree.now) t a.path.now a.mkdir_calls.now) (sym c.in-Some.is ∙ now.answer t told),
    ))
    (omega arith) (omega arith) (λ n is. is) c.replace_with_directory_if_allowed.ensures
