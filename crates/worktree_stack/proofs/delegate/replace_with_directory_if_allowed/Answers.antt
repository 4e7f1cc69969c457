use Rattle.std.proofs.Common.{◌∙◌, sym, false, refl, inl, arith}
use Rattle.std.proofs.lemmas.Result.{err_from_is_err_and}
use Rattle.worktree_fs.specs.declared.answers.MakeAnswer.TheVariants as makes
use Rattle.worktree_stack.proofs.CheckOut.Preparing.{prepares-removed, prepares-nothing, met-error, some-same}
use Rattle.worktree_stack.proofs.delegate.replace_with_directory_if_allowed.Goals as goal

pub returns-then-not-unlink_on_collision : goal.returns-then-not-unlink_on_collision
returns-then-not-unlink_on_collision g c =
    let a = c.args in
    rw (c.if-not-unlink_on_collision.true)
    (prepares-nothing g.W.Worktree a.path.now a.mkdir_calls.now makes.Exists false _
    (record { untold = λ none. none; faults = omega arith; list_faults = refl; reads = refl; lists = refl; precomposes = refl })
    refl refl (λ t told. refl) (λ t told is. absurd (cc is)))

pub returns-in_err-remove_node : goal.returns-in_err-remove_node
returns-in_err-remove_node g c =
    let p = err_from_is_err_and c.from_residual.result c.from_residual.ensures.1 in
    let now = c.in_err-remove_node.ensures in
    rw (p.1, p.2)
    (record {
      done = λ t told. tt;
      there = λ t told keeps. tt;
      partly = λ t told. inl (now.kept ∙ told);
      cause = λ is. now.cause (met-error _ _ is);
      unfaulted = tt;
      calls = omega arith;
      most_calls = omega arith;
      asked = inl refl;
      changes = record { untold = now.untold; faults = now.faults; list_faults = now.list_faults; reads = now.reads; lists = now.lists; precomposes = now.precomposes };
      changed = λ t after told told1 keeps. inl (some-same (sym told1 ∙ now.kept ∙ told));
    })

pub returns : goal.returns
returns g c =
    let now = c.in_ok-remove_node.ensures in
    rw (c.if-not-unlink_on_collision.false)
    (prepares-removed g.W.Worktree c.args.path.now (λ t told. g.met.W.Worktree.is_tree c.args.worktree.now t told)
    (record { untold = now.untold; faults = now.faults; list_faults = now.list_faults; reads = now.reads; lists = now.lists; precomposes = now.precomposes })
    now.unfaulted now.removed c.make_dir.ensures)
