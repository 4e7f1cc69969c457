use Rattle.std.proofs.Common.{inl, inr, Err, refl, sym, ap, subst}
use Rattle.worktree_fs.specs.declared.answers.MakeAnswer.{MakeAnswer}
use Rattle.worktree_fs.specs.declared.answers.ReadError.{ReadError}
use Rattle.worktree_stack.specs.declared.error.AtPathError.{AtPathError}
use Rattle.worktree_stack.specs.Checkout.{EqualsDirectoryOutcome, ExplainsMissingDirectory, outcome_of_ensuring_directory}
use Rattle.worktree_stack.proofs.CheckOut.Preparing.{creates-refused}
use Rattle.worktree_stack.proofs.delegate.create_leading_directory.Goals as goal

pub returns-in-Ok-Made : goal.returns-in-Ok-Made
returns-in-Ok-Made g c =
    let W = g.W.Worktree in
    let a = c.args in
    let met = c.in-Ok-Made in
    record {
      made = λ t told. subst (λ (answer : MakeAnswer). EqualsDirectoryOutcome (outcome_of_ensuring_directory a.unlink_on_collision (W.precomposes a.worktree.now) t a.path.now a.mkdir_calls.now) (W.told c.make_or_keep_directory.new.worktree) c.make_or_keep_directory.new.mkdir_calls answer)
          met.field-0-is (met.ensures.done t told);
      there = λ t told keeps. met.ensures.there t told keeps met.field-0-is;
      refused = tt;
      unfaulted = met.ensures.unfaulted;
      asked = c.make_or_keep_directory.ensures.asked;
      calls = c.make_or_keep_directory.ensures.calls;
      most_calls = c.make_or_keep_directory.ensures.most_calls;
      changes = c.make_or_keep_directory.ensures.changes;
      changed = c.make_or_keep_directory.ensures.changed;
    }

pub returns-in-Ok-Exists : goal.returns-in-Ok-Exists
returns-in-Ok-Exists g c =
    let W = g.W.Worktree in
    let a = c.args in
    let met = c.in-Ok-Exists in
    let refuses : AtPathError → Type 0 = ExplainsMissingDirectory W a.worktree.now c.make_or_keep_directory.new.worktree a.unlink_on_collision a.path.now a.mkdir_calls.now c.make_or_keep_directory.new.mkdir_calls in
    creates-refused W a.path.now c.collision_error.result c.make_or_keep_directory.ensures
    (elim c.collision_error.ensures [
      | inl is ↦ subst refuses (sym is) (
        c.make_or_keep_directory.ensures.asked,
        (
          refl,
          met.ensures.unfaulted,
          λ t told. subst (λ (answer : MakeAnswer). EqualsDirectoryOutcome (outcome_of_ensuring_directory a.unlink_on_collision (W.precomposes a.worktree.now) t a.path.now a.mkdir_calls.now) (W.told c.make_or_keep_directory.new.worktree) c.make_or_keep_directory.new.mkdir_calls answer)
              met.field-0-is (met.ensures.done t told),
        ),
      )
      | inr is ↦ subst refuses (sym is) (c.make_or_keep_directory.ensures.asked, λ t told. inr (met.ensures.done t told).tree_is)
    ])

pub returns-in-Ok-NoParent : goal.returns-in-Ok-NoParent
returns-in-Ok-NoParent g c =
    let W = g.W.Worktree in
    let a = c.args in
    let met = c.in-Ok-NoParent in
    let refuses : AtPathError → Type 0 = ExplainsMissingDirectory W a.worktree.now c.make_or_keep_directory.new.worktree a.unlink_on_collision a.path.now a.mkdir_calls.now c.make_or_keep_directory.new.mkdir_calls in
    creates-refused W a.path.now c.directory_error.result c.make_or_keep_directory.ensures
    (elim c.directory_error.ensures [
      | inl is ↦ subst refuses (sym is) (
        c.make_or_keep_directory.ensures.asked,
        (
          refl,
          met.ensures.unfaulted,
          λ t told. subst (λ (answer : MakeAnswer). EqualsDirectoryOutcome (outcome_of_ensuring_directory a.unlink_on_collision (W.precomposes a.worktree.now) t a.path.now a.mkdir_calls.now) (W.told c.make_or_keep_directory.new.worktree) c.make_or_keep_directory.new.mkdir_calls answer)
              met.field-0-is (met.ensures.done t told),
        ),
      )
      | inr is ↦ subst refuses (sym is) (c.make_or_keep_directory.ensures.asked, λ t told. inr (met.ensures.done t told).tree_is)
    ])

pub returns-in-Err-Fault : goal.returns-in-Err-Fault
returns-in-Err-Fault g c =
    let W = g.W.Worktree in
    let a = c.args in
    let met = c.in-Err-Fault in
    let refuses : AtPathError → Type 0 = ExplainsMissingDirectory W a.worktree.now c.make_or_keep_directory.new.worktree a.unlink_on_collision a.path.now a.mkdir_calls.now c.make_or_keep_directory.new.mkdir_calls in
    creates-refused W a.path.now c.directory_error-in-Err-Fault.result c.make_or_keep_directory.ensures
    (elim c.directory_error-in-Err-Fault.ensures [
      | inl is ↦ subst refuses (sym is) (c.make_or_keep_directory.ensures.asked, (refl, met.ensures.cause (ap (λ (e : ReadError). Err e) met.field-0-is), λ t told. met.ensures.partly t told))
      | inr is ↦ subst refuses (sym is) (c.make_or_keep_directory.ensures.asked, λ t told. inl (met.ensures.partly t told))
    ])

pub returns-in-Err-OutOfMemory : goal.returns-in-Err-OutOfMemory
returns-in-Err-OutOfMemory g c =
    creates-refused g.W.Worktree c.args.path.now _ c.make_or_keep_directory.ensures (c.make_or_keep_directory.ensures.asked, λ t told. inl (c.in-Err-OutOfMemory.ensures.partly t told))
