-- What is asked of the rules about a path, once a look at the worktree came before.
use Rattle.std.proofs.Common.{◌≡◌, ℕ, List, Option, Ok, Err, refl, arith}
use Rattle.std.specs.Prelude.{Result}
use Rattle.gitbase_core.specs.declared.find.Find.{Ghosts as FindOf}
use Rattle.worktree_fs.specs.Causes.{CountIncreasedOrSaturated}
use Rattle.worktree_fs.specs.Kept.{KeepsTreeAndListCounts}
use Rattle.worktree_fs.specs.declared.worktree.Worktree.{Ghosts as WorktreeOf}
use Rattle.worktree_stack.specs.Stacked.{StackModel}
use Rattle.dir_classify.specs.declared.error.Error.{Error}
use Rattle.dir_classify.specs.Classes.{AsksRulesAboutPath}
use Rattle.dir_classify.specs.Excludes.{setup_of_optional_stack}
use Rattle.dir_classify.specs.Kept.{KeepsRulesInStep}
use Rattle.dir_classify.proofs.Keeping.{asks-then, at-most-later, increased-later, tells-then}
use Rattle.dir_classify.proofs.Refusals.{OnFault-weaker}
use Rattle.dir_classify.proofs.Stopped.{stopped-later}

module _ {W F : Type 0} (w : WorktreeOf W) (f : FindOf F) (w0 w1 w2 : W) (o0 o1 : F) (old new : Option StackModel) (most : ℕ) (path : List ℕ) where
  rules-later : KeepsTreeAndListCounts w w0 w1 → KeepsRulesInStep w f w1 o0 old new → KeepsRulesInStep w f w0 o0 old new
  rules-later first later =
      record {
        made = later.made;
        in_step = λ s tells step. later.in_step s (tells-then (w.told w0) (w.told w1) (f.holds o0) (setup_of_optional_stack old) s first.tree tells) step;
      }

  pub asking-later : {T : Type 0} (result : Result T Error) → KeepsTreeAndListCounts w w0 w1 → w.reads w1 ≡ w.reads w0
      → AsksRulesAboutPath w f w1 w2 o0 o1 old new most path result → AsksRulesAboutPath w f w0 w2 o0 o1 old new most path result
  asking-later (Ok x) first unread later =
      record {
        about = tt;
        refused = λ s tells. tt;
        stopped = tt;
        cause = tt;
        keeps = asks-then w w0 w1 w2 first later.keeps;
        store = later.store;
        unmapped = later.unmapped;
        rules = rules-later first later.rules;
        reads = at-most-later most path (w.reads w0) (w.reads w1) (w.reads w2) o0 o1 old new (Ok x) unread later.reads;
      }
  asking-later (Err e) first unread later =
      record {
        about = later.about;
        refused = λ s tells. later.refused s (tells-then (w.told w0) (w.told w1) (f.holds o0) (setup_of_optional_stack old) s first.tree tells);
        stopped = stopped-later (w.told w0) (w.told w1) (f.holds o0) (f.holds o0) (w.faults w0) (w.faults w1) (w.faults w2) (f.faults o0) (f.faults o0) (f.faults o1) path old new e first.tree refl first.faults (omega arith) later.stopped;
        cause =
            OnFault-weaker (CountIncreasedOrSaturated (w.faults w1) (w.faults w2)) (CountIncreasedOrSaturated (f.faults o0) (f.faults o1)) (CountIncreasedOrSaturated (w.faults w0) (w.faults w2)) (CountIncreasedOrSaturated (f.faults o0) (f.faults o1)) e
            (increased-later (w.faults w0) (w.faults w1) (w.faults w2) first.faults) (λ x. x) later.cause;
        keeps = asks-then w w0 w1 w2 first later.keeps;
        store = later.store;
        unmapped = later.unmapped;
        rules = rules-later first later.rules;
        reads = at-most-later most path (w.reads w0) (w.reads w1) (w.reads w2) o0 o1 old new (Err e) unread later.reads;
      }
