-- A component of a path that is tested, and a directory that is to be there.
use Rattle.std.specs.Prelude.{◌≡◌, ℕ, Bool, true, if◌then◌else◌, List, Option, Some, None, Result, Ok, Err, OnOk, IfErr}
use Rattle.std.proofs.Common.{inl, refl, sym, ap, ◌∙◌, subst, arith}
use Rattle.worktree_fs.specs.Paths.{root_joined_with_relative, slash_joined_components}
use Rattle.worktree_fs.specs.Tree.{Names}
use Rattle.worktree_fs.specs.declared.answers.MakeAnswer.TheVariants as makes
use Rattle.worktree_fs.specs.declared.worktree.Worktree.{Ghosts as WorktreeOf}
use Rattle.worktree_stack.specs.declared.error.AtPathError.{AtPathError}
use Rattle.worktree_stack.specs.declared.error.AtPathError.TheVariants as errors
use Rattle.worktree_stack.specs.declared.validate.ComponentError.{ComponentError}
use Rattle.worktree_stack.specs.Checkout.{DirectoryOutcome, EqualsDirectoryOutcome, IsTreeAfterEnsuringDirectory, IsLastNameComposed, CreatesLeadingDirectory, ExplainsMissingDirectory, LeadsToDirectory, outcome_of_ensuring_directory}
use Rattle.worktree_stack.specs.ChecksOut.{ExplainsRefusedComponent}
use Rattle.worktree_stack.specs.GoesOn.{ValidatesAndMakesCurrentComponent, with_mkdir_count}
use Rattle.worktree_stack.specs.Making.{CheckoutLookupOptions, must_make_directory, mkdir_count_of_stack, outcome_of_pushed_component, outcome_before_checkout}
use Rattle.worktree_stack.specs.Stacked.{StackModel}
use Rattle.worktree_stack.specs.Validate.{component_error, ok_unless}
use Rattle.worktree_stack.proofs.CheckOut.Preparing.{some-same}

never-err : (why : ComponentError) → ◌≡◌ {A = Result (Unit {0}) ComponentError} (Ok tt) (Err why) → ⊥
never-err why e = cc e

err-same : (a b : ComponentError) → ◌≡◌ {A = Result (Unit {0}) ComponentError} (Err a) (Err b) → a ≡ b
err-same a b e = cc e

-- what is answered to a test tells what speaks against a component
pub error-fits : (error : Option ComponentError) (r : Result (Unit {0}) ComponentError) (why : ComponentError) → r ≡ ok_unless error → r ≡ Err why → error ≡ Some why
error-fits None r why e is = absurd (never-err why (sym e ∙ is))
error-fits (Some error) r why e is = ap Some (err-same error why (sym e ∙ is))

pub ok-fits : (error : Option ComponentError) (r : Result (Unit {0}) ComponentError) → r ≡ ok_unless error → ((why : ComponentError) → r ≡ Err why → ⊥) → error ≡ None
ok-fits None r e ok = refl
ok-fits (Some error) r e ok = absurd (ok error e)

module _ {W : Type 0} (w : WorktreeOf W) (way : CheckoutLookupOptions) (is_link protects : Bool) (name : List ℕ) (is_last : Bool) where
  -- a component that is refused
  pub readies-bad : (w0 : W) (s : StackModel) (why : ComponentError) → component_error name is_link protects ≡ Some why
      → ValidatesAndMakesCurrentComponent w w0 w0 way is_link protects name is_last s s (Err (errors.Component why))
  readies-bad w0 s why bad =
      record {
        same = refl;
        tested = tt;
        made = λ t told. tt;
        there = λ t told wanted keeps. tt;
        refused = (bad, refl, refl);
        unfaulted = tt;
        least = omega arith;
        most = omega arith;
        changes = record { untold = λ none. none; faults = omega arith; list_faults = refl; reads = refl; lists = refl; precomposes = refl };
        changed = λ t t1 told told1 keeps. inl (some-same (sym told1 ∙ told));
      }

  -- a directory that is to be there
  pub readies-made : {w0 w1 : W} (old new : StackModel) (path : List ℕ) (calls0 calls1 : ℕ) (r : Result (Unit {0}) AtPathError)
      → component_error name is_link protects ≡ None → must_make_directory way is_last ≡ true → way.composes ≡ w.precomposes w0
      → path ≡ root_joined_with_relative way.root (slash_joined_components old.current) → calls0 ≡ mkdir_count_of_stack old → new ≡ with_mkdir_count old calls1
      → CreatesLeadingDirectory w w0 w1 way.unlinks path calls0 calls1 r → ValidatesAndMakesCurrentComponent w w0 w1 way is_link protects name is_last old new r
  readies-made {w0} {w1} old new path calls0 calls1 r fine wanted composes path_is calls0_is same creates =
      subst (λ (s : StackModel). ValidatesAndMakesCurrentComponent w w0 w1 way is_link protects name is_last old s r) (sym same)
      (record {
        same = refl;
        tested = each r;
        made = λ t told. over r (λ (is : EqualsDirectoryOutcome (outcome_of_ensuring_directory way.unlinks (w.precomposes w0) t path calls0) (w.told w1) calls1 makes.Made). subst (λ (p : DirectoryOutcome). EqualsDirectoryOutcome p (w.told w1) calls1 makes.Made) (sym (here t)) is) (creates.made t told);
        there = λ t told is keeps. over r (λ (leads : LeadsToDirectory (outcome_of_ensuring_directory way.unlinks (w.precomposes w0) t path calls0).tree path).
            subst (λ (p : List ℕ). LeadsToDirectory (outcome_of_pushed_component way (outcome_before_checkout t (mkdir_count_of_stack old)) (slash_joined_components old.current) is_last).tree p) path_is (subst (λ (p : DirectoryOutcome). LeadsToDirectory p.tree path) (sym (here t)) leads))
            (creates.there t told (kept keeps));
        refused = refused r creates.refused;
        unfaulted = creates.unfaulted;
        least = omega (arith, creates.calls, calls0_is);
        most = omega (arith, creates.most_calls, calls0_is, ap {B = ℕ} (λ b. if b then 1 else 0) wanted);
        changes = creates.changes;
        changed = λ t t1 told told1 keeps. subst (λ (p : List ℕ). IsTreeAfterEnsuringDirectory way.unlinks p t t1) path_is (creates.changed t t1 told told1 (kept keeps));
      })
    where
      here : (t : Names) → outcome_of_pushed_component way (outcome_before_checkout t (mkdir_count_of_stack old)) (slash_joined_components old.current) is_last ≡ outcome_of_ensuring_directory way.unlinks (w.precomposes w0) t path calls0
      here t =
          ap (λ b. if b then outcome_of_ensuring_directory way.unlinks way.composes t (root_joined_with_relative way.root (slash_joined_components old.current)) (mkdir_count_of_stack old) else outcome_before_checkout t (mkdir_count_of_stack old)) wanted
          ∙ ap (λ b. outcome_of_ensuring_directory way.unlinks b t (root_joined_with_relative way.root (slash_joined_components old.current)) (mkdir_count_of_stack old)) composes
          ∙ ap (λ p. outcome_of_ensuring_directory way.unlinks (w.precomposes w0) t p (mkdir_count_of_stack old)) (sym path_is)
          ∙ ap (outcome_of_ensuring_directory way.unlinks (w.precomposes w0) t path) (sym calls0_is)

      kept : IsLastNameComposed way.composes (root_joined_with_relative way.root (slash_joined_components old.current)) → IsLastNameComposed (w.precomposes w0) path
      kept keeps = subst (λ b. IsLastNameComposed b path) composes (subst (IsLastNameComposed way.composes) (sym path_is) keeps)

      each : (r : Result (Unit {0}) AtPathError) → OnOk r (component_error name is_link protects ≡ None)
      each (Ok v) = fine
      each (Err e) = tt

      over : {P Q : Type 0} (r : Result (Unit {0}) AtPathError) → (P → Q) → OnOk r P → OnOk r Q
      over (Ok v) g p = g p
      over (Err e) g p = tt

      at-full : (e : AtPathError) → ExplainsMissingDirectory w w0 w1 way.unlinks path calls0 calls1 e → ExplainsMissingDirectory w w0 w1 way.unlinks (root_joined_with_relative way.root (slash_joined_components old.current)) (mkdir_count_of_stack old) calls1 e
      at-full e n = subst (λ p. ExplainsMissingDirectory w w0 w1 way.unlinks p (mkdir_count_of_stack old) calls1 e) path_is (subst (λ k. ExplainsMissingDirectory w w0 w1 way.unlinks path k calls1 e) calls0_is n)

      refused : (r : Result (Unit {0}) AtPathError) → IfErr r (ExplainsMissingDirectory w w0 w1 way.unlinks path calls0 calls1)
          → IfErr r (ExplainsRefusedComponent w w0 w1 way is_link protects (mkdir_count_of_stack old) calls1 name (root_joined_with_relative way.root (slash_joined_components old.current)) is_last)
      refused (Ok v) n = tt
      refused (Err errors.NotNormal) n = absurd n.1
      refused (Err (errors.Component why)) n = absurd n.1
      refused (Err (errors.Collision at)) n = (fine, wanted, at-full (errors.Collision at) n)
      refused (Err (errors.Directory at why)) n = (fine, wanted, at-full (errors.Directory at why) n)
      refused (Err (errors.RulesFile at why)) n = absurd n.1
      refused (Err (errors.Blob id why)) n = absurd n.1
      refused (Err errors.OutOfMemory) n = (fine, wanted, at-full errors.OutOfMemory n)
