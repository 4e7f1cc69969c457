-- What a step of a lookup tells of the stack before it.
use Rattle.std.specs.Prelude.{◌≡◌, ℕ, zero, suc, ◌+◌, Bool, false, List, [], ◌∷◌, ◌++◌, replicate, Option, Some, Result, Ok, Err, OnOk, OnErr}
use Rattle.std.proofs.Common.{refl, sym, ap, ◌∙◌, subst, arith}
use Rattle.gitbase_core.specs.Objects.{ObjectsById}
use Rattle.worktree_fs.specs.Tree.{Names}
use Rattle.worktree_fs.specs.Paths.{slash_joined_components}
use Rattle.worktree_fs.specs.PathStack.{push, push_directory, pop_directory, parent_of_deepest_directory, deepest_components_or_root, pushed_directory_paths, delegate_calls_of_component}
use Rattle.worktree_stack.specs.declared.statistics.Statistics.{Statistics}
use Rattle.worktree_stack.specs.Counted.{delegate_counts_after_call, rules_counts_of_kind}
use Rattle.worktree_stack.specs.Placed.{CountsAllReadings}
use Rattle.worktree_stack.specs.Excludes.{proper_ancestor_directories}
use Rattle.worktree_stack.specs.Stacked.{StackModel, IsInStepWithTree, setup_of_stack, pushed_directories}
use Rattle.worktree_stack.specs.declared.error.AtPathError.{AtPathError}
use Rattle.worktree_stack.specs.Steps.{CountsReadRulesOfKind, CountsReadRules, CarriesOutCalls, StopsLookupByError}
use Rattle.worktree_stack.specs.Reading.{TreeAndObjects, RulesKind, of_attributes, of_ignore, readings_of_directory}
use Rattle.worktree_stack.proofs.Lookup.Carrying.{read-none, read-one, carries-then, stops-after}
use Rattle.worktree_stack.proofs.Lookup.InStep.{directories-up, directories-below}
use Rattle.worktree_stack.specs.Lookups.{stack_after_pushing_component}

pub on_ok_said : {T E A : Type 0} (r : Result T E) (x y z : A) → y ≡ z → OnOk r (x ≡ y) → OnOk r (x ≡ z)
on_ok_said (Ok v) x y z e said = said ∙ e
on_ok_said (Err v) x y z e said = tt

pub on_err : {T E P : Type 0} (r : Result T E) → P → OnErr r P
on_err (Ok v) p = tt
on_err (Err e) p = p

pub in_step_below : (s : TreeAndObjects) (old new : StackModel) (name : List ℕ) → new ≡ stack_after_pushing_component old name → IsInStepWithTree s old → IsInStepWithTree s new
in_step_below s old new name stepped_is in_step =
    let there : IsInStepWithTree s (stack_after_pushing_component old name) = in_step in
    subst (IsInStepWithTree s) (sym stepped_is) there

-- a step on the way reads nothing
unmoved : (kind : RulesKind) (s : Statistics) → rules_counts_of_kind kind (record s { delegate = delegate_counts_after_call s.delegate pop_directory }) ≡ rules_counts_of_kind kind s
unmoved of_attributes s = refl
unmoved of_ignore s = refl

-- ---- steps that are carried out

module _ (told : Option Names) (holds : Option ObjectsById) where
  -- the deepest directory is popped
  pub carries-pop : (old new : StackModel) → setup_of_stack new ≡ setup_of_stack old → new.at ≡ parent_of_deepest_directory old.at
      → new.statistics ≡ record old.statistics { delegate = delegate_counts_after_call old.statistics.delegate pop_directory } → CarriesOutCalls told holds (pop_directory ∷ []) old new
  carries-pop old new made at counts =
      record {
        setup = made;
        left = ap pushed_directory_paths at ∙ directories-up old.at;
        counted = ap (λ (s : Statistics). s.delegate) counts;
        read = λ kind. same kind (none kind);
      }
    where
      none : CountsReadRules told holds (setup_of_stack old) [] old.statistics new.statistics
      none = read-none told holds (setup_of_stack old) old.statistics new.statistics (λ kind. ap (rules_counts_of_kind kind) counts ∙ unmoved kind old.statistics)

      same : (kind : RulesKind) → CountsReadRulesOfKind told holds kind (setup_of_stack old) [] (rules_counts_of_kind kind old.statistics) (rules_counts_of_kind kind new.statistics)
          → CountsReadRulesOfKind told holds kind (setup_of_stack old) (pop_directory ∷ []) (rules_counts_of_kind kind old.statistics) (rules_counts_of_kind kind new.statistics)
      same kind n = record { tried = n.tried; buffers = n.buffers; most_buffers = n.most_buffers; files = n.files; most_files = n.most_files; exact = n.exact }

  -- a path one component below the deepest directory is pushed
  pub carries-stepped : (s s' : StackModel) (name path : List ℕ) (is_last : Bool) → s' ≡ stack_after_pushing_component s name → CarriesOutCalls told holds (push path is_last ∷ []) s s'
  carries-stepped s s' name path is_last stepped_is =
      let there : CarriesOutCalls told holds (push path is_last ∷ []) s (stack_after_pushing_component s name) =
      record {
        setup = refl;
        left = refl;
        counted = refl;
        read = λ kind. stepped-read kind;
      } in
      subst (λ (x : StackModel). CarriesOutCalls told holds (push path is_last ∷ []) s x) (sym stepped_is) there
    where
      stepped-read : (kind : RulesKind) → CountsReadRulesOfKind told holds kind (setup_of_stack s) (push path is_last ∷ []) (rules_counts_of_kind kind s.statistics) (rules_counts_of_kind kind (stack_after_pushing_component s name).statistics)
      stepped-read of_attributes = record { tried = refl; buffers = omega arith; most_buffers = omega arith; files = omega arith; most_files = omega arith; exact = λ t told_is. refl }
      stepped-read of_ignore = record { tried = refl; buffers = omega arith; most_buffers = omega arith; files = omega arith; most_files = omega arith; exact = λ t told_is. refl }

  -- that path is pushed as a directory
  pub carries-directory : (old new : StackModel) → pushed_directories old.at ≡ proper_ancestor_directories old.current → setup_of_stack new ≡ setup_of_stack old → new.at ≡ Some old.current
      → new.statistics.delegate ≡ delegate_counts_after_call old.statistics.delegate (push_directory (slash_joined_components old.current))
      → CountsAllReadings told holds (readings_of_directory (setup_of_stack old) (slash_joined_components old.current)) old.statistics new.statistics
      → CarriesOutCalls told holds (push_directory (slash_joined_components old.current) ∷ []) old new
  carries-directory old new above made at counted read =
      record { setup = made; left = ap pushed_directory_paths at ∙ directories-below old.at old.current above; counted = counted; read = read-one told holds (setup_of_stack old) (slash_joined_components old.current) old.statistics new.statistics read }

  -- a directory below the deepest one, by both of its calls
  pub carries-below : (s s' new : StackModel) (name : List ℕ) → s' ≡ stack_after_pushing_component s name → CarriesOutCalls told holds (push_directory (slash_joined_components s'.current) ∷ []) s' new
      → CarriesOutCalls told holds (delegate_calls_of_component (deepest_components_or_root s.at) name false) s new
  carries-below s s' new name stepped_is carries =
      let path : List ℕ = slash_joined_components (deepest_components_or_root s.at ++ name ∷ []) in
      carries-then told holds (push path false ∷ []) (push_directory path ∷ []) s s' new (carries-stepped s s' name path false stepped_is)
      (subst (λ (p : List ℕ). CarriesOutCalls told holds (push_directory p ∷ []) s' new) (ap (λ (x : StackModel). slash_joined_components x.current) stepped_is) carries)

  pub stops-below : (TF SF : Type 0) (s s' new : StackModel) (name : List ℕ) → s' ≡ stack_after_pushing_component s name → (e : AtPathError) → StopsLookupByError told holds TF SF (push_directory (slash_joined_components s'.current) ∷ []) s' new e
      → StopsLookupByError told holds TF SF (delegate_calls_of_component (deepest_components_or_root s.at) name false) s new e
  stops-below TF SF s s' new name stepped_is e stops =
      let path : List ℕ = slash_joined_components (deepest_components_or_root s.at ++ name ∷ []) in
      stops-after told holds (delegate_calls_of_component (deepest_components_or_root s.at) name false) (push path false ∷ []) (push_directory path ∷ []) [] s s' new refl
      (carries-stepped s s' name path false stepped_is) (ap (λ (x : StackModel). x.is_dir) stepped_is) TF TF SF SF (λ f. f) (λ f. f) e
      (subst (λ (p : List ℕ). StopsLookupByError told holds TF SF (push_directory p ∷ []) s' new e) (ap (λ (x : StackModel). slash_joined_components x.current) stepped_is) stops)

-- so many and one more
pub replicate-more : {A : Type 0} (n : ℕ) (x : A) → replicate n x ++ x ∷ [] ≡ replicate (n + 1) x
replicate-more n x = go n ∙ ap (λ k. replicate k x) more
  where
    more : suc n ≡ n + 1
    more = omega arith

    go : (n : ℕ) → replicate n x ++ x ∷ [] ≡ replicate (suc n) x
    go zero = refl
    go (suc n) = ap (λ l. x ∷ l) (go n)
