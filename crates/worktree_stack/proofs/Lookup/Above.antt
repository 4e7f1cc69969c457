-- The directories that a lookup pushes lie above its path.
use Rattle.std.specs.Prelude.{◌≡◌, ℕ, zero, suc, Bool, true, false, List, [], ◌∷◌, ◌++◌, length, drop, replicate, Option, Some, None}
use Rattle.std.proofs.Common.{refl, sym, ap, ◌∙◌, subst, append_assoc}
use Rattle.gitbase_core.specs.Objects.{ObjectsById}
use Rattle.worktree_fs.specs.Tree.{Names}
use Rattle.worktree_fs.specs.Paths.{slash_joined_components, is_nil, all_but_last}
use Rattle.worktree_fs.specs.PathStack.{DelegateCall, push, push_directory, pop_directory, deepest_components_or_root, shared_proper_ancestor_components, number_of_directories_to_pop, delegate_calls_to_push_root, delegate_calls_of_component, delegate_calls_of_components, delegate_calls_of_lookup}
use Rattle.worktree_fs.proofs.Paths.Fronts.{kept-rest}
use Rattle.worktree_stack.specs.declared.error.AtPathError.{AtPathError}
use Rattle.worktree_stack.specs.declared.statistics.Statistics.{Statistics}
use Rattle.worktree_stack.specs.Refused.{HoldsOfSomeAncestor, ExplainsLookupError}
use Rattle.worktree_stack.specs.Stacked.{StackModel, setup_of_stack}
use Rattle.worktree_stack.specs.Steps.{StopsAtRefusedDirectory, StopsLookupByError}
use Rattle.worktree_stack.proofs.Lookup.Descent.{above-some}
use Rattle.worktree_stack.proofs.Refusals.{on-weaker}

-- a directory is a proper ancestor of a path, or the root where the path is empty
record IsAbove (names : List (List ℕ)) (d : List ℕ) : Type 0 where
  ancestor : List (List ℕ)
  rest : List (List ℕ)
  above : all_but_last names ≡ ancestor ++ rest
  is : d ≡ slash_joined_components ancestor

abbrev AreAbove : List (List ℕ) → List DelegateCall → Type 0
AreAbove names [] = Unit {0}
AreAbove names (push_directory d ∷ calls) = IsAbove names d × AreAbove names calls
AreAbove names (push path is_last ∷ calls) = AreAbove names calls
AreAbove names (pop_directory ∷ calls) = AreAbove names calls

module _ (names : List (List ℕ)) where
  both : (a b : List DelegateCall) → AreAbove names a → AreAbove names b → AreAbove names (a ++ b)
  both [] b x y = y
  both (push_directory d ∷ a) b x y = (x.0, both a b x.1 y)
  both (push path is_last ∷ a) b x y = both a b x y
  both (pop_directory ∷ a) b x y = both a b x y

  the_next : (a b : List DelegateCall) (d : List ℕ) → AreAbove names (a ++ push_directory d ∷ b) → IsAbove names d
  the_next [] b d x = x.0
  the_next (push_directory path ∷ a) b d x = the_next a b d x.1
  the_next (push path is_last ∷ a) b d x = the_next a b d x
  the_next (pop_directory ∷ a) b d x = the_next a b d x

  pops : (n : ℕ) → AreAbove names (replicate n pop_directory)
  pops zero = tt
  pops (suc n) = pops n

  roots : (at : Option (List (List ℕ))) → AreAbove names (delegate_calls_to_push_root at)
  roots None = (record { ancestor = []; rest = all_but_last names; above = refl; is = refl }, tt)
  roots (Some d) = tt

  of_component : (front more : List (List ℕ)) (name : List ℕ) (b : Bool) → is_nil more ≡ b → names ≡ front ++ name ∷ more → AreAbove names (delegate_calls_of_component front name b)
  of_component front more name true e joined = tt
  of_component front more name false e joined =
      (record { ancestor = front ++ name ∷ []; rest = all_but_last more; above = ap all_but_last joined ∙ above-some front more name e; is = refl }, tt)

  below : (front rest : List (List ℕ)) → names ≡ front ++ rest → AreAbove names (delegate_calls_of_components front rest)
  below front [] joined = tt
  below front (name ∷ rest) joined =
      both (delegate_calls_of_component front name (is_nil rest)) (delegate_calls_of_components (front ++ name ∷ []) rest)
      (of_component front rest name (is_nil rest) refl joined)
      (below (front ++ name ∷ []) rest (joined ∙ sym (append_assoc front (name ∷ []) rest)))

  all_above : (at : Option (List (List ℕ))) → AreAbove names (delegate_calls_of_lookup at names)
  all_above at =
      let stay : List (List ℕ) = shared_proper_ancestor_components (deepest_components_or_root at) names in
      both (delegate_calls_to_push_root at ++ replicate (number_of_directories_to_pop at names) pop_directory) (delegate_calls_of_components stay (drop (length stay) names))
      (both (delegate_calls_to_push_root at) (replicate (number_of_directories_to_pop at names) pop_directory) (roots at) (pops (number_of_directories_to_pop at names)))
      (below stay (drop (length stay) names) (sym (kept-rest (deepest_components_or_root at) names)))

  module _ (told : Option Names) (holds : Option ObjectsById) (old new : StackModel) where
    of_stopped : (Holds : List ℕ → Type 0) (Counts : List ℕ → Statistics → Statistics → Type 0)
        → StopsAtRefusedDirectory told holds (delegate_calls_of_lookup old.at names) old new Holds Counts → HoldsOfSomeAncestor names Holds
    of_stopped Holds Counts s =
        let a : IsAbove names s.directory = the_next s.done s.stopped.unmade s.directory (subst (AreAbove names) (s.stopped.front ∙ append_assoc s.done (push_directory s.directory ∷ []) s.stopped.unmade) (all_above old.at)) in
        record { ancestor = a.ancestor; rest = a.rest; above = a.above; holds = subst Holds a.is s.refused }

    -- where a lookup stopped tells why it is refused
    pub refuses : (TF SF : Type 0) (e : AtPathError) → StopsLookupByError told holds TF SF (delegate_calls_of_lookup old.at names) old new e → ExplainsLookupError told holds TF SF (setup_of_stack old) names e
    refuses TF SF e stops = on-weaker e (λ path why s. of_stopped _ _ s) (λ id why s. of_stopped _ _ s) (λ s. tt) stops
