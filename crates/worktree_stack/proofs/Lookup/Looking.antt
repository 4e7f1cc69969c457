-- A lookup as a whole: the root, what is popped, and what is left of the path.
use Rattle.std.specs.Prelude.{◌≡◌, ℕ, ◌+◌, ◌≤◌, true, List, [], ◌∷◌, ◌++◌, length, drop, replicate, Option, Some, None, is_some}
use Rattle.std.proofs.Common.{refl, sym, ap, ◌∙◌, arith}
use Rattle.std.proofs.lemmas.List.{length-map}
use Rattle.worktree_fs.specs.Paths.{all_prefixes_shortest_first}
use Rattle.worktree_fs.specs.PathStack.{pop_directory, deepest_components_or_root, shared_proper_ancestor_components, number_of_directories_to_pop, delegate_calls_to_push_root, delegate_calls_of_components, delegate_calls_of_lookup}
use Rattle.worktree_fs.proofs.Paths.Fronts.{kept-rest, kept-end, kept-fits}
use Rattle.worktree_stack.specs.Stacked.{pushed_directories}
use Rattle.worktree_stack.specs.Lookups.{directories_kept_by_lookup}

-- the root is pushed, and what is no ancestor is popped: what stays, and what is left of the path behind it
pub record IsStaying (at at1 at2 : Option (List (List ℕ))) (parts left : List (List ℕ)) : Type 0 where
  pub rooted : at1 ≡ Some (deepest_components_or_root at)
  pub popped : at2 ≡ directories_kept_by_lookup at1 parts
  pub left_is : left ≡ drop (length (deepest_components_or_root at2)) parts

module _ (at at1 at2 : Option (List (List ℕ))) (parts left : List (List ℕ)) (s : IsStaying at at1 at2 parts left) where
  pub stays : at2 ≡ Some (shared_proper_ancestor_components (deepest_components_or_root at) parts)
  stays = s.popped ∙ ap (λ d. directories_kept_by_lookup d parts) s.rooted

  pub stay_names : deepest_components_or_root at2 ≡ shared_proper_ancestor_components (deepest_components_or_root at) parts
  stay_names = ap deepest_components_or_root stays

  pub left_names : left ≡ drop (length (shared_proper_ancestor_components (deepest_components_or_root at) parts)) parts
  left_names = s.left_is ∙ ap (λ (names : List (List ℕ)). drop (length names) parts) stay_names

  pub some_stays : is_some at2 ≡ true
  some_stays = ap is_some stays

  pub whole : deepest_components_or_root at2 ++ left ≡ parts
  whole = ap (λ names. names ++ left) stay_names ∙ ap (λ l. shared_proper_ancestor_components (deepest_components_or_root at) parts ++ l) left_names ∙ kept-rest (deepest_components_or_root at) parts

  pub ends : left ≡ [] → deepest_components_or_root at2 ≡ []
  ends none = stay_names ∙ kept-end (deepest_components_or_root at) parts (sym left_names ∙ none)

  -- as much is popped as of the stack without the root
  popped-same : number_of_directories_to_pop at1 parts ≡ number_of_directories_to_pop at parts
  popped-same = ap (λ d. number_of_directories_to_pop d parts) s.rooted ∙ go at
    where
      go : (d : Option (List (List ℕ))) → number_of_directories_to_pop (Some (deepest_components_or_root d)) parts ≡ number_of_directories_to_pop d parts
      go None = refl
      go (Some names) = refl

  pub calls_are : delegate_calls_of_lookup at parts ≡ delegate_calls_to_push_root at ++ replicate (number_of_directories_to_pop at1 parts) pop_directory ++ delegate_calls_of_components (deepest_components_or_root at2) left
  calls_are =
      sym (ap (λ n. delegate_calls_to_push_root at ++ replicate n pop_directory ++ delegate_calls_of_components (deepest_components_or_root at2) left) popped-same
      ∙ ap (λ names. delegate_calls_to_push_root at ++ replicate (number_of_directories_to_pop at parts) pop_directory ++ delegate_calls_of_components names left) stay_names
      ∙ ap (λ l. delegate_calls_to_push_root at ++ replicate (number_of_directories_to_pop at parts) pop_directory ++ delegate_calls_of_components (shared_proper_ancestor_components (deepest_components_or_root at) parts) l) left_names)

pub length-fronts : (names : List (List ℕ)) → length (all_prefixes_shortest_first names) ≡ length names + 1
length-fronts [] = refl
length-fronts (name ∷ names) = omega (arith, length-map (all_prefixes_shortest_first names) (λ (front : List (List ℕ)). name ∷ front), length-fronts names)

pub length-pushed : (at : Option (List (List ℕ))) → is_some at ≡ true → length (pushed_directories at) ≡ length (deepest_components_or_root at) + 1
length-pushed None some = absurd (cc some)
length-pushed (Some names) some = length-fronts names

-- for the root one more is read where it is not pushed
pub root-length : (at : Option (List (List ℕ))) (parts : List (List ℕ)) → length (delegate_calls_to_push_root at) + length (pushed_directories (directories_kept_by_lookup at parts)) ≡ length (shared_proper_ancestor_components (deepest_components_or_root at) parts) + 1
root-length None parts = refl
root-length (Some names) parts = omega (arith, length-fronts (shared_proper_ancestor_components names parts))

-- no more stays than is pushed
pub fewer-stay : (at : Option (List (List ℕ))) (parts : List (List ℕ)) → length (pushed_directories (directories_kept_by_lookup at parts)) ≤ length (pushed_directories at)
fewer-stay None parts = omega arith
fewer-stay (Some names) parts = omega (arith, length-fronts (shared_proper_ancestor_components names parts), length-fronts names, kept-fits names parts)
