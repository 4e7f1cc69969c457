-- How far a lookup has come on the way down to its path.
use Rattle.std.specs.Prelude.{◌≡◌, ℕ, Bool, true, false, List, [], ◌∷◌, ◌++◌, Option, Some, None, is_some}
use Rattle.std.proofs.Common.{refl, sym, ap, ◌∙◌, subst, append_assoc}
use Rattle.std.proofs.lemmas.List.{append-nil}
use Rattle.worktree_fs.specs.Paths.{is_nil, all_but_last}
use Rattle.worktree_fs.specs.PathStack.{DelegateCall, deepest_components_or_root, IsNothingOrProperAncestor, delegate_calls_of_component, delegate_calls_of_components}
use Rattle.worktree_fs.proofs.Paths.Fronts.{without_last-append}
use Rattle.worktree_fs.proofs.Paths.Spelled.{without_last-snoc}
use Rattle.worktree_stack.specs.Stacked.{StackModel}
use Rattle.worktree_stack.specs.Lookups.{stack_after_pushing_component, StandsAtPath}

-- the components before the rest of a path are those of the deepest directory
pub record IsBelow (whole : List (List ℕ)) (at : Option (List (List ℕ))) (rest : List (List ℕ)) : Type 0 where
  pub some : at ≡ Some (deepest_components_or_root at)
  pub whole_is : whole ≡ deepest_components_or_root at ++ rest
  pub end : rest ≡ [] → deepest_components_or_root at ≡ []

pub below_first : (at : Option (List (List ℕ))) (rest : List (List ℕ)) → is_some at ≡ true → (rest ≡ [] → deepest_components_or_root at ≡ []) → IsBelow (deepest_components_or_root at ++ rest) at rest
below_first None rest some end = absurd (cc some)
below_first (Some names) rest some end = record { some = refl; whole_is = refl; end = end }

not_nil : {A : Type 0} (xs : List A) → is_nil xs ≡ false → xs ≡ [] → ⊥
not_nil [] e none = cc e
not_nil (x ∷ xs) e none = cc none

pub below_next : (whole : List (List ℕ)) (at at' : Option (List (List ℕ))) (rest more : List (List ℕ)) (name : List ℕ) → IsBelow whole at rest
    → rest ≡ name ∷ more → is_nil more ≡ false → at' ≡ Some (deepest_components_or_root at ++ name ∷ []) → IsBelow whole at' more
below_next whole at at' rest more name below first more_is at_is =
    let names_is : deepest_components_or_root at' ≡ deepest_components_or_root at ++ name ∷ [] = ap deepest_components_or_root at_is in
    record {
      some = at_is ∙ ap Some (sym names_is);
      whole_is = below.whole_is ∙ ap (λ (r : List (List ℕ)). deepest_components_or_root at ++ r) first ∙ sym (append_assoc (deepest_components_or_root at) (name ∷ []) more) ∙ ap (λ (d : List (List ℕ)). d ++ more) (sym names_is);
      end = λ none. absurd (not_nil more more_is none);
    }

-- a component that is not the last one is an ancestor
pub above-some : (names more : List (List ℕ)) (name : List ℕ) → is_nil more ≡ false → all_but_last (names ++ name ∷ more) ≡ (names ++ name ∷ []) ++ all_but_last more
above-some names [] name e = absurd (cc e)
above-some names (other ∷ more) name e = without_last-append names name (other ∷ more) ∙ sym (append_assoc names (name ∷ []) (all_but_last (other ∷ more)))

-- the deepest directory lies on the way
pub on_way : (whole : List (List ℕ)) (at : Option (List (List ℕ))) (rest more : List (List ℕ)) (name : List ℕ) → IsBelow whole at rest → rest ≡ name ∷ more → IsNothingOrProperAncestor at whole
on_way whole at rest more name below first =
    subst (λ d. IsNothingOrProperAncestor d whole) (sym below.some)
    (record { rest = all_but_last (name ∷ more); joined = ap all_but_last (below.whole_is ∙ ap (λ (r : List (List ℕ)). deepest_components_or_root at ++ r) first) ∙ without_last-append (deepest_components_or_root at) name more })

pub on_way_same : (whole : List (List ℕ)) (at at' : Option (List (List ℕ))) → at' ≡ at → IsNothingOrProperAncestor at whole → IsNothingOrProperAncestor at' whole
on_way_same whole at at' same way = subst (λ d. IsNothingOrProperAncestor d whole) (sym same) way

-- the last component is reached
pub at_last : (whole : List (List ℕ)) (s s' : StackModel) (rest more : List (List ℕ)) (name : List ℕ) → IsBelow whole s.at rest
    → rest ≡ name ∷ more → is_nil more ≡ true → s' ≡ stack_after_pushing_component s name → StandsAtPath s' whole
at_last whole s s' rest [] name below first none stepped_is =
    let whole_is : whole ≡ deepest_components_or_root s.at ++ name ∷ [] = below.whole_is ∙ ap (λ (r : List (List ℕ)). deepest_components_or_root s.at ++ r) first in
    record {
      at = ap (λ (x : StackModel). x.at) stepped_is ∙ below.some ∙ ap Some (sym (ap all_but_last whole_is ∙ without_last-snoc (deepest_components_or_root s.at) name));
      current = ap (λ (x : StackModel). x.current) stepped_is ∙ sym whole_is;
    }
at_last whole s s' rest (other ∷ more) name below first none stepped_is = absurd (cc none)

-- there was no component
pub at_root : (whole : List (List ℕ)) (s s' : StackModel) (rest : List (List ℕ)) → IsBelow whole s.at rest → rest ≡ [] → s' ≡ record s { current = deepest_components_or_root s.at } → StandsAtPath s' whole
at_root whole s s' rest below none left =
    let names_is : deepest_components_or_root s.at ≡ [] = below.end none in
    let whole_is : whole ≡ [] = below.whole_is ∙ ap (λ (r : List (List ℕ)). deepest_components_or_root s.at ++ r) none ∙ append-nil (deepest_components_or_root s.at) ∙ names_is in
    record {
      at = ap (λ (x : StackModel). x.at) left ∙ below.some ∙ ap Some names_is ∙ sym (ap (λ (n : List (List ℕ)). Some (all_but_last n)) whole_is);
      current = ap (λ (x : StackModel). x.current) left ∙ names_is ∙ sym whole_is;
    }

-- ---- the calls that are left

module _ (calls made : List DelegateCall) (names rest more : List (List ℕ)) (name : List ℕ) (front : calls ≡ made ++ delegate_calls_of_components names rest) (first : rest ≡ name ∷ more) where
  -- those for the first component that is left come first
  pub next-calls : (b : Bool) → is_nil more ≡ b → calls ≡ made ++ (delegate_calls_of_component names name b ++ delegate_calls_of_components (names ++ name ∷ []) more)
  next-calls b more_is =
      front ∙ ap (λ r. made ++ delegate_calls_of_components names r) first ∙ ap (λ b. made ++ (delegate_calls_of_component names name b ++ delegate_calls_of_components (names ++ name ∷ []) more)) more_is

  pub further : is_nil more ≡ false → calls ≡ (made ++ delegate_calls_of_component names name false) ++ delegate_calls_of_components (names ++ name ∷ []) more
  further more_is = next-calls false more_is ∙ sym (append_assoc made (delegate_calls_of_component names name false) (delegate_calls_of_components (names ++ name ∷ []) more))

-- and those for the last one are all
pub last-calls : (calls made : List DelegateCall) (names rest more : List (List ℕ)) (name : List ℕ) → calls ≡ made ++ delegate_calls_of_components names rest → rest ≡ name ∷ more
    → is_nil more ≡ true → calls ≡ made ++ delegate_calls_of_component names name true
last-calls calls made names rest [] name front first more_is = front ∙ ap (λ r. made ++ delegate_calls_of_components names r) first
last-calls calls made names rest (other ∷ more) name front first more_is = absurd (cc more_is)

pub no-calls : (calls made : List DelegateCall) (names rest : List (List ℕ)) → calls ≡ made ++ delegate_calls_of_components names rest → rest ≡ [] → calls ≡ made
no-calls calls made names rest front none = front ∙ ap (λ r. made ++ delegate_calls_of_components names r) none ∙ append-nil made
