-- What is popped of a stack on the way to a path.
use Rattle.std.specs.Prelude.{◌≡◌, ℕ, suc, ◌+◌, ◌<◌, Bool, true, false, List, [], ◌∷◌, length, replicate, Option, Some, None, if◌then◌else◌}
use Rattle.std.specs.Str.{bytes_eq}
use Rattle.std.proofs.Common.{refl, sym, ap, ◌∙◌, arith}
use Rattle.std.proofs.lemmas.List.{take_all}
use Rattle.worktree_fs.specs.Paths.{all_but_last, longest_common_prefix}
use Rattle.worktree_fs.specs.PathStack.{parent_of_deepest_directory, number_of_directories_to_pop, shared_proper_ancestor_components, pop_directory}
use Rattle.worktree_fs.proofs.Paths.Fronts.{kept-names, kept-fits}
use Rattle.worktree_stack.specs.declared.statistics.DelegateStatistics.{DelegateStatistics}
use Rattle.worktree_stack.specs.Counted.{delegate_counts_after_call, delegate_counts_after_calls}
use Rattle.worktree_stack.specs.Lookups.{directories_kept_by_lookup}

length-without_last : (name : List ℕ) (names : List (List ℕ)) → length (all_but_last (name ∷ names)) ≡ length names
length-without_last name [] = refl
length-without_last name (other ∷ names) = ap suc (length-without_last other names)

-- what is shared is shared without the last one, if that is none of it
shared-shorter : (name : List ℕ) (names parts : List (List ℕ)) → length (longest_common_prefix (name ∷ names) parts) < length (name ∷ names)
    → longest_common_prefix (all_but_last (name ∷ names)) parts ≡ longest_common_prefix (name ∷ names) parts
shared-shorter name names [] less = go names
  where
    go : (names : List (List ℕ)) → longest_common_prefix (all_but_last (name ∷ names)) [] ≡ []
    go [] = refl
    go (other ∷ names) = refl
shared-shorter name [] (part ∷ parts) less = go (bytes_eq name part) refl less
  where
    go : (b : Bool) → bytes_eq name part ≡ b → length (if b then name ∷ [] else []) < 1 → [] ≡ (if b then name ∷ [] else [])
    go true e less = absurd (omega (arith, less))
    go false e less = refl
shared-shorter name (other ∷ names) (part ∷ parts) less = go (bytes_eq name part) (shared-shorter other names parts) less
  where
    go : (b : Bool) → (length (longest_common_prefix (other ∷ names) parts) < length (other ∷ names) → longest_common_prefix (all_but_last (other ∷ names)) parts ≡ longest_common_prefix (other ∷ names) parts)
        → length (if b then name ∷ longest_common_prefix (other ∷ names) parts else []) < length (name ∷ other ∷ names)
        → (if b then name ∷ longest_common_prefix (all_but_last (other ∷ names)) parts else []) ≡ (if b then name ∷ longest_common_prefix (other ∷ names) parts else [])
    go true shorter less = ap (λ (rest : List (List ℕ)). name ∷ rest) (shorter (omega (arith, less)))
    go false shorter less = refl

-- where something is popped, the same stays
pub staying-up : (at : Option (List (List ℕ))) (parts : List (List ℕ)) → 0 < number_of_directories_to_pop at parts → directories_kept_by_lookup (parent_of_deepest_directory at) parts ≡ directories_kept_by_lookup at parts
staying-up None parts some = absurd (omega (arith, some))
staying-up (Some []) parts some = absurd (omega (arith, some))
staying-up (Some (name ∷ names)) parts some = ap Some (shared-shorter name names (all_but_last parts) (omega (arith, some)))

-- and one less is to be popped
pub surplus-up : (at : Option (List (List ℕ))) (parts : List (List ℕ)) → 0 < number_of_directories_to_pop at parts → number_of_directories_to_pop (parent_of_deepest_directory at) parts + 1 ≡ number_of_directories_to_pop at parts
surplus-up None parts some = absurd (omega (arith, some))
surplus-up (Some []) parts some = absurd (omega (arith, some))
surplus-up (Some (name ∷ names)) parts some =
    let same : longest_common_prefix (all_but_last (name ∷ names)) (all_but_last parts) ≡ longest_common_prefix (name ∷ names) (all_but_last parts) =
    shared-shorter name names (all_but_last parts) (omega (arith, some)) in
    omega (arith, some, ap length same, length-without_last name names)

-- where nothing is to be popped, all stays
pub staying-all : (at : Option (List (List ℕ))) (parts : List (List ℕ)) → number_of_directories_to_pop at parts ≡ 0 → at ≡ directories_kept_by_lookup at parts
staying-all None parts none = refl
staying-all (Some names) parts none =
    ap Some (sym (take_all (length (shared_proper_ancestor_components names parts)) names (omega (arith, none, kept-fits names parts))) ∙ kept-names names parts)

-- one more is popped and counted
pub counted-up : (s : DelegateStatistics) (m n : ℕ) → n + 1 ≡ m
    → delegate_counts_after_calls (delegate_counts_after_call s pop_directory) (replicate n pop_directory) ≡ delegate_counts_after_calls s (replicate m pop_directory)
counted-up s m n e =
    let same : m ≡ suc n = omega (arith, e) in
    sym (ap (λ k. delegate_counts_after_calls s (replicate k pop_directory)) same)
