-- What is sorted by path ascends strictly where no path comes twice.
use Rattle.std.proofs.Common.{◌≡◌, ℕ, suc, ◌<◌, ◌≤◌, List, [], ◌∷◌, Bool, false, map, length, get_or, IsSortedBy, IsPermutation, refl, sym, ap, ◌∙◌, arith}
use Rattle.std.specs.Str.{bytes_eq}
use Rattle.std.specs.List.{AllByRecursion, IsDistinct}
use Rattle.std.specs.List.Sorted.{IsStrictlySortedBy}
use Rattle.std.specs.Cmp.{IsStrictWeakOrder}
use Rattle.std.specs.Cmp.Lexicographic.{slice_cmp}
use Rattle.std.specs.declared.cmp.Ordering.{Ordering}
use Rattle.std.specs.declared.cmp.Ordering.TheVariants.{Less, Equal, Greater}
use Rattle.std.specs.Ordering.{nat_cmp, is_lt, is_eq, ordering_reverse}
use Rattle.std.proofs.lemmas.Cmp.{nat_list_eq_equiv, nat_list_cmp_total}
use Rattle.std.proofs.lemmas.Bool.{true≢false}
use Rattle.std.proofs.lemmas.List.Sorted.{sorted_far, ranks_by, IsPermutation-map}
use Rattle.std.proofs.lemmas.Map.Keys.{IsDistinct-IsPermutation}
use Rattle.std.proofs.lemmas.Map.Text.{is_eq-slice_cmp}
use Rattle.module_plan.specs.declared.step.Step.{Step}
use Rattle.module_plan.specs.Plans.{IsStrictlySortedByPath, HaveDistinctPaths, path_of_step}

abbrev pub is_before : Step → Step → Bool
is_before a b = is_lt (slice_cmp nat_cmp (path_of_step a) (path_of_step b))

pub by_paths : IsStrictWeakOrder is_before
by_paths = ranks_by nat_list_cmp_total path_of_step

less : (p q : List ℕ) → is_lt (slice_cmp nat_cmp q p) ≡ false → bytes_eq p q ≡ false → slice_cmp nat_cmp p q ≡ Less
less p q not_after differ = go (slice_cmp nat_cmp p q) refl
  where
    go : (o : Ordering) → slice_cmp nat_cmp p q ≡ o → slice_cmp nat_cmp p q ≡ Less
    go Less e = e
    go Equal e = absurd (true≢false (sym (ap is_eq e) ∙ is_eq-slice_cmp p q ∙ differ))
    go Greater e = absurd (true≢false (sym (ap is_lt (nat_list_cmp_total.antisymm q p ∙ ap ordering_reverse e)) ∙ not_after))

all-less : (x : Step) (steps : List Step) → ((k : ℕ) → k < length steps → is_before (get_or steps k x) x ≡ false)
    → AllByRecursion (λ path. bytes_eq x.path path ≡ false) (map path_of_step steps) → AllByRecursion (λ path. slice_cmp nat_cmp x.path path ≡ Less) (map path_of_step steps)
all-less x [] far differ = tt
all-less x (y ∷ steps) far differ =
    (less x.path y.path (far 0 (omega arith)) differ.0, all-less x steps (λ k p. far (suc k) (omega arith)) differ.1)

ascending : (steps : List Step) → ((i j : ℕ) (d : Step) → i ≤ j → j < length steps → is_before (get_or steps j d) (get_or steps i d) ≡ false)
    → HaveDistinctPaths steps → IsStrictlySortedByPath steps
unfolding IsDistinct IsStrictlySortedBy
ascending [] far distinct = tt
ascending (x ∷ steps) far distinct = (
  all-less x steps (λ k p. far 0 (suc k) x (omega arith) (omega arith)) distinct.0,
  ascending steps (λ i j d p q. far (suc i) (suc j) d (omega arith) (omega arith)) distinct.1,
)

pub ascends-sorted : (steps sorted : List Step) → IsPermutation steps sorted → IsSortedBy is_before sorted → HaveDistinctPaths steps → IsStrictlySortedByPath sorted
ascends-sorted steps sorted moved up distinct =
    ascending sorted (sorted_far is_before by_paths sorted up)
    (IsDistinct-IsPermutation bytes_eq nat_list_eq_equiv.symm (map path_of_step steps) (map path_of_step sorted) (IsPermutation-map path_of_step steps sorted moved) distinct)
