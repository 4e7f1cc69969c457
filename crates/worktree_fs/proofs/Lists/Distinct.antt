-- Names that rise are distinct.
use Rattle.std.proofs.Common.{Bool, true, IsPermutation, sym, subst, ap, ◌∙◌, ◌++◌, reverse, ◌≡◌, ℕ, zero, suc, ◌-◌, ◌<◌, ◌≤◌, List, [], ◌∷◌, length, get_or, false, true≢false, IsSortedBy, refl, arith}
use Rattle.std.proofs.lemmas.Cmp.{nat_list_cmp_total}
use Rattle.std.proofs.lemmas.List.Sorted.{sorted_far, ranks_by}
use Rattle.std.proofs.lemmas.Map.Text.{is_eq-slice_cmp}
use Rattle.std.specs.Cmp.{IsStrictWeakOrder}
use Rattle.std.specs.Ordering.{is_lt, is_eq, ordering_reverse}
use Rattle.std.specs.declared.cmp.Ordering.{Ordering}
use Rattle.std.proofs.lemmas.Bool.Decides.{nat_tests}
use Rattle.std.specs.List.{IsDistinct, AllByRecursion}
use Rattle.std.specs.List.Sorted.{IsStrictlySortedBy}
use Rattle.std.specs.Str.{bytes_eq}
use Rattle.std.specs.declared.cmp.Ordering.TheVariants.{Less, Equal, Greater}
use Rattle.worktree_fs.specs.Order.{compare_path_bytes, name_at_index_or_empty, AreStrictlyAscending}
use mathlib.Core.List.{reverse-cons}
use Rattle.std.proofs.lemmas.List.Sorted.{IsPermutation-refl, IsPermutation-reverse, IsPermutation-sym}
use Rattle.worktree_fs.specs.Tree.{Names, LookupResult, entry_names_in_order}
use Rattle.worktree_fs.specs.Answers.{ListsDirectoryNamesInAnyOrder}
use Rattle.worktree_fs.specs.Memory.{names_reversed_if, ListsDirectoryNamesInOrder}
use Rattle.std.proofs.lemmas.Map.Keys.{IsDistinct-IsPermutation}
use Rattle.worktree_fs.specs.Naming.{IsValidEntryName, AreDistinctValidEntryNames}
use Rattle.worktree_fs.proofs.Trees.Grown.{differs_below}

all_below : (n : List ℕ) (ns : List (List ℕ)) → ((j : ℕ) → j < length ns → compare_path_bytes n (name_at_index_or_empty ns j) ≡ Less) → AllByRecursion (λ y. bytes_eq n y ≡ false) ns
all_below n [] h = tt
all_below n (m ∷ ns) h = (differs_below n m (h zero (omega arith)), all_below n ns (λ j l. h (suc j) (omega arith)))

pub rising_distinct : (ns : List (List ℕ)) → AreStrictlyAscending ns → IsDistinct bytes_eq ns
unfolding IsDistinct
rising_distinct [] rising = tt
rising_distinct (n ∷ ns) rising = (
  all_below n ns (λ j l. rising zero (suc j) (omega arith) (omega arith)),
  rising_distinct ns (λ i j l r. rising (suc i) (suc j) (omega arith) (omega arith)),
)

pub flips : (x y : List ℕ) → bytes_eq x y ≡ bytes_eq y x
flips [] [] = refl
flips [] (y ∷ ys) = refl
flips (x ∷ xs) [] = refl
flips (x ∷ xs) (y ∷ ys) =
    let ih = flips xs ys in
    grind (arith, nat_tests)

each-append : (xs ys : List (List ℕ)) → AllByRecursion IsValidEntryName xs → AllByRecursion IsValidEntryName ys → AllByRecursion IsValidEntryName (xs ++ ys)
each-append [] ys a b = b
each-append (x ∷ xs) ys a b = (a.0, each-append xs ys a.1 b)

each-reverse : (xs : List (List ℕ)) → AllByRecursion IsValidEntryName xs → AllByRecursion IsValidEntryName (reverse xs)
each-reverse [] all = all
each-reverse (x ∷ xs) all = subst (AllByRecursion IsValidEntryName) (sym (reverse-cons x xs)) (each-append (reverse xs) (x ∷ []) (each-reverse xs all.1) (all.0, tt))

pub AreNames-reverse : (xs : List (List ℕ)) → AreDistinctValidEntryNames xs → AreDistinctValidEntryNames (reverse xs)
AreNames-reverse xs names = record {
  each = each-reverse xs names.each;
  distinct = IsDistinct-IsPermutation bytes_eq flips xs (reverse xs) (IsPermutation-reverse xs) names.distinct;
}

permuted : (is_reversed : Bool) (names : Names) → IsPermutation (names_reversed_if is_reversed names) (entry_names_in_order names)
permuted true names = IsPermutation-sym (entry_names_in_order names) (reverse (entry_names_in_order names)) (IsPermutation-reverse (entry_names_in_order names))
permuted false names = IsPermutation-refl (entry_names_in_order names)

-- in order or not, the same names are listed
pub lists_names : (is_reversed : Bool) (at : LookupResult) (listed : List (List ℕ)) → ListsDirectoryNamesInOrder is_reversed at listed → ListsDirectoryNamesInAnyOrder at listed
lists_names is_reversed at listed lists = record {
  names = lists.names;
  directory_found = lists.directory_found;
  permutation = subst (λ (l : List (List ℕ)). IsPermutation l (entry_names_in_order lists.names)) (sym lists.order) (permuted is_reversed lists.names);
}

differs_from : (n : List ℕ) (ns : List (List ℕ)) → AllByRecursion (λ y. compare_path_bytes n y ≡ Less) ns → AllByRecursion (λ y. bytes_eq n y ≡ false) ns
differs_from n [] all = tt
differs_from n (m ∷ ns) all = (differs_below n m all.0, differs_from n ns all.1)

-- so do names of which each is below all that follow
pub distinct_sorted : (ns : List (List ℕ)) → IsStrictlySortedBy compare_path_bytes ns → IsDistinct bytes_eq ns
unfolding IsDistinct IsStrictlySortedBy
distinct_sorted [] sorted = tt
distinct_sorted (n ∷ ns) sorted = (differs_from n ns sorted.0, distinct_sorted ns sorted.1)

abbrev pub is_before : List ℕ → List ℕ → Bool
is_before a b = is_lt (compare_path_bytes a b)

pub by_names : IsStrictWeakOrder is_before
by_names = ranks_by nat_list_cmp_total (λ (name : List ℕ). name)

-- of two names that differ, one that the other does not stand before is below it
below : (a b : List ℕ) → is_before b a ≡ false → bytes_eq a b ≡ false → compare_path_bytes a b ≡ Less
below a b far differ = go (compare_path_bytes a b) refl
  where
    go : (o : Ordering) → compare_path_bytes a b ≡ o → compare_path_bytes a b ≡ Less
    go Less e = e
    go Equal e = absurd (true≢false (sym (sym (is_eq-slice_cmp a b) ∙ ap is_eq e) ∙ differ))
    go Greater e = absurd (true≢false (sym (ap is_lt (nat_list_cmp_total.antisymm b a ∙ ap ordering_reverse e)) ∙ far))

below_rest : (a : List ℕ) (ns : List (List ℕ)) → ((k : ℕ) → k < length ns → is_before (get_or ns k a) a ≡ false) → AllByRecursion (λ y. bytes_eq a y ≡ false) ns → AllByRecursion (λ y. compare_path_bytes a y ≡ Less) ns
below_rest a [] far differ = tt
below_rest a (b ∷ ns) far differ = (below a b (far 0 (omega arith)) differ.0, below_rest a ns (λ k lt. far (suc k) (omega arith)) differ.1)

strictly_far : (ns : List (List ℕ)) → ((i j : ℕ) (d : List ℕ) → i ≤ j → j < length ns → is_before (get_or ns j d) (get_or ns i d) ≡ false) → IsDistinct bytes_eq ns → IsStrictlySortedBy compare_path_bytes ns
unfolding IsDistinct IsStrictlySortedBy
strictly_far [] far distinct = tt
strictly_far (n ∷ ns) far distinct = (
  below_rest n ns (λ k lt. far 0 (suc k) n (omega arith) (omega arith)) distinct.0,
  strictly_far ns (λ i j d le lt. far (suc i) (suc j) d (omega arith) (omega arith)) distinct.1,
)

-- sorted names of which none comes twice are each below those after it
pub strictly_sorted : (ns : List (List ℕ)) → IsSortedBy is_before ns → IsDistinct bytes_eq ns → IsStrictlySortedBy compare_path_bytes ns
strictly_sorted ns up distinct = strictly_far ns (sorted_far is_before by_names ns up) distinct

next_below : (ns : List (List ℕ)) (k : ℕ) (d e : List ℕ) → IsStrictlySortedBy compare_path_bytes ns → suc k < length ns → compare_path_bytes (get_or ns k d) (get_or ns (suc k) e) ≡ Less
unfolding IsStrictlySortedBy
next_below [] k d e sorted lt = absurd (omega (arith, lt))
next_below (n ∷ []) k d e sorted lt = absurd (omega (arith, lt))
next_below (n ∷ m ∷ ns) zero d e sorted lt = sorted.0.0
next_below (n ∷ m ∷ ns) (suc k) d e sorted lt = next_below (m ∷ ns) k d e sorted.1 (omega (arith, lt))

-- and each is below the next
pub below_next : (ns : List (List ℕ)) (i : ℕ) (d e : List ℕ) → IsStrictlySortedBy compare_path_bytes ns → 1 ≤ i → i < length ns → compare_path_bytes (get_or ns (i - 1) d) (get_or ns i e) ≡ Less
below_next ns zero d e sorted le lt = absurd (omega (arith, le))
below_next ns (suc k) d e sorted le lt =
    let before : suc k - 1 ≡ k = omega arith in
    rw before (next_below ns k d e sorted lt)
