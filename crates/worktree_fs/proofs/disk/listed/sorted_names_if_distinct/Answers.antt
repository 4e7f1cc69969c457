use Rattle.std.proofs.Common.{ℕ, List, length, All, bytes_eq, true≢false, subst, sym, ap, ◌∙◌, rules, arith}
use Rattle.std.specs.List.Sorted.{IsStrictlySortedBy, IsPermutation}
use Rattle.std.proofs.lemmas.List.Sorted.{All-permutation, length_permutation, IsPermutation-sym, answers_always}
use Rattle.std.proofs.lemmas.Map.Keys.{IsDistinct-IsPermutation}
use Rattle.std.proofs.lemmas.List.Elements.{recursion_from_All}
use Rattle.worktree_fs.specs.Disk.{IsComposedIfComposing, IsValidListedName}
use Rattle.worktree_fs.specs.Naming.{IsValidEntryName, AreDistinctValidEntryNames}
use Rattle.worktree_fs.specs.Order.{compare_path_bytes}
use Rattle.worktree_fs.proofs.Lists.Distinct.{is_before, by_names, flips, distinct_sorted, strictly_sorted}
use Rattle.worktree_fs.proofs.disk.listed.sorted_names_if_distinct.Goals as goal

pub returns-then-is_strictly_ascending-clause-distinct : goal.returns-then-is_strictly_ascending-clause-distinct
returns-then-is_strictly_ascending-clause-distinct c =
    let names = c.sort_unstable_by.new.self.items in
    let sorted = subst (IsStrictlySortedBy compare_path_bytes) c.deref.ensures.value (c.is_strictly_ascending.ensures.0 c.if-is_strictly_ascending.true) in
    IsDistinct-IsPermutation bytes_eq flips names c.args.names.items (IsPermutation-sym c.args.names.items names c.sort_unstable_by.ensures.permutation) (distinct_sorted names sorted)

pub returns-else-is_strictly_ascending-clause-distinct : goal.returns-else-is_strictly_ascending-clause-distinct
returns-else-is_strictly_ascending-clause-distinct c = λ distinct.
    let names = c.sort_unstable_by.new.self.items in
    let up = c.sort_unstable_by.ensures.sorted is_before by_names (answers_always _ _ _ (λ f a r g h. search rules)) in
    let sorted = strictly_sorted names up (IsDistinct-IsPermutation bytes_eq flips c.args.names.items names c.sort_unstable_by.ensures.permutation distinct) in
    true≢false (sym (c.is_strictly_ascending.ensures.1 (subst (IsStrictlySortedBy compare_path_bytes) (sym c.deref.ensures.value) sorted)) ∙ c.if-is_strictly_ascending.false)

pub returns-then-is_strictly_ascending-clause-all : goal.returns-then-is_strictly_ascending-clause-all
returns-then-is_strictly_ascending-clause-all c =
    subst (IsPermutation c.args.names.items) (sym c.from_vec.ensures) c.sort_unstable_by.ensures.permutation

pub returns-then-is_strictly_ascending-clause-names : goal.returns-then-is_strictly_ascending-clause-names
returns-then-is_strictly_ascending-clause-names c =
    let names = c.sort_unstable_by.new.self.items in
    let all : All (IsValidListedName c.args._composes) names = All-permutation (IsValidListedName c.args._composes) c.args.names.items names c.sort_unstable_by.ensures.permutation c.requires.all in
    subst AreDistinctValidEntryNames (sym c.from_vec.ensures) (record {
      each = recursion_from_All IsValidEntryName names (λ k d lt. (all k d lt).is_name);
      distinct = distinct_sorted names (subst (IsStrictlySortedBy compare_path_bytes) c.deref.ensures.value (c.is_strictly_ascending.ensures.0 c.if-is_strictly_ascending.true));
    })

pub returns-then-is_strictly_ascending-clause-kept : goal.returns-then-is_strictly_ascending-clause-kept
returns-then-is_strictly_ascending-clause-kept c =
    let names = c.sort_unstable_by.new.self.items in
    let all : All (IsValidListedName c.args._composes) names = All-permutation (IsValidListedName c.args._composes) c.args.names.items names c.sort_unstable_by.ensures.permutation c.requires.all in
    subst (All (IsComposedIfComposing c.args._composes)) (sym c.from_vec.ensures) (λ k d lt. (all k d lt).kept)

pub returns-then-is_strictly_ascending-clause-few : goal.returns-then-is_strictly_ascending-clause-few
returns-then-is_strictly_ascending-clause-few c =
    let names = c.sort_unstable_by.new.self.items in
    let few = c.requires.few in
    let same = length_permutation c.args.names.items names c.sort_unstable_by.ensures.permutation in
    let made = ap (λ (l : List (List ℕ)). length l) c.from_vec.ensures in
    omega (arith, few, same, made)

pub returns-then-is_strictly_ascending-clause-sorted : goal.returns-then-is_strictly_ascending-clause-sorted
returns-then-is_strictly_ascending-clause-sorted c =
    subst (IsStrictlySortedBy compare_path_bytes) (sym c.from_vec.ensures)
    (subst (IsStrictlySortedBy compare_path_bytes) c.deref.ensures.value (c.is_strictly_ascending.ensures.0 c.if-is_strictly_ascending.true))
