-- Entries stay sorted where one is added or changed.
use Rattle.std.proofs.Common.{◌≡◌, ℕ, zero, suc, List, [], ◌∷◌, get_or, set, sym, subst}
use Rattle.std.specs.List.{AllByRecursion, IsDistinct, insert}
use Rattle.std.specs.Str.{bytes_eq}
use Rattle.worktree_fs.proofs.Lists.Distinct.{rising_distinct}
use Rattle.worktree_fs.proofs.Lists.EntryNames.{all_names}
use Rattle.worktree_fs.specs.declared.memory.stored.Inner.{Inner}
use Rattle.worktree_fs.specs.declared.memory.stored.Inner.TheVariants as stored
use Rattle.worktree_fs.specs.Tree.{Node, directory}
use Rattle.worktree_fs.specs.Naming.{IsValidEntryName, IsValidTree, AreValidTrees}
use Rattle.worktree_fs.specs.Order.{IsIndexOfName, IsInsertionIndexOfName}
use Rattle.worktree_fs.specs.Stored.{AreSortedValidEntries, HasSortedValidEntries, named_nodes_of_entries, tree_node_of_inner}
use Rattle.worktree_fs.specs.declared.memory.stored.Entry.{Entry}
use Rattle.worktree_fs.proofs.Lists.Order.{names}
use Rattle.worktree_fs.proofs.Trees.Grown.{rising_insert, rising_put, d_name}

each_insert : (es : List Entry) (i : ℕ) (e : Entry) → IsValidEntryName e.name → AllByRecursion IsValidEntryName (names es) → AllByRecursion IsValidEntryName (names (insert es i e))
each_insert [] zero e is each = (is, tt)
each_insert [] (suc i) e is each = (is, tt)
each_insert (h ∷ es) zero e is each = (is, each)
each_insert (h ∷ es) (suc i) e is each = (each.0, each_insert es i e is each.1)

each_set : (es : List Entry) (i : ℕ) (e : Entry) → IsValidEntryName e.name → AllByRecursion IsValidEntryName (names es) → AllByRecursion IsValidEntryName (names (set es i e))
each_set [] i e is each = each
each_set (h ∷ es) zero e is each = (is, each.1)
each_set (h ∷ es) (suc i) e is each = (each.0, each_set es i e is each.1)

trees_insert : (es : List Entry) (i : ℕ) (e : Entry) → IsValidTree e.node → AllByRecursion (λ e. IsValidTree e.node) es → AllByRecursion (λ e. IsValidTree e.node) (insert es i e)
trees_insert [] zero e is trees = (is, tt)
trees_insert [] (suc i) e is trees = (is, tt)
trees_insert (h ∷ es) zero e is trees = (is, trees)
trees_insert (h ∷ es) (suc i) e is trees = (trees.0, trees_insert es i e is trees.1)

trees_set : (es : List Entry) (i : ℕ) (e : Entry) → IsValidTree e.node → AllByRecursion (λ e. IsValidTree e.node) es → AllByRecursion (λ e. IsValidTree e.node) (set es i e)
trees_set [] i e is trees = trees
trees_set (h ∷ es) zero e is trees = (is, trees.1)
trees_set (h ∷ es) (suc i) e is trees = (trees.0, trees_set es i e is trees.1)

pub sorted_insert : (es : List Entry) (i : ℕ) (e : Entry) → IsInsertionIndexOfName (names es) e.name i → IsValidEntryName e.name → IsValidTree e.node → AreSortedValidEntries es → AreSortedValidEntries (insert es i e)
sorted_insert es i e gap is tree sorted = record { rising = rising_insert es i e gap sorted.rising; each = each_insert es i e is sorted.each; trees = trees_insert es i e tree sorted.trees }

pub sorted_put : (es : List Entry) → AreSortedValidEntries es → (x : List ℕ) (i : ℕ) → IsValidEntryName x → IsIndexOfName (names es) x i → (d : Entry) → d ≡ get_or es i d → (made : Node) → IsValidTree made
    → AreSortedValidEntries (set es i (record { name = d.name; node = made }))
sorted_put es sorted x i is_name at d is made tree = record {
  rising = rising_put es sorted.rising x i at d is made;
  each = each_set es i (record { name = d.name; node = made }) (subst IsValidEntryName (sym (d_name es sorted.rising x i at d is)) is_name) sorted.each;
  trees = trees_set es i (record { name = d.name; node = made }) tree sorted.trees;
}

trees_in : (es : List Entry) → AllByRecursion (λ e. IsValidTree e.node) es → AreValidTrees (named_nodes_of_entries es)
trees_in [] trees = tt
trees_in (e ∷ es) trees = (trees.0, trees_in es trees.1)

-- sorted entries are a directory of a tree
pub sorted_tree : (es : List Entry) → AreSortedValidEntries es → IsValidTree (directory (named_nodes_of_entries es))
sorted_tree es sorted =
    let is = all_names es in (
      record {
        each = subst (AllByRecursion IsValidEntryName) (sym is) sorted.each;
        distinct = subst (IsDistinct bytes_eq) (sym is) (rising_distinct (names es) sorted.rising);
      },
      trees_in es sorted.trees,
    )

pub inner_tree : (inner : Inner) → HasSortedValidEntries inner → IsValidTree (tree_node_of_inner inner)
inner_tree (stored.File bytes) sorted = tt
inner_tree (stored.Link target) sorted = tt
inner_tree (stored.Directory entries) sorted = sorted_tree entries.items sorted
inner_tree stored.Other sorted = tt
