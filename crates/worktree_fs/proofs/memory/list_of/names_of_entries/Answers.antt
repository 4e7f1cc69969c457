use Rattle.std.proofs.Common.{◌≡◌, ◌∙◌, sym, ap, subst, map, arith}
use Rattle.std.proofs.lemmas.List.{take_all}
use Rattle.std.specs.List.Sorted.{IsStrictlySortedBy}
use Rattle.worktree_fs.specs.Order.{compare_path_bytes}
use Rattle.worktree_fs.specs.Tree.{entry_names_in_order}
use Rattle.worktree_fs.specs.Stored.{named_nodes_of_entries}
use Rattle.worktree_fs.specs.Naming.{AreDistinctValidEntryNames}
use Rattle.worktree_fs.specs.declared.memory.stored.Entry.{Entry}
use Rattle.worktree_fs.proofs.Lists.EntryNames.{all_names}
use Rattle.worktree_fs.proofs.Trees.Sorted.{sorted_tree}
use Rattle.worktree_fs.proofs.Lists.Order.{ascending}
use Rattle.worktree_fs.proofs.memory.list_of.names_of_entries.Goals as goal

is : (c : goal.After-loop-entry) → c.loop-entry.names ≡ entry_names_in_order (named_nodes_of_entries c.args.entries.now)
is c = c.loop-entry.invariant ∙ ap (map (λ (e : Entry). e.name)) (take_all c.loop-entry.entry-index c.args.entries.now (omega arith)) ∙ sym (all_names c.args.entries.now)

pub returns-clause-value : goal.returns-clause-value
returns-clause-value c = is c

pub returns-clause-names : goal.returns-clause-names
returns-clause-names c = subst AreDistinctValidEntryNames (sym (is c)) (sorted_tree c.args.entries.now c.requires).0

pub returns-clause-sorted : goal.returns-clause-sorted
returns-clause-sorted c =
    subst (IsStrictlySortedBy compare_path_bytes) (sym (is c ∙ all_names c.args.entries.now)) (ascending (map (λ (e : Entry). e.name) c.args.entries.now) c.requires.rising)
