use Rattle.std.proofs.Common.{◌≡◌, sym, ap, ◌∙◌, subst, List, ℕ}
use Rattle.worktree_fs.specs.Order.{IsInsertionIndexOfName}
use Rattle.worktree_fs.specs.Naming.{IsValidEntryName}
use Rattle.worktree_fs.specs.Stored.{named_nodes_of_entries, AreSortedValidEntries}
use Rattle.worktree_fs.proofs.Lists.Order.{names}
use Rattle.worktree_fs.proofs.Trees.Grown.{child_gap, put_gap}
use Rattle.worktree_fs.proofs.Trees.Sorted.{sorted_insert}
use Rattle.worktree_fs.proofs.memory.grow.insert_entry_at_position.Goals as goal

pub returns-in_err-name-clause-absent : goal.returns-in_err-name-clause-absent
returns-in_err-name-clause-absent c = child_gap c.args.entries.now.items c.args.name.now c.args.at c.requires.gap

pub returns-in_err-insert-clause-absent : goal.returns-in_err-insert-clause-absent
returns-in_err-insert-clause-absent c = child_gap c.args.entries.now.items c.args.name.now c.args.at c.requires.gap

pub returns-clause-absent : goal.returns-clause-absent
returns-clause-absent c = child_gap c.args.entries.now.items c.args.name.now c.args.at c.requires.gap

pub returns-clause-put : goal.returns-clause-put
returns-clause-put c =
    ap named_nodes_of_entries c.in_ok-insert.ensures.items
    ∙ put_gap c.args.entries.now.items c.args.name.now c.args.at _ c.in_ok-name.ensures c.requires.gap

pub returns-clause-sorted : goal.returns-clause-sorted
returns-clause-sorted c =
    let is : c.in_ok-name.name ≡ c.args.name.now = c.in_ok-name.ensures in
    let gap : IsInsertionIndexOfName (names c.args.entries.now.items) c.in_ok-name.name c.args.at = subst (λ (n : List ℕ). IsInsertionIndexOfName (names c.args.entries.now.items) n c.args.at) (sym is) c.requires.gap in
    subst AreSortedValidEntries (sym c.in_ok-insert.ensures.items)
    (sorted_insert c.args.entries.now.items c.args.at (record { name = c.in_ok-name.name; node = c.args.node }) gap (subst IsValidEntryName (sym is) c.requires.name) c.requires.tree c.requires.sorted)
