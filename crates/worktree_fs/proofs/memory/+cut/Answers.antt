use Rattle.std.proofs.Common.{◌∙◌, length, List, sym, ap, subst, arith}
use Rattle.worktree_fs.specs.Tree.{directory}
use Rattle.worktree_fs.specs.Stored.{named_nodes_of_entries, AreSortedValidEntries}
use Rattle.worktree_fs.specs.declared.memory.stored.Entry.{Entry}
use Rattle.worktree_fs.proofs.Trees.Sorted.{sorted_tree}
use Rattle.worktree_fs.proofs.Trees.Cuts.{first_in_range, step_directory, step_way, step_there, step_cut, step_sorted, last_in_range, last_cut, sorted_remove}
use Rattle.worktree_fs.proofs.memory.+cut.Goals as goal

pub grow::remove_entry_by_positions-remove-removed-requires : goal.grow::remove_entry_by_positions-remove-removed-requires
grow::remove_entry_by_positions-remove-removed-requires t c = omega (arith, last_in_range c.args.entries.now.items c.args.way.now c.args.at c.in-None.ensures.none c.requires.there)

pub grow::remove_entry_by_positions-index_mut-entry-requires : goal.grow::remove_entry_by_positions-index_mut-entry-requires
grow::remove_entry_by_positions-index_mut-entry-requires t c =
    omega (arith, first_in_range c.args.entries.now.items c.args.way.now c.in-Some.first c.in-Some.rest.now c.args.at c.in-Some.ensures.some c.requires.is_way c.requires.there)

pub grow::remove_entry_by_positions-remove_descendant_by_positions-requires : goal.grow::remove_entry_by_positions-remove_descendant_by_positions-requires
grow::remove_entry_by_positions-remove_descendant_by_positions-requires t c =
    let es = c.args.entries.now.items in
    let d = c.index_mut-entry.result.now in
    let e = c.in-Some.ensures.some in (
      omega (arith, c.decreases, ap length e),
      (
        step_directory es c.args.way.now c.in-Some.first c.in-Some.rest.now c.args.at e c.requires.is_way c.requires.there d c.index_mut-entry.ensures.value,
        (
          step_way es c.args.way.now c.in-Some.first c.in-Some.rest.now c.args.at e c.requires.is_way c.requires.there d c.index_mut-entry.ensures.value,
          step_there es c.args.way.now c.in-Some.first c.in-Some.rest.now c.args.at e c.requires.is_way c.requires.there d c.index_mut-entry.ensures.value,
        ),
      ),
    )

pub grow::remove_entry_by_positions-returns-in-None-clause-cut : goal.grow::remove_entry_by_positions-returns-in-None-clause-cut
grow::remove_entry_by_positions-returns-in-None-clause-cut t c =
    ap (λ (es : List Entry). directory (named_nodes_of_entries es)) c.remove-removed.ensures.items
    ∙ last_cut c.args.entries.now.items c.args.way.now c.args.at c.in-None.ensures.none c.requires.there c.requires.sorted.rising

pub grow::remove_entry_by_positions-returns-in-None-clause-sorted : goal.grow::remove_entry_by_positions-returns-in-None-clause-sorted
grow::remove_entry_by_positions-returns-in-None-clause-sorted t c =
    subst AreSortedValidEntries (sym c.remove-removed.ensures.items)
    (sorted_remove c.args.entries.now.items c.args.at (last_in_range c.args.entries.now.items c.args.way.now c.args.at c.in-None.ensures.none c.requires.there) c.requires.sorted)

pub grow::remove_entry_by_positions-returns-in-Some-clause-cut : goal.grow::remove_entry_by_positions-returns-in-Some-clause-cut
grow::remove_entry_by_positions-returns-in-Some-clause-cut t c =
    step_cut c.args.entries.now.items c.args.way.now c.in-Some.first c.in-Some.rest.now c.args.at c.in-Some.ensures.some c.requires.is_way c.requires.there
    c.index_mut-entry.result.now c.index_mut-entry.ensures.value c.requires.sorted.rising c.remove_descendant_by_positions.new.self c.remove_descendant_by_positions.ensures.cut

pub grow::remove_entry_by_positions-returns-in-Some-clause-sorted : goal.grow::remove_entry_by_positions-returns-in-Some-clause-sorted
grow::remove_entry_by_positions-returns-in-Some-clause-sorted t c =
    step_sorted c.args.entries.now.items c.args.way.now c.in-Some.first c.in-Some.rest.now c.args.at c.in-Some.ensures.some c.requires.is_way c.requires.there
    c.index_mut-entry.result.now c.index_mut-entry.ensures.value c.requires.sorted c.remove_descendant_by_positions.new.self c.remove_descendant_by_positions.ensures.tree

pub stored::Stored::remove_descendant_by_positions-returns-clause-tree : goal.stored::Stored::remove_descendant_by_positions-returns-clause-tree
stored::Stored::remove_descendant_by_positions-returns-clause-tree t c = sorted_tree c.remove_entry_by_positions.new.entries.items c.remove_entry_by_positions.ensures.sorted
