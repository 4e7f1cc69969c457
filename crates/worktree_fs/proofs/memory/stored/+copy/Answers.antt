use Rattle.std.proofs.Common.{◌<◌, sym, subst, arith}
use Rattle.worktree_fs.specs.Stored.{named_nodes_of_entries, termination_size_of_entries, termination_size_of_node}
use Rattle.worktree_fs.specs.declared.memory.stored.Entry.{Entry}
use Rattle.worktree_fs.proofs.Trees.EntryFalls.{entry_falls}
use Rattle.worktree_fs.proofs.memory.stored.+copy.Goals as goal

pub deep_copy_entries-copied-requires : goal.deep_copy_entries-copied-requires
deep_copy_entries-copied-requires t c =
    let falls : termination_size_of_node c.entry-item.result.node < termination_size_of_entries (named_nodes_of_entries c.args.entries.now) =
    subst (λ (e : Entry). termination_size_of_node e.node < termination_size_of_entries (named_nodes_of_entries c.args.entries.now)) (sym c.entry-item.is)
    (entry_falls c.args.entries.now c.loop-entry.entry-index c.entry-item.result c.loop-entry-test.true) in
    (omega (arith, c.decreases, falls), tt)
