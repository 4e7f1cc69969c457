use Rattle.std.proofs.Common.{◌≡◌, take}
use Rattle.worktree_fs.specs.Stored.{named_nodes_of_entries, AreSortedValidEntries}
use Rattle.worktree_fs.specs.Way.{entries_reached_by_way}
use Rattle.worktree_fs.proofs.memory.trace.entries_at_end_of_way.Given as goal

abbrev pub invariant-loop-at : goal.invariant-loop-at
invariant-loop-at l = record {
  here : entries_reached_by_way (take l.at-index l.way) (named_nodes_of_entries l.root) ≡ named_nodes_of_entries l.dir;
  sorted : AreSortedValidEntries l.dir;
}
