use Rattle.std.proofs.Common.{◌≡◌, take}
use Rattle.worktree_fs.specs.Tree.{reversed_names_from_root}
use Rattle.worktree_fs.specs.Changes.{slash_before_each_reversed_name}
use Rattle.worktree_fs.specs.Stored.{named_nodes_of_entries, AreSortedValidEntries}
use Rattle.worktree_fs.specs.Way.{entries_reached_by_way, directory_reached_by_way}
use Rattle.worktree_fs.proofs.memory.spell.spell_path_of_way.Given as goal

abbrev pub invariant-loop-at : goal.invariant-loop-at
invariant-loop-at l = record {
  text : l.text.items ≡ slash_before_each_reversed_name (reversed_names_from_root (directory_reached_by_way (named_nodes_of_entries l.root) (take l.at-index l.way)));
  here : entries_reached_by_way (take l.at-index l.way) (named_nodes_of_entries l.root) ≡ named_nodes_of_entries l.dir;
  sorted : AreSortedValidEntries l.dir;
}
