use Rattle.worktree_fs.specs.Stored.{named_nodes_of_entries}
use Rattle.worktree_fs.proofs.Routes.Ways.{here-take}
use Rattle.worktree_fs.proofs.memory.trace.entries_at_end_of_way.Goals as goal

pub loop-at-preserved : goal.loop-at-preserved
loop-at-preserved c = record {
  here = here-take c.args.way.now c.loop-at.at-index (named_nodes_of_entries c.args.root.now) (named_nodes_of_entries c.loop-at.dir.now) (named_nodes_of_entries c.entries_of_child_directory-dir.result.now) c.loop-at-test.true c.loop-at.invariant.here c.entries_of_child_directory-dir.ensures.names;
  sorted = c.entries_of_child_directory-dir.ensures.sorted;
}
