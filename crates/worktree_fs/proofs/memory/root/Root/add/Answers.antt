use Rattle.std.proofs.Common.{arith}
use Rattle.gitbase_core.specs.Path.{pieces_between_slashes}
use Rattle.worktree_fs.specs.Stored.{named_nodes_of_entries}
use Rattle.worktree_fs.proofs.Trees.Depths.{depth-added, kept_names}
use Rattle.worktree_fs.proofs.memory.root.Root.add.Goals as goal

pub invariant_of-self-2 : goal.invariant_of-self-2
invariant_of-self-2 c = (
  c.add_node_below_entries.ensures.sorted,
  depth-added c.add_node_below_entries.result (named_nodes_of_entries c.self.inside.entries.items) (named_nodes_of_entries c.add_node_below_entries.new.entries.items) (pieces_between_slashes c.args.path.now) c.args.node _
      c.add_node_below_entries.ensures.grown (kept_names c.add_node_below_entries.result _ _ c.add_node_below_entries.ensures.unchanged)
      (omega (arith, c.in_ok-reserve.ensures.ok, c.clear.ensures.len, c.count_slash_separated_pieces.ensures))
      c.requires.depth
      (omega (arith, c.self.invariant.1, c.clear.ensures.capacity, c.in_ok-reserve.ensures.capacity)),
)
