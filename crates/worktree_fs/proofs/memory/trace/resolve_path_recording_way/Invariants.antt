use Rattle.std.proofs.Common.{◌≡◌, ◌*◌, ◌+◌, ◌^◌, ◌≤◌, length, [], vec_capacity}
use Rattle.gitbase_core.specs.Path.{components}
use Rattle.worktree_fs.specs.Tree.{resolve_components_within_links}
use Rattle.worktree_fs.specs.Stored.{named_nodes_of_entries}
use Rattle.worktree_fs.specs.Way.{directory_reached_by_way, IsDirectoryAtEndOfWay, directory_depth_of_entries}
use Rattle.worktree_fs.proofs.memory.trace.resolve_path_recording_way.Given as goal

-- what is left leads from here to where the path led at first
abbrev pub invariant-loop-component : goal.invariant-loop-component
invariant-loop-component l = record {
  leads : resolve_components_within_links 32 l.follow (directory_reached_by_way (named_nodes_of_entries l.root) []) (components l.path) ≡ resolve_components_within_links l.route.links l.follow (directory_reached_by_way (named_nodes_of_entries l.root) l.way.items) l.route.left;
  stands : IsDirectoryAtEndOfWay l.root l.dir l.way.items;
  room : directory_depth_of_entries (named_nodes_of_entries l.root) ≤ vec_capacity l.way;
  later : vec_capacity l.fn.way ≤ vec_capacity l.way;
}

abbrev pub decreases-loop-component : goal.decreases-loop-component
decreases-loop-component l = l.route.links * 2 ^ 64 + length l.route.left
