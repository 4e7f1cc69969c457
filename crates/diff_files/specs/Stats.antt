-- What lstat(2) tells of the nodes of a file system, and where its links lead.
use Rattle.std.specs.Prelude.{ℕ, List, Option, bytes_eq, find, option_and_then, option_map}
use Rattle.diff_files.specs.declared.stats.node_stat.NodeStat.{NodeStat}

-- what is told of the node at a path, a last link not followed, and where a link there leads; none where nothing is there
pub record StatsByPath : Type 0 where
  pub stat_at : List ℕ → Option NodeStat
  pub target_at : List ℕ → Option (List ℕ)

-- the count of one that asks the system
pub record DiskStatsModel : Type 0 where
  pub faults : ℕ

-- ---- in memory

-- a node at a path, and where it leads, if it is a link
pub record StatNode : Type 0 where
  pub path : List ℕ
  pub stat : NodeStat
  pub target : Option (List ℕ)

-- the first of some nodes at a path
abbrev pub first_node_at_path : List StatNode → List ℕ → Option StatNode
first_node_at_path nodes path = find (λ (node : StatNode). bytes_eq node.path path) nodes

-- the stat fields of a node
abbrev pub stat_of_stat_node : StatNode → NodeStat
stat_of_stat_node node = node.stat

-- the target of a node that is a link
abbrev pub target_of_stat_node : StatNode → Option (List ℕ)
target_of_stat_node node = node.target

-- what nodes tell: each of the path at which it is listed, and the first of those at one path
abbrev pub stats_of_nodes : List StatNode → StatsByPath
stats_of_nodes nodes = record {
  stat_at = λ path. option_map stat_of_stat_node (first_node_at_path nodes path);
  target_at = λ path. option_and_then target_of_stat_node (first_node_at_path nodes path);
}
