use Rattle.std.proofs.Common.{length}
use Rattle.worktree_fs.proofs.memory.grow.+nest_node_in_new_directories.Given as goal

abbrev pub decreases-nest_node_in_new_directories : goal.decreases-nest_node_in_new_directories
decreases-nest_node_in_new_directories l = length l.path.now
