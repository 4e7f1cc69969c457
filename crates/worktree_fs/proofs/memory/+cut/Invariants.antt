use Rattle.std.proofs.Common.{length, ◌+◌, ◌*◌}
use Rattle.worktree_fs.proofs.memory.+cut.Given as goal

abbrev pub decreases-grow::remove_entry_by_positions : goal.decreases-grow::remove_entry_by_positions
decreases-grow::remove_entry_by_positions l = 2 * length l.way.now

abbrev pub decreases-stored::Stored::remove_descendant_by_positions : goal.decreases-stored::Stored::remove_descendant_by_positions
decreases-stored::Stored::remove_descendant_by_positions l = 2 * length l.way.now + 1
