use Rattle.std.proofs.Common.{◌≡◌, take, map}
use Rattle.worktree_fs.proofs.memory.list_of.names_of_entries.Given as goal

abbrev pub invariant-loop-entry : goal.invariant-loop-entry
invariant-loop-entry l = l.names ≡ map (λ e. e.name) (take l.entry-index l.entries)
