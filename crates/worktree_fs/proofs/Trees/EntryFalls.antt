-- Each node of a directory is smaller than the directory.
use Rattle.std.proofs.Common.{ℕ, zero, suc, ◌<◌, List, [], ◌∷◌, length, get_or, arith}
use Rattle.worktree_fs.specs.Stored.{named_nodes_of_entries, termination_size_of_entries, termination_size_of_node}
use Rattle.worktree_fs.specs.declared.memory.stored.Entry.{Entry}

pub entry_falls : (es : List Entry) (i : ℕ) (d : Entry) → i < length es → termination_size_of_node (get_or es i d).node < termination_size_of_entries (named_nodes_of_entries es)
entry_falls [] i d lt = absurd (omega arith)
entry_falls (e ∷ es) zero d lt = omega arith
entry_falls (e ∷ es) (suc i) d lt = omega (arith, entry_falls es i d (omega arith))
