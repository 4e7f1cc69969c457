use Rattle.std.proofs.Common.{◌≡◌, ◌++◌, length}
use Rattle.worktree_fs.specs.Disk.{AreValidListedNames, composed_names_of_chunk}
use Rattle.worktree_fs.proofs.disk.listed.append_nul_separated_names.Given as goal

abbrev pub invariant-loop-name : goal.invariant-loop-name
invariant-loop-name l =
    AreValidListedNames l.composes l.names.items
    × (l.names.items ++ composed_names_of_chunk l.composes l.rest ≡ l.fn.names.items ++ composed_names_of_chunk l.composes l.piece)

abbrev pub decreases-loop-name : goal.decreases-loop-name
decreases-loop-name l = length l.rest
