use Rattle.std.proofs.Common.{◌≡◌, ◌+◌, ◌≤◌, length}
use Rattle.gitbase_core.specs.Path.{pieces_between_slashes}
use Rattle.worktree_fs.proofs.memory.grow.count_slash_separated_pieces.Given as goal

abbrev pub invariant-loop-behind : goal.invariant-loop-behind
invariant-loop-behind l = record {
  counted : l.count + length (pieces_between_slashes l.rest) ≡ length (pieces_between_slashes l.path) + 1;
  shorter : l.count + length l.rest ≤ length l.path + 1;
}

abbrev pub decreases-loop-behind : goal.decreases-loop-behind
decreases-loop-behind l = length l.rest
