use Rattle.std.proofs.Common.{◌≡◌, false, length}
use Rattle.git_index.specs.Extensions as extensions
use Rattle.git_index.proofs.extensions.read_sparse_mark_of_extensions.Given as goal

abbrev pub invariant-loop-left : goal.invariant-loop-left
invariant-loop-left l = extensions.read_sparse_mark_of_rest 0 l.is_sparse l.left ≡ extensions.read_sparse_mark_of_rest 0 false l.bytes

abbrev pub decreases-loop-left : goal.decreases-loop-left
decreases-loop-left l = length l.left
