use Rattle.std.proofs.Common.{◌≡◌, ◌≤◌, ◌^◌, length}
use Rattle.git_index.specs.Varint as varint
use Rattle.git_index.proofs.varint.read_varint.Given as goal

abbrev pub invariant-loop-byte : goal.invariant-loop-byte
invariant-loop-byte l = record {
  same : varint.read_varint_after_part l.so_far l.left ≡ varint.read_varint l.bytes;
  small : l.so_far ≤ 2 ^ 32;
}

abbrev pub decreases-loop-byte : goal.decreases-loop-byte
decreases-loop-byte l = length l.left
