use Rattle.std.proofs.Common.{length, drop, nat_eq, ◌-◌, ◌≡◌, ◌+◌, ◌≤◌}
use Rattle.std.specs.List.{common_prefix_len}
use Rattle.glob_rules.proofs.pathspec.common.common_prefix_length.Given as goal

abbrev pub invariant-loop-at : goal.invariant-loop-at
invariant-loop-at l = record {
  left : l.at ≤ length l.left;
  right : l.at ≤ length l.right;
  same : l.at + common_prefix_len nat_eq (drop l.at l.left) (drop l.at l.right) ≡ common_prefix_len nat_eq l.left l.right;
}

abbrev pub decreases-loop-at : goal.decreases-loop-at
decreases-loop-at l = length l.left - l.at
