use Rattle.std.proofs.Common.{◌≡◌, ◌≤◌, ◌-◌, length, take}
use Rattle.clean_plan.proofs.shared.shared_prefix_length.Given as goal

abbrev pub invariant-loop-shared : goal.invariant-loop-shared
invariant-loop-shared l = (l.shared ≤ length l.one) × (l.shared ≤ length l.other) × (take l.shared l.one ≡ take l.shared l.other)

abbrev pub decreases-loop-shared : goal.decreases-loop-shared
decreases-loop-shared l = length l.one - l.shared
