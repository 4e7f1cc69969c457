use Rattle.std.proofs.Common.{length, drop, ◌-◌, ◌≡◌, ◌+◌, ◌≤◌}
use Rattle.glob_rules.specs.Glob.{count_of_leading_stars}
use Rattle.glob_rules.proofs.glob.step.count_of_leading_stars.Given as goal

abbrev pub invariant-loop-count : goal.invariant-loop-count
invariant-loop-count l = (l.count ≤ length l.bytes) × (l.count + count_of_leading_stars (drop l.count l.bytes) ≡ count_of_leading_stars l.bytes)

abbrev pub decreases-loop-count : goal.decreases-loop-count
decreases-loop-count l = length l.bytes - l.count
