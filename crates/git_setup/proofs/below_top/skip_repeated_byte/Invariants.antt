use Rattle.std.proofs.Common.{length, drop, ◌-◌, ◌≤◌, ◌≡◌}
use Rattle.git_setup.specs.BelowTop as words
use Rattle.git_setup.proofs.below_top.skip_repeated_byte.Given as goal

abbrev pub invariant-loop-at : goal.invariant-loop-at
invariant-loop-at l = (l.at ≤ length l.text) × (words.skip_repeated_byte l.mark (drop l.at l.text) ≡ words.skip_repeated_byte l.mark l.text)

abbrev pub decreases-loop-at : goal.decreases-loop-at
decreases-loop-at l = length l.text - l.at
