use Rattle.std.proofs.Common.{length, drop, ◌-◌, ◌≡◌, ◌+◌, ◌≤◌}
use Rattle.std.specs.List.{position_or_len}
use Rattle.glob_rules.specs.AttributeWords.{is_equals_sign}
use Rattle.glob_rules.proofs.attributes.word.length_before_first_equals.Given as goal

abbrev pub invariant-loop-at : goal.invariant-loop-at
invariant-loop-at l = (l.at ≤ length l.word) × (l.at + position_or_len is_equals_sign (drop l.at l.word) ≡ position_or_len is_equals_sign l.word)

abbrev pub decreases-loop-at : goal.decreases-loop-at
decreases-loop-at l = length l.word - l.at
