use Rattle.std.proofs.Common.{length, drop, ◌-◌, ◌≡◌, ◌+◌, ◌≤◌}
use Rattle.std.specs.List.{position_or_len}
use Rattle.glob_rules.specs.AttributeWords.{is_space_or_tab}
use Rattle.glob_rules.proofs.attributes.word.length_before_first_blank.Given as goal

abbrev pub invariant-loop-at : goal.invariant-loop-at
invariant-loop-at l = (l.at ≤ length l.text) × (l.at + position_or_len is_space_or_tab (drop l.at l.text) ≡ position_or_len is_space_or_tab l.text)

abbrev pub decreases-loop-at : goal.decreases-loop-at
decreases-loop-at l = length l.text - l.at
