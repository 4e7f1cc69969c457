use Rattle.std.proofs.Common.{length, drop, ◌-◌, ◌≡◌, ◌+◌, ◌≤◌}
use Rattle.std.specs.List.{position_or_len}
use Rattle.glob_rules.specs.Glob.{is_glob_special_byte}
use Rattle.git_clean.proofs.leading_pathspec.length_before_first_wildcard.Given as goal

abbrev pub invariant-loop-at : goal.invariant-loop-at
invariant-loop-at l = (l.at ≤ length l.text) × (l.at + position_or_len is_glob_special_byte (drop l.at l.text) ≡ position_or_len is_glob_special_byte l.text)

abbrev pub decreases-loop-at : goal.decreases-loop-at
decreases-loop-at l = length l.text - l.at
