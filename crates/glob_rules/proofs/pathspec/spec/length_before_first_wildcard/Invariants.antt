use Rattle.std.proofs.Common.{length, drop, ◌-◌, ◌≡◌, ◌+◌, ◌≤◌}
use Rattle.std.specs.List.{position_or_len}
use Rattle.glob_rules.specs.Glob.{is_glob_special_byte}
use Rattle.glob_rules.proofs.pathspec.spec.length_before_first_wildcard.Given as goal

abbrev pub invariant-loop-at : goal.invariant-loop-at
invariant-loop-at l = (l.at ≤ length l.path) × (l.at + position_or_len is_glob_special_byte (drop l.at l.path) ≡ position_or_len is_glob_special_byte l.path)

abbrev pub decreases-loop-at : goal.decreases-loop-at
decreases-loop-at l = length l.path - l.at
