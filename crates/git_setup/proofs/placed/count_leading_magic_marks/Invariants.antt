use Rattle.std.proofs.Common.{length, drop, ◌-◌, ◌≡◌, ◌+◌, ◌≤◌}
use Rattle.std.specs.List.{prefix_len}
use Rattle.glob_rules.specs.PathSpecText.{is_short_magic_mark}
use Rattle.git_setup.proofs.placed.count_leading_magic_marks.Given as goal

abbrev pub invariant-loop-count : goal.invariant-loop-count
invariant-loop-count l = (l.count ≤ length l.bytes) × (l.count + prefix_len is_short_magic_mark (drop l.count l.bytes) ≡ prefix_len is_short_magic_mark l.bytes)

abbrev pub decreases-loop-count : goal.decreases-loop-count
decreases-loop-count l = length l.bytes - l.count
