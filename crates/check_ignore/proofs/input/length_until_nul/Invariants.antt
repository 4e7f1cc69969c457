use Rattle.std.proofs.Common.{length, drop, ◌-◌, ◌≡◌, ◌+◌, ◌≤◌}
use Rattle.std.specs.List.{position_or_len}
use Rattle.gitbase_core.specs.Text.{is_nul}
use Rattle.check_ignore.proofs.input.length_until_nul.Given as goal

abbrev pub invariant-loop-at : goal.invariant-loop-at
invariant-loop-at l = (l.at ≤ length l.text) × (l.at + position_or_len is_nul (drop l.at l.text) ≡ position_or_len is_nul l.text)

abbrev pub decreases-loop-at : goal.decreases-loop-at
decreases-loop-at l = length l.text - l.at
