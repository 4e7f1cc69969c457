use Rattle.std.proofs.Common.{◌+◌, ◌*◌, ◌≤◌, ◌↔◌, length}
use Rattle.glob_rules.specs.Step.{MatchesAfterDirectories}
use Rattle.glob_rules.proofs.glob.verdict.matches_after_double_star_slash.Given as goal

abbrev pub invariant-loop-next : goal.invariant-loop-next
invariant-loop-next l = record {
  same : MatchesAfterDirectories l.mode l.pattern l.text ↔ MatchesAfterDirectories l.mode l.rest l.left;
  within : length l.left ≤ length l.text;
}

abbrev pub decreases-loop-next : goal.decreases-loop-next
decreases-loop-next l = length l.rest * (length l.text + 1) + length l.left
