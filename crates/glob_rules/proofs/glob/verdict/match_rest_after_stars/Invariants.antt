use Rattle.std.proofs.Common.{◌+◌, ◌*◌, ◌≤◌, length}
use Rattle.glob_rules.proofs.Followed.{Follows}
use Rattle.glob_rules.proofs.glob.verdict.match_rest_after_stars.Given as goal

abbrev pub invariant-loop-barred : goal.invariant-loop-barred
invariant-loop-barred l = record {
  follows : Follows l.mode l.pattern l.text l.rest l.left;
  shorter : length l.rest ≤ length l.pattern;
  within : length l.left ≤ length l.text;
}

abbrev pub decreases-loop-barred : goal.decreases-loop-barred
decreases-loop-barred l = length l.rest * (length l.text + 1) + length l.left
