use Rattle.std.proofs.Common.{◌≤◌, length}
use Rattle.glob_rules.proofs.Reached.{Reached}
use Rattle.glob_rules.proofs.glob.run.match_until_stars.Given as goal

abbrev pub invariant-loop-ahead : goal.invariant-loop-ahead
invariant-loop-ahead l = record {
  reached : Reached l.mode l.fresh l.pattern l.text l.after_slash l.ahead l.left l.barred;
  shorter : length l.ahead ≤ length l.pattern;
  within : length l.left ≤ length l.text;
}

abbrev pub decreases-loop-ahead : goal.decreases-loop-ahead
decreases-loop-ahead l = length l.ahead
