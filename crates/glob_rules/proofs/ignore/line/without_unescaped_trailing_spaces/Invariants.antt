use Rattle.std.proofs.Common.{length, ◌≤◌, ◌≡◌, take, reverse}
use Rattle.glob_rules.specs.Ignore.{reversed_line_without_spaces}
use Rattle.glob_rules.proofs.ignore.line.without_unescaped_trailing_spaces.Given as goal

abbrev pub invariant-loop-end : goal.invariant-loop-end
invariant-loop-end l = record {
  within : l.end ≤ length l.line;
  same : reversed_line_without_spaces (reverse (take l.end l.line)) ≡ reversed_line_without_spaces (reverse l.line);
}

abbrev pub decreases-loop-end : goal.decreases-loop-end
decreases-loop-end l = l.end
