use Rattle.std.proofs.Common.{length, ◌≤◌, ◌≡◌, ◌+◌, ◌++◌}
use Rattle.glob_rules.specs.Ignore.{entries, parse_ignore_lines_from_number}
use Rattle.glob_rules.proofs.ignore.line.read_ignore_rules.Given as goal

abbrev pub invariant-loop-text : goal.invariant-loop-text
invariant-loop-text l = record {
  counted : l.line + length l.text-iterator ≤ length l.bytes;
  same : l.rules.items ++ parse_ignore_lines_from_number l.parse.support_precious (l.line + 1) l.text-iterator ≡ entries l.parse.support_precious l.bytes;
}
