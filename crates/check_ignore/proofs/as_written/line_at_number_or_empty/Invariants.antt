use Rattle.std.proofs.Common.{length, ◌≤◌, ◌≡◌, ◌+◌}
use Rattle.check_ignore.specs.AsWritten.{line_at_number_counting_from, line_at_number_or_empty}
use Rattle.check_ignore.proofs.as_written.line_at_number_or_empty.Given as goal

abbrev pub invariant-loop-line : goal.invariant-loop-line
invariant-loop-line l = record {
  counted : l.at + length l.line-iterator ≤ length l.fn.bytes;
  same : line_at_number_counting_from (l.at + 1) l.number l.line-iterator ≡ line_at_number_or_empty l.fn.bytes l.number;
}
