use Rattle.std.proofs.Common.{◌≡◌, take, map}
use Rattle.test_cases.specs.Cuts as cuts
use Rattle.test_cases.proofs.rows.replace_marks_by_line_feeds.Given as goal

abbrev pub invariant-loop-byte : goal.invariant-loop-byte
invariant-loop-byte l = l.lines.items ≡ map (cuts.line_feed_if_mark l.mark) (take l.byte-index l.text)
