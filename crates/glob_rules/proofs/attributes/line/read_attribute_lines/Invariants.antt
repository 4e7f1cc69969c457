use Rattle.std.proofs.Common.{length, ◌≤◌, ◌≡◌, ◌+◌, ◌++◌}
use Rattle.glob_rules.specs.AttributeLines.{lines, attribute_lines_from_number}
use Rattle.glob_rules.proofs.attributes.line.read_attribute_lines.Given as goal

abbrev pub invariant-loop-text : goal.invariant-loop-text
invariant-loop-text l = record {
  counted : l.number + length l.text-iterator ≤ length l.bytes;
  same : l.made.items ++ attribute_lines_from_number l.macros (l.number + 1) l.text-iterator ≡ lines l.macros l.bytes;
}
