use Rattle.std.proofs.Common.{◌≡◌, ◌≤◌, ◌+◌, length}
use Rattle.git_config_lite.specs.Grammar.{parse_text_sections, parse_lines_from_number}
use Rattle.git_config_lite.proofs.draft.read.Given as goal

abbrev pub invariant-loop-line : goal.invariant-loop-line
invariant-loop-line l = record {
  counted : l.number + length l.line-iterator ≤ length l.bytes;
  same : parse_lines_from_number l.meta (l.number + 1) l.draft l.line-iterator ≡ parse_text_sections l.meta l.bytes;
}
