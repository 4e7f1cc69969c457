use Rattle.std.proofs.Common.{◌≡◌, take}
use Rattle.std.specs.List.{flat_map}
use Rattle.tizhagor.specs.Patterns.{rule_line_of_pattern}
use Rattle.tizhagor.proofs.patterns.rules_text_of_patterns.Given as goal

abbrev pub invariant-loop-pattern : goal.invariant-loop-pattern
invariant-loop-pattern l = l.text.items ≡ flat_map rule_line_of_pattern (take l.pattern-index l.patterns)
