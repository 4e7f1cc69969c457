use Rattle.std.proofs.Common.{length, ◌≡◌}
use Rattle.glob_rules.specs.AttributeLines.{without_leading_blanks}
use Rattle.glob_rules.proofs.attributes.line.without_leading_blanks.Given as goal

abbrev pub invariant-loop-byte : goal.invariant-loop-byte
invariant-loop-byte l = without_leading_blanks l.rest ≡ without_leading_blanks l.bytes

abbrev pub decreases-loop-byte : goal.decreases-loop-byte
decreases-loop-byte l = length l.rest
