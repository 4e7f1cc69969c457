use Rattle.std.proofs.Common.{length, ◌≡◌, ◌++◌}
use Rattle.glob_rules.specs.AttributeWords.{parse_assignments}
use Rattle.glob_rules.proofs.attributes.word.read_assignments.Given as goal

abbrev pub invariant-loop-items : goal.invariant-loop-items
invariant-loop-items l = l.items.items ++ parse_assignments l.left ≡ parse_assignments l.text

abbrev pub decreases-loop-items : goal.decreases-loop-items
decreases-loop-items l = length l.left
