use Rattle.std.proofs.Common.{◌≡◌, length}
use Rattle.glob_rules.specs.AttributeOutcome.{found_state_of_name}
use Rattle.glob_rules.proofs.attributes.outcome.Outcome.found_state_of_name.Given as goal

abbrev pub invariant-loop-row : goal.invariant-loop-row
invariant-loop-row l = found_state_of_name l.name l.rest ≡ found_state_of_name l.name l.self.rows

abbrev pub decreases-loop-row : goal.decreases-loop-row
decreases-loop-row l = length l.rest
