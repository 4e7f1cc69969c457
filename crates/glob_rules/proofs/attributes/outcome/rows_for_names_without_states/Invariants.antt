use Rattle.std.proofs.Common.{◌≡◌, map, take}
use Rattle.glob_rules.specs.AttributeOutcome as outcomes
use Rattle.glob_rules.proofs.attributes.outcome.rows_for_names_without_states.Given as goal

abbrev pub invariant-loop-name : goal.invariant-loop-name
invariant-loop-name l = l.rows.items ≡ map outcomes.row_without_state (take l.name-index l.names)
