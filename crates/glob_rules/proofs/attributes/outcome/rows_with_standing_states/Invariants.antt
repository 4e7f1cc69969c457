use Rattle.std.proofs.Common.{◌≡◌, ◌++◌, map}
use Rattle.std.specs.Vec.Iter.{into_iter_items}
use Rattle.glob_rules.specs.AttributeOutcome as outcomes
use Rattle.glob_rules.proofs.attributes.outcome.rows_with_standing_states.Given as goal

abbrev pub invariant-loop-row : goal.invariant-loop-row
invariant-loop-row l = l.made.items ++ map (outcomes.row_with_standing_state l.standing) (into_iter_items l.row-iterator) ≡ map (outcomes.row_with_standing_state l.standing) l.fn.rows.items
