use Rattle.std.proofs.Common.{◌≡◌, ◌++◌, map}
use Rattle.std.specs.Vec.Iter.{into_iter_items}
use Rattle.glob_rules.specs.AttributeOutcome.{row_without_state, names_of_rows}
use Rattle.glob_rules.proofs.attributes.outcome.rows_with_states_cleared.Given as goal

abbrev pub invariant-loop-row : goal.invariant-loop-row
invariant-loop-row l = l.made.items ++ map row_without_state (names_of_rows (into_iter_items l.row-iterator)) ≡ map row_without_state (names_of_rows l.fn.rows.items)
