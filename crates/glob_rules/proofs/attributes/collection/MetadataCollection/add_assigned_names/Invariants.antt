use Rattle.std.proofs.Common.{◌≡◌, ℕ, List, length}
use Rattle.glob_rules.specs.AttributeNames.{names_of_assignments, names_with_names_added_once, AddsSomeFirstNames}
use Rattle.glob_rules.proofs.attributes.collection.MetadataCollection.add_assigned_names.Given as goal

abbrev pub invariant-loop-assigned : goal.invariant-loop-assigned
invariant-loop-assigned l = record {
  same : names_with_names_added_once l.self (names_of_assignments l.rest) ≡ names_with_names_added_once l.fn.self (names_of_assignments l.assignments);
  part : (seen : List (List ℕ)) → AddsSomeFirstNames l.self (names_of_assignments l.rest) seen → AddsSomeFirstNames l.fn.self (names_of_assignments l.assignments) seen;
}

abbrev pub decreases-loop-assigned : goal.decreases-loop-assigned
decreases-loop-assigned l = length l.rest
