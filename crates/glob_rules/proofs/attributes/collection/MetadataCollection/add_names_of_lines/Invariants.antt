use Rattle.std.proofs.Common.{◌≡◌, ℕ, List, length}
use Rattle.glob_rules.specs.AttributeNames.{attribute_names_of_lines, names_with_names_added_once, AddsSomeFirstNames}
use Rattle.glob_rules.proofs.attributes.collection.MetadataCollection.add_names_of_lines.Given as goal

abbrev pub invariant-loop-line : goal.invariant-loop-line
invariant-loop-line l = record {
  same : names_with_names_added_once l.self (attribute_names_of_lines l.rest) ≡ names_with_names_added_once l.fn.self (attribute_names_of_lines l.lines);
  part : (seen : List (List ℕ)) → AddsSomeFirstNames l.self (attribute_names_of_lines l.rest) seen → AddsSomeFirstNames l.fn.self (attribute_names_of_lines l.lines) seen;
}

abbrev pub decreases-loop-line : goal.decreases-loop-line
decreases-loop-line l = length l.rest
