use Rattle.std.proofs.Common.{length, ◌≤◌, ◌≡◌, take, reverse}
use Rattle.glob_rules.specs.AttributeValues.{macro_body_in_first_list}
use Rattle.glob_rules.proofs.attributes.search.Search.assignments_of_macro.Given as goal

abbrev pub invariant-loop-at : goal.invariant-loop-at
invariant-loop-at l = record {
  within : l.at ≤ length l.self;
  same : macro_body_in_first_list l.name (reverse (take l.at l.self)) ≡ macro_body_in_first_list l.name (reverse l.self);
}

abbrev pub decreases-loop-at : goal.decreases-loop-at
decreases-loop-at l = l.at
