use Rattle.std.proofs.Common.{◌≡◌, take}
use Rattle.glob_rules.proofs.attributes.collection.copy_attribute_names.Given as goal

abbrev pub invariant-loop-name : goal.invariant-loop-name
invariant-loop-name l = l.copies.items ≡ take l.name-index l.names
