use Rattle.std.proofs.Common.{◌≡◌, ◌++◌, map}
use Rattle.std.specs.Vec.Iter.{into_iter_items}
use Rattle.tizhagor.specs.Listings.{named_spec_of_asked_spec}
use Rattle.tizhagor.proofs.files.named_specs_of_asked_specs.Given as goal

abbrev pub invariant-loop-asked : goal.invariant-loop-asked
invariant-loop-asked l = l.named.items ++ map named_spec_of_asked_spec (into_iter_items l.asked-iterator) ≡ map named_spec_of_asked_spec l.fn.each
