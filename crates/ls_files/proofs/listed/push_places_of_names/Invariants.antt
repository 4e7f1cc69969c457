use Rattle.std.specs.Prelude.{◌≡◌, ◌++◌, map, take}
use Rattle.ls_files.specs.Unmatched.{place_from_name}
use Rattle.ls_files.proofs.listed.push_places_of_names.Given as goal

abbrev pub invariant-loop-name : goal.invariant-loop-name
invariant-loop-name l = l.places.items ≡ l.fn.places.items ++ map place_from_name (take l.name-index l.names)
