use Rattle.std.specs.Prelude.{◌≡◌, map, take}
use Rattle.ls_files.specs.Changed.{path_with_directory_flag_of_shown_entry}
use Rattle.ls_files.proofs.changed.places_of_shown_entries.Given as goal

abbrev pub invariant-loop-one : goal.invariant-loop-one
invariant-loop-one l = l.places.items ≡ map path_with_directory_flag_of_shown_entry (take l.one-index l.shown)
