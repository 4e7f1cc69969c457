use Rattle.std.specs.Prelude.{◌≡◌, ◌++◌, drop, map, option_copied}
use Rattle.ls_files.specs.Choices.{listed_index_entries, listed_entries_after_path}
use Rattle.ls_files.specs.Unmatched.{place_of_index_entry}
use Rattle.ls_files.proofs.listed.push_places_of_listed_entries.Given as goal

abbrev pub invariant-loop-entry : goal.invariant-loop-entry
invariant-loop-entry l =
    l.places.items ++ map place_of_index_entry (listed_entries_after_path l.listing (option_copied l.last) (drop l.entry-index l.entries))
    ≡ l.fn.places.items ++ map place_of_index_entry (listed_index_entries l.listing l.entries)
