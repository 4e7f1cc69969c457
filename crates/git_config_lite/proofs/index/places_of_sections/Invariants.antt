use Rattle.std.proofs.Common.{◌≡◌, ◌++◌, length, drop}
use Rattle.git_config_lite.specs.SectionPlaces.{places_numbered_from}
use Rattle.git_config_lite.proofs.index.places_of_sections.Given as goal

abbrev pub invariant-loop-section : goal.invariant-loop-section
invariant-loop-section l = l.made.items ++ places_numbered_from (length l.made.items) (drop l.section-index l.sections) ≡ places_numbered_from 0 l.sections
