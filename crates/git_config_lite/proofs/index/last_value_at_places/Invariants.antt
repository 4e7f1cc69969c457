use Rattle.std.proofs.Common.{length, ◌≤◌, ◌≡◌, take, reverse, option_copied}
use Rattle.git_config_lite.specs.SectionPlaces.{value_of_first_place_with_key}
use Rattle.git_config_lite.proofs.index.last_value_at_places.Given as goal

abbrev pub invariant-loop-at : goal.invariant-loop-at
invariant-loop-at l = record {
  within : l.at ≤ length l.run;
  same : value_of_first_place_with_key l.name (option_copied l.subsection) l.key l.sections (reverse (take l.at l.run))
      ≡ value_of_first_place_with_key l.name (option_copied l.subsection) l.key l.sections (reverse l.run);
}

abbrev pub decreases-loop-at : goal.decreases-loop-at
decreases-loop-at l = l.at
