use Rattle.std.proofs.Common.{length, ◌≤◌, ◌≡◌, take, option_copied}
use Rattle.git_config_lite.specs.Lookups.{last_value_in_sections}
use Rattle.git_config_lite.proofs.lookup.last_value_in_sections.Given as goal

abbrev pub invariant-loop-at : goal.invariant-loop-at
invariant-loop-at l = record {
  within : l.at ≤ length l.sections;
  same : last_value_in_sections l.name (option_copied l.subsection) l.key (take l.at l.sections) ≡ last_value_in_sections l.name (option_copied l.subsection) l.key l.sections;
}

abbrev pub decreases-loop-at : goal.decreases-loop-at
decreases-loop-at l = l.at
