use Rattle.std.proofs.Common.{length, ◌≡◌, reverse, option_copied}
use Rattle.git_config_lite.specs.Lookups.{last_value_in_sections}
use Rattle.git_config_lite.specs.Runs.{AreIndexRunsOfSections}
use Rattle.git_config_lite.proofs.runs.last_value_in_runs.Given as goal

abbrev pub invariant-loop-run : goal.invariant-loop-run
invariant-loop-run l = record {
  indexed : AreIndexRunsOfSections (reverse l.others) l.left;
  same : last_value_in_sections l.name (option_copied l.subsection) l.key l.left ≡ last_value_in_sections l.name (option_copied l.subsection) l.key l.sections;
}

abbrev pub decreases-loop-run : goal.decreases-loop-run
decreases-loop-run l = length l.others
