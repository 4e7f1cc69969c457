use Rattle.std.proofs.Common.{length, ◌≤◌, reverse, take}
use Rattle.git_config_lite.specs.Runs.{AreIndexRunsOfSections}
use Rattle.git_config_lite.proofs.runs.pop_short_runs.Given as goal

abbrev pub invariant-loop-at : goal.invariant-loop-at
invariant-loop-at l = record {
  within : l.end ≤ length l.sections;
  indexed : AreIndexRunsOfSections (reverse l.runs.items) (take l.end l.sections);
}

abbrev pub decreases-loop-at : goal.decreases-loop-at
decreases-loop-at l = length l.runs.items
