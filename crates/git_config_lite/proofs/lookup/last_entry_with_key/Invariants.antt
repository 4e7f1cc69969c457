use Rattle.std.proofs.Common.{length, ◌≤◌, ◌≡◌, take}
use Rattle.git_config_lite.specs.Lookups.{last_entry_with_key}
use Rattle.git_config_lite.proofs.lookup.last_entry_with_key.Given as goal

abbrev pub invariant-loop-at : goal.invariant-loop-at
invariant-loop-at l = record {
  within : l.at ≤ length l.entries;
  same : last_entry_with_key l.key (take l.at l.entries) ≡ last_entry_with_key l.key l.entries;
}

abbrev pub decreases-loop-at : goal.decreases-loop-at
decreases-loop-at l = l.at
