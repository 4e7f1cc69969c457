use Rattle.std.proofs.Common.{length, ◌≤◌, ◌≡◌, take, option_copied}
use Rattle.glob_rules.specs.Ignore.{last_matching_entry}
use Rattle.glob_rules.proofs.ignore.entries.last_matching_entry_by_trial.Given as goal

abbrev pub invariant-loop-at : goal.invariant-loop-at
invariant-loop-at l = record {
  within : l.at ≤ length l.entries;
  same : last_matching_entry (take l.at l.entries) l.name (option_copied l.relative) l.is_dir l.case ≡ last_matching_entry l.entries l.name (option_copied l.relative) l.is_dir l.case;
}

abbrev pub decreases-loop-at : goal.decreases-loop-at
decreases-loop-at l = l.at
