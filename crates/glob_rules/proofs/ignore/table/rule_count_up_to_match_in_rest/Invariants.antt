use Rattle.std.proofs.Common.{ℕ, length, ◌≤◌, ◌<◌, ◌≡◌, true, get_or, option_copied}
use Rattle.glob_rules.specs.Tables.{numbered_rule_matches_path}
use Rattle.glob_rules.proofs.ignore.table.rule_count_up_to_match_in_rest.Given as goal

abbrev pub invariant-loop-at : goal.invariant-loop-at
invariant-loop-at l = record {
  within : l.at ≤ length l.rest;
  none : (j : ℕ) → l.at ≤ j → j < length l.rest → numbered_rule_matches_path l.entries l.name (option_copied l.relative) l.is_dir (get_or l.rest j 0) ≡ true → ⊥;
}

abbrev pub decreases-loop-at : goal.decreases-loop-at
decreases-loop-at l = l.at
