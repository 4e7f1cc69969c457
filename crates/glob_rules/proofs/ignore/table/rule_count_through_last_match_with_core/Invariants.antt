use Rattle.std.proofs.Common.{ℕ, length, ◌≤◌, ◌<◌, ◌≡◌, true, get_or, option_copied}
use Rattle.std.specs.Ordering.{is_le}
use Rattle.gitbase_core.specs.Index.{compare_path_bytes}
use Rattle.glob_rules.specs.Tables.{core_of_numbered_rule, numbered_rule_matches_path}
use Rattle.glob_rules.proofs.ignore.table.rule_count_through_last_match_with_core.Given as goal

abbrev pub invariant-loop-at : goal.invariant-loop-at
invariant-loop-at l = record {
  within : l.at ≤ length l.sorted;
  upto : (j : ℕ) → j < l.at → is_le (compare_path_bytes (core_of_numbered_rule l.entries (get_or l.sorted j 0)) l.text) ≡ true;
  none : (j : ℕ) → l.at ≤ j → j < length l.sorted → core_of_numbered_rule l.entries (get_or l.sorted j 0) ≡ l.text
      → numbered_rule_matches_path l.entries l.name (option_copied l.relative) l.is_dir (get_or l.sorted j 0) ≡ true → ⊥;
}

abbrev pub decreases-loop-at : goal.decreases-loop-at
decreases-loop-at l = l.at
