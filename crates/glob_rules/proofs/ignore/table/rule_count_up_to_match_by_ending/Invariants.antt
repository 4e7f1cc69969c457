use Rattle.std.proofs.Common.{length, ◌≤◌, option_copied}
use Rattle.glob_rules.specs.Tables.{core_of_numbered_rule, numbered_rule_matches_path, LastCountedPasses, AllMatchesWithDottedEndingAreBelow}
use Rattle.glob_rules.proofs.ignore.table.rule_count_up_to_match_by_ending.Given as goal

abbrev pub invariant-loop-at : goal.invariant-loop-at
invariant-loop-at l = record {
  within : l.at ≤ length l.name;
  ends : LastCountedPasses (numbered_rule_matches_path l.entries l.name (option_copied l.relative) l.is_dir) l.last;
  more : l.found ≤ l.last;
  all : AllMatchesWithDottedEndingAreBelow (numbered_rule_matches_path l.entries l.name (option_copied l.relative) l.is_dir) (core_of_numbered_rule l.entries) l.sorted l.name l.at l.last;
}
