use Rattle.std.proofs.Common.{◌≡◌}
use Rattle.std.specs.List.{filter, range_with_len}
use Rattle.glob_rules.specs.Tables.{agrees_with_found_by_core_flag}
use Rattle.glob_rules.proofs.ignore.table.rule_numbers_found_by_core_or_not.Given as goal

abbrev pub invariant-loop-number : goal.invariant-loop-number
invariant-loop-number l = l.numbers.items ≡ filter (agrees_with_found_by_core_flag l.entries l.is_found) (range_with_len 0 l.number)
