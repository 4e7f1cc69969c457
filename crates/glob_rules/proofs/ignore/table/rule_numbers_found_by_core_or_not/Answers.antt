use Rattle.glob_rules.specs.Tables.{agrees_with_found_by_core_flag}
use Rattle.glob_rules.proofs.Tabled.{kept_more}
use Rattle.glob_rules.proofs.ignore.table.rule_numbers_found_by_core_or_not.Goals as goal

pub loop-number-preserved : goal.loop-number-preserved
loop-number-preserved c =
    kept_more (agrees_with_found_by_core_flag c.args.entries.now c.args.is_found) c.loop-number.number c.loop-number.numbers.items _ c.agrees_with_found_by_core_flag.result
    c.loop-number.invariant c.agrees_with_found_by_core_flag.ensures c.in_ok-numbers.ensures
