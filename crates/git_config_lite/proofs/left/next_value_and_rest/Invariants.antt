use Rattle.std.proofs.Common.{◌≡◌, ◌++◌, length, option_copied}
use Rattle.git_config_lite.specs.Lookups.{values_of_key_in_entries, all_string_values}
use Rattle.git_config_lite.specs.Left.{values_left}
use Rattle.git_config_lite.proofs.left.next_value_and_rest.Given as goal

abbrev pub invariant-loop-text : goal.invariant-loop-text
invariant-loop-text l = values_of_key_in_entries l.left.key.now l.entries ++ all_string_values l.left.name.now (option_copied l.left.subsection) l.left.key.now l.sections ≡ values_left l.left

abbrev pub decreases-loop-text : goal.decreases-loop-text
decreases-loop-text l = length l.sections
