use Rattle.std.proofs.Common.{◌≡◌, length}
use Rattle.git_config_lite.specs.Lookups.{values_of_key_in_entries}
use Rattle.git_config_lite.proofs.left.first_value_of_key_and_rest.Given as goal

abbrev pub invariant-loop-entry : goal.invariant-loop-entry
invariant-loop-entry l = values_of_key_in_entries l.key l.rest ≡ values_of_key_in_entries l.key l.entries

abbrev pub decreases-loop-entry : goal.decreases-loop-entry
decreases-loop-entry l = length l.rest
