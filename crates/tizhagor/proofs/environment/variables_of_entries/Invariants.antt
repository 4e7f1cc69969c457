use Rattle.std.proofs.Common.{◌≡◌, take}
use Rattle.std.specs.List.{flat_map}
use Rattle.tizhagor.specs.Environment.{variable_of_entry}
use Rattle.tizhagor.proofs.environment.variables_of_entries.Given as goal

abbrev pub invariant-loop-entry : goal.invariant-loop-entry
invariant-loop-entry l = l.variables.items ≡ flat_map variable_of_entry (take l.entry-index l.entries)
