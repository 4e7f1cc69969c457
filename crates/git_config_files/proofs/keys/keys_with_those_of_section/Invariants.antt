use Rattle.std.proofs.Common.{◌≡◌, ◌++◌, map, take}
use Rattle.git_config_files.specs.Includes.{single_key_section}
use Rattle.git_config_files.proofs.keys.keys_with_those_of_section.Given as goal

abbrev pub invariant-loop-entry : goal.invariant-loop-entry
invariant-loop-entry l = l.all ≡ l.fn.keys ++ map (single_key_section l.section) (take l.entry-index l.entry-items)
