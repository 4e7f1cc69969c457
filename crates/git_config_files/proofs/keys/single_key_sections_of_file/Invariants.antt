use Rattle.std.proofs.Common.{◌≡◌, ◌++◌}
use Rattle.git_config_files.specs.Includes.{single_key_sections}
use Rattle.git_config_files.proofs.keys.single_key_sections_of_file.Given as goal

abbrev pub invariant-loop-section : goal.invariant-loop-section
invariant-loop-section l = l.keys ++ single_key_sections l.section-iterator ≡ single_key_sections l.file.sections
