use Rattle.std.proofs.Common.{◌≡◌, option_copied}
use Rattle.git_places.specs.Format.{file_of_last_key_value_or, file_of_last_section_with_key}
use Rattle.git_places.proofs.format.file_of_last_section_with_key.Given as goal

abbrev pub invariant-loop-section : goal.invariant-loop-section
invariant-loop-section l = file_of_last_key_value_or (option_copied l.found) l.name l.key l.section-iterator ≡ file_of_last_section_with_key l.name l.key l.config.sections
