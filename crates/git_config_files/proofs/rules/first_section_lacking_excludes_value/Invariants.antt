use Rattle.std.proofs.Common.{◌≡◌, find}
use Rattle.git_config_files.specs.Rules.{section_lacks_excludes_file_value}
use Rattle.git_config_files.proofs.rules.first_section_lacking_excludes_value.Given as goal

abbrev pub invariant-loop-section : goal.invariant-loop-section
invariant-loop-section l = find section_lacks_excludes_file_value l.section-iterator ≡ find section_lacks_excludes_file_value l.config.sections
