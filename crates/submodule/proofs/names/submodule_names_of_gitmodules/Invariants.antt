use Rattle.std.proofs.Common.{◌≡◌}
use Rattle.submodule.specs.Names.{names_after_reading_sections, submodule_names_of_gitmodules}
use Rattle.submodule.proofs.names.submodule_names_of_gitmodules.Given as goal

abbrev pub invariant-loop-section : goal.invariant-loop-section
invariant-loop-section l = names_after_reading_sections l.known l.section-iterator ≡ submodule_names_of_gitmodules l.config.sections
