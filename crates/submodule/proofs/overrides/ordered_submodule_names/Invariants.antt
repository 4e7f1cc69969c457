use Rattle.std.proofs.Common.{◌≡◌}
use Rattle.submodule.specs.Overrides.{ordered_names_after_sections, ordered_submodule_names}
use Rattle.submodule.proofs.overrides.ordered_submodule_names.Given as goal

abbrev pub invariant-loop-section : goal.invariant-loop-section
invariant-loop-section l = ordered_names_after_sections l.names.keys l.section-iterator ≡ ordered_submodule_names l.config.sections
