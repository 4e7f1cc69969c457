use Rattle.std.proofs.Common.{◌≡◌}
use Rattle.std.specs.List.{list_any}
use Rattle.git_setup.specs.Ignoring.{section_may_skip_submodule}
use Rattle.git_setup.proofs.ignores_here.config_may_skip_submodule.Given as goal

abbrev pub invariant-loop-section : goal.invariant-loop-section
invariant-loop-section l = list_any section_may_skip_submodule l.section-iterator ≡ list_any section_may_skip_submodule l.config.sections
