use Rattle.std.proofs.Common.{◌≡◌, ◌++◌}
use Rattle.submodule.specs.Overrides.{override_sections_of_names, metadata_of_overrides, overrides}
use Rattle.submodule.proofs.overrides.override_config_of_all_submodules.Given as goal

abbrev pub invariant-loop-name : goal.invariant-loop-name
invariant-loop-name l = l.made.sections ++ override_sections_of_names (metadata_of_overrides l.config.meta) l.config.sections l.name-iterator ≡ overrides l.config
