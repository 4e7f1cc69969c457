use Rattle.std.proofs.Common.{◌≡◌, []}
use Rattle.submodule.specs.Active.{parse_active_specs_after, submodule_active_values}
use Rattle.submodule.proofs.is_active_platform.active_specs_of_config.Given as goal

abbrev pub invariant-loop-text : goal.invariant-loop-text
invariant-loop-text l = parse_active_specs_after l.defaults.ignore_case l.specs.items l.text-iterator ≡ parse_active_specs_after l.defaults.ignore_case [] (submodule_active_values l.config.sections)
