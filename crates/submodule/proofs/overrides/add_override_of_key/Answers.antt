use Rattle.submodule.proofs.OneSection.{one_after}
use Rattle.submodule.proofs.overrides.add_override_of_key.Goals as goal

pub returns-in-Some-clause-one : goal.returns-in-Some-clause-one
returns-in-Some-clause-one c = one_after c.push_value.result _ _ _ _ c.push_value.ensures.pushed c.push_value.ensures.refused c.requires.one
