use Rattle.submodule.proofs.Parts.{same_as_contains}
use Rattle.submodule.proofs.text.contains.Goals as goal

pub returns : goal.returns
returns c = same_as_contains c.args.part.now c.args.text.now _ c.contains_str.ensures
