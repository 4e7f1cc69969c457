use Rattle.std.proofs.Common.{rules}
use Rattle.submodule.proofs.KeptNames.{still}
use Rattle.submodule.proofs.file.File.append_submodule_overrides.Goals as goal

pub invariant_of-self-2 : goal.invariant_of-self-2
invariant_of-self-2 c = (still c.self.inside.names.items c.self.inside.config c.in_ok-overrides.overrides c.append.new.self c.args.config.now c.self.invariant.0 c.in_ok-append.ensures.appended c.in_ok-overrides.ensures, search rules)
