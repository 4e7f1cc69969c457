use Rattle.std.proofs.Common.{◌≡◌}
use Rattle.submodule.specs.Access.{config_path}
use Rattle.submodule.proofs.file.File.config_path.Given as goal

abbrev pub invariant-loop-section : goal.invariant-loop-section
invariant-loop-section l = config_path l.section-iterator ≡ config_path l.self.sections
