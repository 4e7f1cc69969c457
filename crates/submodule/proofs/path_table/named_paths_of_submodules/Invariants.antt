use Rattle.std.proofs.Common.{◌≡◌, ◌++◌, drop, length}
use Rattle.submodule.specs.NamedPaths.{named_paths_of_submodules}
use Rattle.submodule.proofs.path_table.named_paths_of_submodules.Given as goal

abbrev pub invariant-loop-name : goal.invariant-loop-name
invariant-loop-name l = l.rows.items ++ named_paths_of_submodules l.config.sections (drop l.name-index l.names) ≡ named_paths_of_submodules l.config.sections l.names
