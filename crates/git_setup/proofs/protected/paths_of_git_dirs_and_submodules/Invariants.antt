use Rattle.std.proofs.Common.{◌≡◌, drop}
use Rattle.git_setup.specs.Protected.{paths_of_git_dirs_and_submodules, paths_with_submodules}
use Rattle.git_setup.proofs.protected.paths_of_git_dirs_and_submodules.Given as goal

abbrev pub invariant-loop-entry : goal.invariant-loop-entry
invariant-loop-entry l = paths_with_submodules l.paths.keys (drop l.entry-index l.entries) ≡ paths_of_git_dirs_and_submodules l.own l.entries
