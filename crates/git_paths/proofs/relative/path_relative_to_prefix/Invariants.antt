use Rattle.std.proofs.Common.{◌≡◌, length}
use Rattle.gitbase_core.specs.Path.{components}
use Rattle.git_paths.specs.RelativeNames.{path_relative_to_components}
use Rattle.git_paths.proofs.relative.path_relative_to_prefix.Given as goal

abbrev pub invariant-loop-name : goal.invariant-loop-name
invariant-loop-name l = path_relative_to_components (components l.left) l.rest ≡ path_relative_to_components (components l.prefix) l.path

abbrev pub decreases-loop-name : goal.decreases-loop-name
decreases-loop-name l = length (components l.left)
