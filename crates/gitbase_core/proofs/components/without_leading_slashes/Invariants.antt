use Rattle.std.proofs.Common.{◌≡◌, length}
use Rattle.gitbase_core.specs.Path.{components, without_leading_slashes}
use Rattle.gitbase_core.proofs.components.without_leading_slashes.Given as goal

abbrev pub invariant-loop-rest : goal.invariant-loop-rest
invariant-loop-rest l = (components l.rest ≡ components l.path) × (without_leading_slashes l.rest ≡ without_leading_slashes l.path)

abbrev pub decreases-loop-rest : goal.decreases-loop-rest
decreases-loop-rest l = length l.rest
