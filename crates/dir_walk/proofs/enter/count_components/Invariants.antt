use Rattle.std.proofs.Common.{◌≡◌, ◌+◌, length}
use Rattle.gitbase_core.specs.Path.{components}
use Rattle.dir_walk.proofs.enter.count_components.Given as goal

abbrev pub invariant-loop-next : goal.invariant-loop-next
invariant-loop-next l = l.depth + length (components l.rest) ≡ length (components l.path)

abbrev pub decreases-loop-next : goal.decreases-loop-next
decreases-loop-next l = length (components l.rest)
