use Rattle.std.proofs.Common.{◌≡◌, []}
use Rattle.gitbase_core.specs.Path.{components}
use Rattle.git_places.specs.Upward.{join_components}
use Rattle.git_places.proofs.upward.relative.Given as goal

abbrev pub invariant-loop-name : goal.invariant-loop-name
invariant-loop-name l = join_components l.made l.name-iterator ≡ join_components [] (components l.path)
