use Rattle.gitbase_core.specs.Path.{components, components_after_resolving_all}
use Rattle.gitbase_core.proofs.ClosedPaths.{Follows}
use Rattle.std.proofs.Common.{[]}
use Rattle.gitbase_core.proofs.path.PathText.normalize_without_leading_slash.Given as goal

abbrev pub invariant-loop-name : goal.invariant-loop-name
invariant-loop-name l = Follows l.normal l.name-iterator (components_after_resolving_all [] (components l.self))
