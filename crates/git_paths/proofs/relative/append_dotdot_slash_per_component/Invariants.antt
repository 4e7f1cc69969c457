use Rattle.std.proofs.Common.{◌≡◌, ◌++◌, length}
use Rattle.gitbase_core.specs.Path.{components}
use Rattle.git_paths.specs.RelativeNames.{dotdot_slash_per_component}
use Rattle.git_paths.proofs.relative.append_dotdot_slash_per_component.Given as goal

abbrev pub invariant-loop-after : goal.invariant-loop-after
invariant-loop-after l = l.text.items ++ dotdot_slash_per_component (components l.left) ≡ l.fn.text.items ++ dotdot_slash_per_component (components l.names)

abbrev pub decreases-loop-after : goal.decreases-loop-after
decreases-loop-after l = length (components l.left)
