use Rattle.std.proofs.Common.{◌≡◌, length}
use Rattle.git_config_lite.specs.Values.{without_leading_blank_elements}
use Rattle.git_config_lite.proofs.value.without_leading_blank_elements.Given as goal

abbrev pub invariant-loop-first : goal.invariant-loop-first
invariant-loop-first l = without_leading_blank_elements l.rest ≡ without_leading_blank_elements l.elements

abbrev pub decreases-loop-first : goal.decreases-loop-first
decreases-loop-first l = length l.rest
