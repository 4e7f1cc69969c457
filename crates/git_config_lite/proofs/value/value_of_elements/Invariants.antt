use Rattle.std.proofs.Common.{◌≡◌, ◌++◌, length}
use Rattle.git_config_lite.specs.Values.{bytes_of_elements, value_of_elements}
use Rattle.git_config_lite.proofs.value.value_of_elements.Given as goal

abbrev pub invariant-loop-first : goal.invariant-loop-first
invariant-loop-first l = l.text.items ++ bytes_of_elements l.rest ≡ value_of_elements l.elements

abbrev pub decreases-loop-first : goal.decreases-loop-first
decreases-loop-first l = length l.rest
