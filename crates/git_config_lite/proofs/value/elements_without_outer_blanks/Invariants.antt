use Rattle.std.proofs.Common.{◌≡◌, ◌≤◌, length, take, reverse}
use Rattle.git_config_lite.specs.Values.{without_leading_blank_elements}
use Rattle.git_config_lite.proofs.value.elements_without_outer_blanks.Given as goal

abbrev pub invariant-loop-end : goal.invariant-loop-end
invariant-loop-end l = record {
  within : l.end ≤ length l.elements;
  same : without_leading_blank_elements (reverse (take l.end l.elements)) ≡ without_leading_blank_elements (reverse l.elements);
}

abbrev pub decreases-loop-end : goal.decreases-loop-end
decreases-loop-end l = l.end
