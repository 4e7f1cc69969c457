use Rattle.std.proofs.Common.{nat_eq, [], ◌∷◌, ◌≡◌, ◌≤◌}
use Rattle.std.specs.List.{common_prefix_len}
use Rattle.glob_rules.specs.PathSpecs.{longest_common_prefix_path, is_prefix_of_each_path, longest_front_passing_test}
use Rattle.glob_rules.proofs.pathspec.common.common_component_prefix_length.Given as goal

abbrev pub invariant-loop-end : goal.invariant-loop-end
invariant-loop-end l = record {
  within : l.end ≤ common_prefix_len nat_eq l.left l.right;
  same : longest_front_passing_test (is_prefix_of_each_path (l.left ∷ l.right ∷ [])) l.left l.end ≡ longest_common_prefix_path (l.left ∷ l.right ∷ []);
}

abbrev pub decreases-loop-end : goal.decreases-loop-end
decreases-loop-end l = l.end
