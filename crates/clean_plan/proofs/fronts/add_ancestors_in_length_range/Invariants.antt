use Rattle.std.proofs.Common.{◌≡◌, ◌&&◌, ◌||◌, ℕ, List, length, nat_lt}
use Rattle.gitbase_core.specs.Path.{is_beneath_directory}
use Rattle.clean_plan.specs.Paths.{is_text_in_list}
use Rattle.clean_plan.proofs.fronts.add_ancestors_in_length_range.Given as goal

abbrev pub invariant-loop-at : goal.invariant-loop-at
invariant-loop-at l = (other : List ℕ) → is_text_in_list other l.others ≡ ((is_beneath_directory other l.path && nat_lt (length other) l.at) || is_text_in_list other l.fn.others)
