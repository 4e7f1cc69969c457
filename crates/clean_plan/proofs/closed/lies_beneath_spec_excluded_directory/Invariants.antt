use Rattle.std.proofs.Common.{◌≡◌, false}
use Rattle.clean_plan.specs.Above.{any_ancestor_below_length_passes}
use Rattle.clean_plan.specs.Closed.{specs_exclude_with_or_without_slash}
use Rattle.clean_plan.proofs.closed.lies_beneath_spec_excluded_directory.Given as goal

abbrev pub invariant-loop-at : goal.invariant-loop-at
invariant-loop-at l = any_ancestor_below_length_passes (specs_exclude_with_or_without_slash l.specs) l.at l.path ≡ false
