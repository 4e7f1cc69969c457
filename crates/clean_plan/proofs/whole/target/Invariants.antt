use Rattle.std.proofs.Common.{◌≡◌, false}
use Rattle.clean_plan.specs.Above.{any_ancestor_below_length_passes}
use Rattle.clean_plan.specs.Asked.{plan_inputs_of_cleaning}
use Rattle.clean_plan.specs.Whole.{is_directory_unblocked_and_removable}
use Rattle.clean_plan.proofs.whole.target.Given as goal

abbrev pub invariant-loop-at : goal.invariant-loop-at
invariant-loop-at l = any_ancestor_below_length_passes (is_directory_unblocked_and_removable (plan_inputs_of_cleaning l.cleaning) l.spoiled) l.at l.path ≡ false
