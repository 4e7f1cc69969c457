use Rattle.std.proofs.Common.{take}
use Rattle.clean_plan.specs.Above.{NoAncestorButMaybeSelfPasses}
use Rattle.clean_plan.specs.Asked.{plan_inputs_of_cleaning}
use Rattle.clean_plan.specs.Paths.{borrowed_byte_strings}
use Rattle.clean_plan.specs.Targets.{AreOutermostTargetsOfPaths}
use Rattle.clean_plan.specs.Whole.{is_directory_unblocked_and_removable}
use Rattle.clean_plan.proofs.planned.outermost_removal_targets_of_paths.Given as goal

abbrev pub invariant-loop-path : goal.invariant-loop-path
invariant-loop-path l =
    AreOutermostTargetsOfPaths (is_directory_unblocked_and_removable (plan_inputs_of_cleaning l.cleaning) l.spoiled) (borrowed_byte_strings (take l.path-index l.removable)) l.planned
    × NoAncestorButMaybeSelfPasses (is_directory_unblocked_and_removable (plan_inputs_of_cleaning l.cleaning) l.spoiled) l.known.path.now l.known.is_whole
