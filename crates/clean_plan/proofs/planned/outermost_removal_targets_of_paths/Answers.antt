use Rattle.std.proofs.Common.{rules}
use Rattle.clean_plan.specs.Asked.{plan_inputs_of_cleaning}
use Rattle.clean_plan.specs.Whole.{is_directory_unblocked_and_removable}
use Rattle.clean_plan.proofs.Planning.{next-target}
use Rattle.clean_plan.proofs.Jointly.{known-first, known-next}
use Rattle.clean_plan.proofs.planned.outermost_removal_targets_of_paths.Goals as goal

pub loop-path-init : goal.loop-path-init
loop-path-init c = (search rules, known-first (is_directory_unblocked_and_removable (plan_inputs_of_cleaning c.args.cleaning.now) c.args.spoiled.now))

pub loop-path-preserved : goal.loop-path-preserved
loop-path-preserved c = (
  next-target (is_directory_unblocked_and_removable (plan_inputs_of_cleaning c.args.cleaning.now) c.args.spoiled.now) c.args.removable.now c.loop-path.path-index _ c.loop-path.planned c.add.new.self
      c.target-target.result.now c.loop-path-test.true c.loop-path.invariant.0 c.target-target.ensures (λ other. c.in_ok-add.ensures other),
  known-next (is_directory_unblocked_and_removable (plan_inputs_of_cleaning c.args.cleaning.now) c.args.spoiled.now) _ c.target-target.result.now _ c.target-target.ensures (search rules),
)
