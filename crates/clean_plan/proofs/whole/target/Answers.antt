use Rattle.std.proofs.Common.{◌∙◌, sym}
use Rattle.clean_plan.specs.Asked.{plan_inputs_of_cleaning}
use Rattle.clean_plan.specs.Whole.{is_directory_unblocked_and_removable}
use Rattle.clean_plan.proofs.Reached.{next-front, target-here}
use Rattle.clean_plan.proofs.Jointly.{known-fronts, known-target}
use Rattle.clean_plan.proofs.whole.target.Goals as goal

pub returns-then-lies_in_known_removable_directory : goal.returns-then-lies_in_known_removable_directory
returns-then-lies_in_known_removable_directory c =
    known-target (is_directory_unblocked_and_removable (plan_inputs_of_cleaning c.args.cleaning.now) c.args.spoiled.now) c.args.known.now.path.now c.args.path.now c.args.known.now.is_whole
    c.requires.known c.shared_prefix_length-shared.result c.shared_prefix_length-shared.ensures.within_one c.shared_prefix_length-shared.ensures.within_other
    c.shared_prefix_length-shared.ensures.same (c.lies_in_known_removable_directory.ensures c.if-lies_in_known_removable_directory.true)

pub loop-at-init : goal.loop-at-init
loop-at-init c =
    known-fronts (is_directory_unblocked_and_removable (plan_inputs_of_cleaning c.args.cleaning.now) c.args.spoiled.now) c.args.known.now.path.now c.args.path.now c.args.known.now.is_whole
    c.requires.known c.shared_prefix_length-shared.result c.shared_prefix_length-shared.ensures.within_one c.shared_prefix_length-shared.ensures.within_other
    c.shared_prefix_length-shared.ensures.same

pub returns-then-is_ancestor_unblocked_and_removable : goal.returns-then-is_ancestor_unblocked_and_removable
returns-then-is_ancestor_unblocked_and_removable c =
    target-here (is_directory_unblocked_and_removable (plan_inputs_of_cleaning c.args.cleaning.now) c.args.spoiled.now) c.loop-at.at c.args.path.now c.loop-at-test.true
    (sym c.is_ancestor_unblocked_and_removable.ensures ∙ c.if-is_ancestor_unblocked_and_removable.true) c.loop-at.invariant

pub loop-at-preserved : goal.loop-at-preserved
loop-at-preserved c =
    next-front (is_directory_unblocked_and_removable (plan_inputs_of_cleaning c.args.cleaning.now) c.args.spoiled.now) c.loop-at.at c.args.path.now
    (sym c.is_ancestor_unblocked_and_removable.ensures ∙ c.if-is_ancestor_unblocked_and_removable.false) c.loop-at.invariant
