use Rattle.clean_plan.proofs.Sifting.{staying-next}
use Rattle.clean_plan.proofs.left_in_place.paths_of_kept_untrackables.Goals as goal

pub loop-entry-preserved : goal.loop-entry-preserved
loop-entry-preserved c =
    staying-next c.args.others c.args.entries.now c.loop-entry.entry-index c.entry-item.result c.loop-entry.staying c.add_path_if_kept_untrackable.new.staying c.loop-entry-test.true
    c.entry-item.is c.loop-entry.invariant (λ path. c.in_ok-add_path_if_kept_untrackable.ensures path)
