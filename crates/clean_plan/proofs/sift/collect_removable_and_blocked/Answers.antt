use Rattle.std.proofs.Common.{rules}
use Rattle.clean_plan.specs.Asked.{plan_inputs_of_cleaning}
use Rattle.clean_plan.specs.Kept.{specs_exclude_directory}
use Rattle.clean_plan.specs.Paths.{borrowed_byte_strings}
use Rattle.clean_plan.proofs.Sifting.{looked-first, sifted-next}
use Rattle.clean_plan.proofs.sift.collect_removable_and_blocked.Goals as goal

pub loop-entry-init : goal.loop-entry-init
loop-entry-init c = (search rules, looked-first (specs_exclude_directory c.args.cleaning.now.specs.now) _)

pub loop-entry-preserved : goal.loop-entry-preserved
loop-entry-preserved c = (
  sifted-next (plan_inputs_of_cleaning c.args.cleaning.now) c.args.entries.now c.loop-entry.entry-index c.entry-item.result
      (borrowed_byte_strings c.loop-entry.removable.items) c.loop-entry.spoiled (borrowed_byte_strings c.record_removable_or_blocking_entry.new.removable.items) c.record_removable_or_blocking_entry.new.spoiled
      c.loop-entry-test.true c.entry-item.is c.loop-entry.invariant.0 c.in_ok-last.ensures.removable (λ d. c.in_ok-last.ensures.spoiled d),
  c.in_ok-last.ensures.looked,
)
