use Rattle.std.proofs.Common.{take}
use Rattle.clean_plan.specs.Asked.{plan_inputs_of_cleaning}
use Rattle.clean_plan.specs.Kept.{specs_exclude_directory}
use Rattle.clean_plan.specs.Paths.{borrowed_byte_strings}
use Rattle.clean_plan.specs.Plans.{entries_of_report_entries}
use Rattle.clean_plan.specs.Sifted.{AreRemovableAndBlockedPaths, KnowsBlockedAncestorsOfPath}
use Rattle.clean_plan.proofs.sift.collect_removable_and_blocked.Given as goal

abbrev pub invariant-loop-entry : goal.invariant-loop-entry
invariant-loop-entry l =
    AreRemovableAndBlockedPaths (plan_inputs_of_cleaning l.cleaning) (entries_of_report_entries (take l.entry-index l.entries)) (borrowed_byte_strings l.removable.items) l.spoiled
    × KnowsBlockedAncestorsOfPath (specs_exclude_directory l.cleaning.specs.now) l.spoiled l.last.path.now l.last.added
