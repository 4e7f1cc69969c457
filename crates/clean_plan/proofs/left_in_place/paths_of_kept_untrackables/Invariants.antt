use Rattle.std.proofs.Common.{take}
use Rattle.clean_plan.specs.Plans.{entries_of_report_entries}
use Rattle.clean_plan.specs.Staying.{ArePathsOfKeptUntrackables}
use Rattle.clean_plan.proofs.left_in_place.paths_of_kept_untrackables.Given as goal

abbrev pub invariant-loop-entry : goal.invariant-loop-entry
invariant-loop-entry l = ArePathsOfKeptUntrackables l.others (entries_of_report_entries (take l.entry-index l.entries)) l.staying
