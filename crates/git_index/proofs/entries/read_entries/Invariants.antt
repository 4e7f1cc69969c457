use Rattle.std.proofs.Common.{◌≡◌}
use Rattle.git_index.specs.Entries as texts
use Rattle.git_index.specs.Seen.{entries_and_details_as_record}
use Rattle.git_index.proofs.entries.read_entries.Given as goal

abbrev pub invariant-loop-left : goal.invariant-loop-left
invariant-loop-left l = texts.read_entries_after_others l.version (entries_and_details_as_record l.listed) l.left l.rest ≡ texts.read_entries_after_others l.version texts.no_entries_and_details l.count l.bytes

abbrev pub decreases-loop-left : goal.decreases-loop-left
decreases-loop-left l = l.left
