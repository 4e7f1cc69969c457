use Rattle.std.proofs.Common.{◌≡◌, ◌++◌, map}
use Rattle.std.specs.Vec.Iter.{into_iter_items}
use Rattle.git_clean.specs.Ruled.{entry_ignored_if_excluded}
use Rattle.git_clean.proofs.ruled.entries_ignored_if_excluded.Given as goal

abbrev pub invariant-loop-entry : goal.invariant-loop-entry
invariant-loop-entry l = l.all.items ++ map (entry_ignored_if_excluded l.rules) (into_iter_items l.entry-iterator) ≡ map (entry_ignored_if_excluded l.rules) l.fn.found.items
