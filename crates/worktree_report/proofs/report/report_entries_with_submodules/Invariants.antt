use Rattle.std.proofs.Common.{◌≡◌, ◌++◌, length, map}
use Rattle.std.specs.Vec.Iter.{into_iter_items, into_iter_len}
use Rattle.worktree_report.specs.Submodules.{report_entry_with_submodule}
use Rattle.worktree_report.proofs.report.report_entries_with_submodules.Given as goal

abbrev pub invariant-loop-emission : goal.invariant-loop-emission
invariant-loop-emission l =
    record {
      entries : l.entries.items ++ map (report_entry_with_submodule l.fn.known) (into_iter_items l.emission-iterator) ≡ map (report_entry_with_submodule l.fn.known) l.fn.emissions.items;
      known : l.known ≡ l.fn.known;
      left : into_iter_len l.emission-iterator ≡ length (into_iter_items l.emission-iterator);
    }
