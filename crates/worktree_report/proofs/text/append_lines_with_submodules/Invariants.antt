use Rattle.std.proofs.Common.{◌≡◌, ◌++◌, take, map}
use Rattle.worktree_report.specs.Lines.{lines_of_report_entries}
use Rattle.worktree_report.specs.Submodules.{report_entry_with_submodule}
use Rattle.worktree_report.proofs.text.append_lines_with_submodules.Given as goal

abbrev pub invariant-loop-emission : goal.invariant-loop-emission
invariant-loop-emission l =
    record {
      lines : l.text.items ≡ l.fn.text.items ++ lines_of_report_entries l.options (map (report_entry_with_submodule l.fn.known) (take l.emission-index l.emissions));
      known : l.known ≡ l.fn.known;
    }
