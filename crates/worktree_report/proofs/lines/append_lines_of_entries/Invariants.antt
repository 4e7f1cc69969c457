use Rattle.std.proofs.Common.{◌≡◌, ◌++◌, take}
use Rattle.worktree_report.specs.Lines.{lines_of_report_entries}
use Rattle.worktree_report.proofs.lines.append_lines_of_entries.Given as goal

abbrev pub invariant-loop-entry : goal.invariant-loop-entry
invariant-loop-entry l = l.text.items ≡ l.fn.text.items ++ lines_of_report_entries l.options (take l.entry-index l.entries)
