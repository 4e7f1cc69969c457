use Rattle.std.proofs.Common.{◌≡◌, ◌++◌, take}
use Rattle.index_status.specs.Lines.{lines_of_states_not_same}
use Rattle.index_status.proofs.lines.append_lines_of_states_not_same.Given as goal

abbrev pub invariant-loop-row : goal.invariant-loop-row
invariant-loop-row l = l.text.items ≡ l.fn.text.items ++ lines_of_states_not_same (take l.row-index l.rows)
