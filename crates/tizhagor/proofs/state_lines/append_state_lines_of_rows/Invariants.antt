use Rattle.std.proofs.Common.{◌≡◌, ◌++◌, take}
use Rattle.tizhagor.specs.StateLines.{state_lines_of_rows}
use Rattle.tizhagor.proofs.state_lines.append_state_lines_of_rows.Given as goal

abbrev pub invariant-loop-row : goal.invariant-loop-row
invariant-loop-row l = l.text.items ≡ l.fn.text.items ++ state_lines_of_rows (take l.row-index l.rows)
