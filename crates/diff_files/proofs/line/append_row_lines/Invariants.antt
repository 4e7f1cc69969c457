use Rattle.std.specs.Prelude.{◌≡◌, ◌++◌, take}
use Rattle.diff_files.specs.Lines.{rows_text}
use Rattle.diff_files.proofs.line.append_row_lines.Given as goal

abbrev pub invariant-loop-row : goal.invariant-loop-row
invariant-loop-row l = l.text.items ≡ l.fn.text.items ++ rows_text l.comparison (take l.row-index l.rows)
