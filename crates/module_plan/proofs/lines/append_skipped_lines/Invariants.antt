use Rattle.std.proofs.Common.{◌≡◌, ◌++◌, take}
use Rattle.std.specs.List.{flat_map}
use Rattle.module_plan.specs.Lines.{line_of_skipped}
use Rattle.module_plan.proofs.lines.append_skipped_lines.Given as goal

abbrev pub invariant-loop-one : goal.invariant-loop-one
invariant-loop-one l = l.text.items ≡ l.fn.text.items ++ flat_map line_of_skipped (take l.one-index l.skipped)
