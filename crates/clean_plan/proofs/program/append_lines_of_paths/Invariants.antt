use Rattle.std.proofs.Common.{◌≡◌, ◌++◌, take}
use Rattle.clean_plan.specs.Run.{lines_of_plan_paths}
use Rattle.clean_plan.proofs.program.append_lines_of_paths.Given as goal

abbrev pub invariant-loop-path : goal.invariant-loop-path
invariant-loop-path l = l.text.items ≡ l.fn.text.items ++ lines_of_plan_paths (take l.path-index l.paths)
