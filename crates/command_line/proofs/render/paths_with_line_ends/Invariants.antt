use Rattle.std.proofs.Common.{◌≡◌, ◌++◌}
use Rattle.std.specs.List.{flat_map}
use Rattle.command_line.specs.Rendered.{path_with_line_end, paths_with_line_ends}
use Rattle.command_line.proofs.render.paths_with_line_ends.Given as goal

abbrev pub invariant-loop-line : goal.invariant-loop-line
invariant-loop-line l = l.out.items ++ flat_map (path_with_line_end l.end) l.line-iterator ≡ paths_with_line_ends l.end l.fn.text
