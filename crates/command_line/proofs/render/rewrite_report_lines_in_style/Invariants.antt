use Rattle.std.proofs.Common.{◌≡◌, ◌++◌}
use Rattle.std.specs.List.{flat_map}
use Rattle.command_line.specs.Rendered.{styled_line_with_end, rewrite_report_lines_in_style}
use Rattle.command_line.proofs.render.rewrite_report_lines_in_style.Given as goal

abbrev pub invariant-loop-line : goal.invariant-loop-line
invariant-loop-line l = l.out.items ++ flat_map (styled_line_with_end l.style) l.line-iterator ≡ rewrite_report_lines_in_style l.style l.fn.text
