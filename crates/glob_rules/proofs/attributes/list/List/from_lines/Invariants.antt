use Rattle.std.proofs.Common.{◌≡◌, ◌++◌, []}
use Rattle.std.specs.Vec.Iter.{into_iter_items}
use Rattle.glob_rules.specs.Attributes.{lines_about_paths, macros_with_definitions_of_lines}
use Rattle.glob_rules.proofs.attributes.list.List.from_lines.Given as goal

abbrev pub invariant-loop-line : goal.invariant-loop-line
invariant-loop-line l = record {
  lines : l.lines.items ++ lines_about_paths (into_iter_items l.line-iterator) ≡ lines_about_paths l.fn.from.items;
  macros : macros_with_definitions_of_lines l.macros.entries (into_iter_items l.line-iterator) ≡ macros_with_definitions_of_lines [] l.fn.from.items;
}
