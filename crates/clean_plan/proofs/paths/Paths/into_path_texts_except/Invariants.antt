use Rattle.std.proofs.Common.{◌≡◌, ◌++◌}
use Rattle.clean_plan.specs.Paths.{borrowed_byte_strings, paths_without_others}
use Rattle.clean_plan.proofs.paths.Paths.into_path_texts_except.Given as goal

abbrev pub invariant-loop-path : goal.invariant-loop-path
invariant-loop-path l = l.texts.items ++ paths_without_others l.staying (borrowed_byte_strings l.path-iterator) ≡ paths_without_others l.staying l.fn.self
