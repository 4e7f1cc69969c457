use Rattle.std.specs.Prelude.{◌≡◌, ◌++◌}
use Rattle.ls_files.proofs.others.sorted_names_of_set.Given as goal

abbrev pub invariant-loop-name : goal.invariant-loop-name
invariant-loop-name l = l.list.items ++ l.name-iterator ≡ l.fn.names.keys
