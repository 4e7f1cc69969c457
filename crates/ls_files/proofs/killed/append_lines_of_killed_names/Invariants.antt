use Rattle.std.specs.Prelude.{◌≡◌, ◌++◌, take}
use Rattle.ls_files.specs.Killed.{lines_of_killed_names}
use Rattle.ls_files.proofs.killed.append_lines_of_killed_names.Given as goal

abbrev pub invariant-loop-name : goal.invariant-loop-name
invariant-loop-name l = l.text.items ≡ l.fn.text.items ++ lines_of_killed_names l.listing l.prefix (take l.name-index l.names)
