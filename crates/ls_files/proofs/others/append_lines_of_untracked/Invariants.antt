use Rattle.std.specs.Prelude.{◌≡◌, ◌++◌, take}
use Rattle.ls_files.specs.Others.{lines_of_untracked_names}
use Rattle.ls_files.proofs.others.append_lines_of_untracked.Given as goal

abbrev pub invariant-loop-name : goal.invariant-loop-name
invariant-loop-name l = l.text.items ≡ l.fn.text.items ++ lines_of_untracked_names l.listing l.prefix (take l.name-index l.names)
