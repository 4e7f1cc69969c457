use Rattle.std.specs.Prelude.{◌≡◌, ◌++◌, take}
use Rattle.ls_files.specs.Changed.{text_of_shown_entries}
use Rattle.ls_files.proofs.changed.append_shown_lines.Given as goal

abbrev pub invariant-loop-one : goal.invariant-loop-one
invariant-loop-one l = l.text.items ≡ l.fn.text.items ++ text_of_shown_entries l.listing l.prefix l.specs (take l.one-index l.shown)
