use Rattle.std.specs.Prelude.{◌≡◌, ◌++◌, take}
use Rattle.std.specs.List.{flat_map}
use Rattle.ls_files.specs.Unmatched.{spec_line_if_unmatched}
use Rattle.ls_files.proofs.unmatched.append_lines_of_unmatched.Given as goal

abbrev pub invariant-loop-named : goal.invariant-loop-named
invariant-loop-named l =
    l.text.items ≡ l.fn.text.items ++ flat_map (spec_line_if_unmatched l.all l.places) (take l.named-index l.all)
