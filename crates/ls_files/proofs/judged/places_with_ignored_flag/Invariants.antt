use Rattle.std.specs.Prelude.{◌≡◌, ◌++◌, drop}
use Rattle.ls_files.specs.IgnoredDirectories.{places_with_ignored_flag}
use Rattle.ls_files.proofs.judged.places_with_ignored_flag.Given as goal

abbrev pub invariant-loop-entry : goal.invariant-loop-entry
invariant-loop-entry l =
    l.all.items ++ places_with_ignored_flag l.listing l.patterns l.case l.index (drop l.entry-index l.found)
    ≡ places_with_ignored_flag l.listing l.patterns l.case l.index l.found
