use Rattle.std.specs.Prelude.{◌≡◌, drop}
use Rattle.ls_files.specs.IgnoredDirectories.{names_of_ignored_places, insert_names_for_all_ignored}
use Rattle.ls_files.proofs.ignored_directories.names_of_ignored_places.Given as goal

abbrev pub invariant-loop-judged : goal.invariant-loop-judged
invariant-loop-judged l = insert_names_for_all_ignored l.listing l.index l.mixed.keys l.names.keys (drop l.judged-index l.all) ≡ names_of_ignored_places l.listing l.index l.all
