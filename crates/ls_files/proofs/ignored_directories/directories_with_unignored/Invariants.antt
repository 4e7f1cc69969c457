use Rattle.std.specs.Prelude.{◌≡◌, drop}
use Rattle.ls_files.specs.IgnoredDirectories.{directories_with_unignored, insert_directories_of_all_unignored}
use Rattle.ls_files.proofs.ignored_directories.directories_with_unignored.Given as goal

abbrev pub invariant-loop-judged : goal.invariant-loop-judged
invariant-loop-judged l = insert_directories_of_all_unignored l.mixed.keys (drop l.judged-index l.all) ≡ directories_with_unignored l.all
