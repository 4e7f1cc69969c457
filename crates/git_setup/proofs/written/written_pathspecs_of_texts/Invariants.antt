use Rattle.std.proofs.Common.{◌≡◌, ◌++◌, drop, map}
use Rattle.git_setup.specs.AskedSpecs.{written_pathspec_of_text}
use Rattle.git_setup.proofs.written.written_pathspecs_of_texts.Given as goal

abbrev pub invariant-loop-text : goal.invariant-loop-text
invariant-loop-text l = l.written.items ++ map written_pathspec_of_text (drop l.text-index l.texts) ≡ map written_pathspec_of_text l.texts
