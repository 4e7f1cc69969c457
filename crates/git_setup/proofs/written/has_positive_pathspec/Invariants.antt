use Rattle.std.proofs.Common.{◌≡◌, drop}
use Rattle.std.specs.List.{list_any}
use Rattle.git_setup.specs.AskedSpecs.{is_positive_pathspec}
use Rattle.git_setup.proofs.written.has_positive_pathspec.Given as goal

abbrev pub invariant-loop-text : goal.invariant-loop-text
invariant-loop-text l = list_any is_positive_pathspec (drop l.text-index l.texts) ≡ list_any is_positive_pathspec l.texts
