use Rattle.std.proofs.Common.{◌≡◌, [], drop}
use Rattle.git_setup.specs.AskedSpecs.{parse_each_pathspec_alone}
use Rattle.git_setup.proofs.pathspecs.parse_each_pathspec_alone.Given as goal

abbrev pub invariant-loop-one : goal.invariant-loop-one
invariant-loop-one l =
    parse_each_pathspec_alone l.ignore_case l.root l.prefix l.done (drop l.one-index l.written) ≡ parse_each_pathspec_alone l.ignore_case l.root l.prefix [] l.written
