use Rattle.std.proofs.Common.{◌≡◌, [], drop}
use Rattle.git_setup.specs.AskedSpecs.{parse_all_pathspecs}
use Rattle.git_setup.proofs.pathspecs.parse_all_pathspecs.Given as goal

abbrev pub invariant-loop-one : goal.invariant-loop-one
invariant-loop-one l =
    parse_all_pathspecs l.ignore_case l.root l.prefix l.done.items (drop l.one-index l.written) ≡ parse_all_pathspecs l.ignore_case l.root l.prefix [] l.written
