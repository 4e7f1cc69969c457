use Rattle.std.proofs.Common.{◌≡◌, drop}
use Rattle.glob_rules.specs.PathSpecs.{stems_of_positive_specs}
use Rattle.glob_rules.specs.PathSpecSteps.{shortened_to_common_prefix}
use Rattle.glob_rules.proofs.pathspec.common.shorten_to_common_prefix_of_stems.Given as goal

abbrev pub invariant-loop-spec : goal.invariant-loop-spec
invariant-loop-spec l = shortened_to_common_prefix l.front (stems_of_positive_specs (drop l.spec-index l.specs)) ≡ shortened_to_common_prefix l.path (stems_of_positive_specs l.specs)
