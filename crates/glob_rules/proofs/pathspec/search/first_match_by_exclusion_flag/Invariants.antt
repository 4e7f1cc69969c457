use Rattle.std.proofs.Common.{◌≡◌, ◌+◌, drop}
use Rattle.glob_rules.specs.PathSpecs.{first_match_by_exclusion_flag}
use Rattle.glob_rules.proofs.pathspec.search.first_match_by_exclusion_flag.Given as goal

abbrev pub invariant-loop-index : goal.invariant-loop-index
invariant-loop-index l = first_match_by_exclusion_flag l.excluded (l.index + 1) (drop l.index l.specs) l.path l.is_dir ≡ first_match_by_exclusion_flag l.excluded 1 l.specs l.path l.is_dir
