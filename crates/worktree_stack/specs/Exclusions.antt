-- What a decision says of a path.
use Rattle.std.specs.Prelude.{Option}
use Rattle.worktree_stack.specs.declared.platform.Exclusion.{Exclusion}
use Rattle.worktree_stack.specs.Excludes.{ExcludeDecision, rule_of_decision, origin_of_decision}
use Rattle.worktree_stack.specs.Setup.{excluded_kind}

-- what becomes of the path, and where the rule comes from: nothing where none decides
abbrev pub exclusion_of_decision : Option ExcludeDecision → Exclusion
exclusion_of_decision decision = record { kind = excluded_kind (rule_of_decision decision); origin = origin_of_decision decision }
