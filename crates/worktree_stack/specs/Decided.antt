-- What values of the code refer to.
use Rattle.glob_rules.specs.Ignore.{matched_rule_of_match}
use Rattle.worktree_stack.specs.declared.matched.Decided.{Decided}
use Rattle.worktree_stack.specs.Excludes.{ExcludeDecision}

-- the decision that a match with its group stands for
abbrev pub decision_of_decided : Decided → ExcludeDecision
decision_of_decided d = record { group = d.group; rule = matched_rule_of_match d.found }
