use Rattle.std.proofs.Common.{◌∙◌, ap, Option}
use Rattle.glob_rules.specs.Ignore.{MatchedRule}
use Rattle.glob_rules.specs.declared.ignore.Origin.{Origin}
use Rattle.gitbase_core.specs.Path.{components}
use Rattle.worktree_stack.specs.Excludes.{ExcludeDecision, exclude, rule_of_decision}
use Rattle.worktree_stack.specs.Reading.{rulebook_of_stack_setup}
use Rattle.worktree_stack.specs.Stacked.{setup_of_stack}
use Rattle.check_ignore.specs.Deciding.{found_rule_of_origin_and_hit}
use Rattle.check_ignore.proofs.Looked.{if_ok-to, joined-is}
use Rattle.check_ignore.proofs.lookup.deciding_rule_of_platform_path.Goals as goal

pub returns : goal.returns
returns c s in_step relative looked_up =
    let x : Option ExcludeDecision = exclude (rulebook_of_stack_setup (setup_of_stack c.args.platform.now) s) (components relative) c.args.platform.now.is_dir in
    let is_rule = c.matching_exclude_pattern-found.ensures.exclude s in_step relative looked_up in
    let is_origin = c.matching_origin-origin.ensures.exclude s in_step relative looked_up in
    if_ok-to c.found_rule_of_origin_and_match.result
    (λ rule is. is ∙ ap (λ (h : Option MatchedRule). found_rule_of_origin_and_hit c.matching_origin-origin.result h) is_rule ∙ ap (λ (o : Option Origin). found_rule_of_origin_and_hit o (rule_of_decision x)) is_origin ∙ joined-is x)
    c.found_rule_of_origin_and_match.ensures
