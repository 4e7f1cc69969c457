use Rattle.std.proofs.Common.{◌∙◌}
use Rattle.glob_rules.specs.AttributeValues.{list_assignments_for_path}
use Rattle.glob_rules.proofs.Hearing.{heard_from_end, heard_none}
use Rattle.glob_rules.proofs.attributes.standing_at.apply_lists_to_path.Goals as goal

pub loop-list-preserved : goal.loop-list-preserved
loop-list-preserved c =
    let asked = c.args.question.now in
    heard_from_end (list_assignments_for_path asked.path asked.is_dir asked.case)
    c.args.sources.now c.loop-list.standing c.apply_list_to_path.new.standing c.loop-list.rest.now c.in-Some.before.now c.in-Some.list.now
    c.in-Some.ensures.cases.0 c.in_ok-apply_list_to_path.ensures
    ∙ c.loop-list.invariant

pub returns : goal.returns
returns c =
    let asked = c.args.question.now in
    heard_none (list_assignments_for_path asked.path asked.is_dir asked.case) c.args.sources.now c.loop-list.standing c.loop-list.rest.now c.in_default.ensures.cases
    ∙ c.loop-list.invariant
