use Rattle.std.proofs.Common.{◌∙◌, reverse}
use Rattle.glob_rules.proofs.Hearing.{heard_again, heard_first, heard_less, heard_all}
use Rattle.glob_rules.proofs.attributes.standing_at.apply_assignments_expanding_macros.Goals as goal

pub loop-assigned-smaller-in-Continue-branch-2 : goal.loop-assigned-smaller-in-Continue-branch-2
loop-assigned-smaller-in-Continue-branch-2 c =
    heard_less c.args.sources.now c.loop-assigned.standing c.add_if_first.new.self c.loop-assigned.left c.take.new.self c.in-Some.assigned.now c.in_ok-add_if_first.field-0
    c.in-Some.ensures c.in_ok-add_if_first.ensures.first c.in_ok-add_if_first.ensures.said (reverse c.macro_expansion_if_set.result.now) c.put.new.self c.if-branch.true c.macro_expansion_if_set.ensures c.in_ok-put.ensures

pub loop-assigned-preserved-in-Continue-branch-2 : goal.loop-assigned-preserved-in-Continue-branch-2
loop-assigned-preserved-in-Continue-branch-2 c =
    heard_first c.args.sources.now c.loop-assigned.standing c.add_if_first.new.self c.loop-assigned.left c.take.new.self c.in-Some.assigned.now c.in_ok-add_if_first.field-0
    c.in-Some.ensures c.in_ok-add_if_first.ensures.first c.in_ok-add_if_first.ensures.said (reverse c.macro_expansion_if_set.result.now) c.put.new.self c.if-branch.true c.macro_expansion_if_set.ensures c.in_ok-put.ensures
    ∙ c.loop-assigned.invariant

pub loop-assigned-preserved : goal.loop-assigned-preserved
loop-assigned-preserved c =
    heard_again c.args.sources.now c.loop-assigned.standing c.add_if_first.new.self c.loop-assigned.left c.take.new.self c.in-Some.assigned.now c.in_ok-add_if_first.field-0
    c.in-Some.ensures c.in_ok-add_if_first.ensures.first c.in_ok-add_if_first.ensures.said c.if-branch.false
    ∙ c.loop-assigned.invariant

pub returns : goal.returns
returns c = heard_all c.args.sources.now c.loop-assigned.standing c.loop-assigned.left c.in_default.ensures ∙ c.loop-assigned.invariant
