use Rattle.std.proofs.Common.{ap, ◌∙◌, reverse, option_copied}
use Rattle.glob_rules.specs.AttributeValues.{line_assignments_for_path}
use Rattle.glob_rules.specs.Rule.{last_component}
use Rattle.glob_rules.specs.Standing.{standing_after_assignments}
use Rattle.glob_rules.proofs.Hearing.{heard_from_end, heard_none}
use Rattle.glob_rules.proofs.attributes.standing_at.apply_lines_matching_path.Goals as goal

pub loop-line-preserved : goal.loop-line-preserved
loop-line-preserved c =
    let asked = c.args.question.now in
    heard_from_end (line_assignments_for_path (last_component asked.path) (option_copied c.args.relative) asked.is_dir asked.case)
    c.args.sources.now c.loop-line.standing c.apply_assignments_expanding_macros.new.standing c.loop-line.rest.now c.in-Some.before.now c.in-Some.line.now
    c.in-Some.ensures.cases.0 (c.in_ok-apply_assignments_expanding_macros.ensures ∙ ap (λ words. standing_after_assignments c.args.sources.now c.loop-line.standing (reverse words)) c.assignments_for_path.ensures)
    ∙ c.loop-line.invariant

pub returns : goal.returns
returns c =
    let asked = c.args.question.now in
    heard_none (line_assignments_for_path (last_component asked.path) (option_copied c.args.relative) asked.is_dir asked.case)
    c.args.sources.now c.loop-line.standing c.loop-line.rest.now c.in_default.ensures.cases
    ∙ c.loop-line.invariant
