use Rattle.std.proofs.Common.{◌≡◌, reverse, length, option_copied}
use Rattle.glob_rules.specs.AttributeValues.{lines_assignments_for_path}
use Rattle.glob_rules.specs.Rule.{last_component}
use Rattle.glob_rules.specs.Standing.{standing_after_assignments}
use Rattle.glob_rules.proofs.attributes.standing_at.apply_lines_matching_path.Given as goal

abbrev pub invariant-loop-line : goal.invariant-loop-line
invariant-loop-line l =
    standing_after_assignments l.sources l.standing (reverse (lines_assignments_for_path (last_component l.question.path) (option_copied l.relative) l.question.is_dir l.question.case l.rest))
    ≡ standing_after_assignments l.sources l.fn.standing (reverse (lines_assignments_for_path (last_component l.question.path) (option_copied l.relative) l.question.is_dir l.question.case l.lines))

abbrev pub decreases-loop-line : goal.decreases-loop-line
decreases-loop-line l = length l.rest
