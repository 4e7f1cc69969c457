use Rattle.std.proofs.Common.{◌≡◌, length}
use Rattle.glob_rules.specs.AttributeValues.{path_assignments_reversed}
use Rattle.glob_rules.specs.Standing.{standing_after_assignments}
use Rattle.glob_rules.proofs.attributes.standing_at.apply_lists_to_path.Given as goal

abbrev pub invariant-loop-list : goal.invariant-loop-list
invariant-loop-list l =
    standing_after_assignments l.sources l.standing (path_assignments_reversed l.rest l.question.path l.question.is_dir l.question.case)
    ≡ standing_after_assignments l.sources l.fn.standing (path_assignments_reversed l.lists l.question.path l.question.is_dir l.question.case)

abbrev pub decreases-loop-list : goal.decreases-loop-list
decreases-loop-list l = length l.rest
