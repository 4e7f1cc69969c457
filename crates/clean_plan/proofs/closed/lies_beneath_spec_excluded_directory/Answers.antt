use Rattle.std.proofs.Common.{◌∙◌, sym}
use Rattle.clean_plan.specs.Closed.{specs_exclude_with_or_without_slash}
use Rattle.clean_plan.proofs.Reached.{first-front, next-front, passing-front}
use Rattle.clean_plan.proofs.closed.lies_beneath_spec_excluded_directory.Goals as goal

pub loop-at-init : goal.loop-at-init
loop-at-init c = first-front (specs_exclude_with_or_without_slash c.args.specs.now) c.args.path.now

pub returns-then-has_spec_excluded_ancestor_of_length : goal.returns-then-has_spec_excluded_ancestor_of_length
returns-then-has_spec_excluded_ancestor_of_length c =
    passing-front (specs_exclude_with_or_without_slash c.args.specs.now) c.loop-at.at c.args.path.now (sym c.has_spec_excluded_ancestor_of_length.ensures ∙ c.if-has_spec_excluded_ancestor_of_length.true)

pub loop-at-preserved : goal.loop-at-preserved
loop-at-preserved c =
    next-front (specs_exclude_with_or_without_slash c.args.specs.now) c.loop-at.at c.args.path.now (sym c.has_spec_excluded_ancestor_of_length.ensures ∙ c.if-has_spec_excluded_ancestor_of_length.false) c.loop-at.invariant
