use Rattle.std.proofs.Common.{◌≡◌, max}
use Rattle.clean_plan.specs.Above.{length_past_longest_passing_ancestor}
use Rattle.clean_plan.specs.Kept.{specs_exclude_directory}
use Rattle.clean_plan.proofs.whole.length_past_longest_spec_excluded_ancestor.Given as goal

abbrev pub invariant-loop-at : goal.invariant-loop-at
invariant-loop-at l = l.reach ≡ max l.begin (length_past_longest_passing_ancestor (specs_exclude_directory l.specs) l.at l.path)
