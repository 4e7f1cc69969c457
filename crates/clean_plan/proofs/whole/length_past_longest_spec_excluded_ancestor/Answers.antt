use Rattle.std.proofs.Common.{◌+◌, ◌∙◌, ◌&&◌, ℕ, List, ap, arith, max, take}
use Rattle.std.specs.Prelude.{if◌then◌else◌}
use Rattle.gitbase_core.specs.Path.{is_beneath_directory}
use Rattle.clean_plan.specs.Above.{length_past_longest_passing_ancestor}
use Rattle.clean_plan.specs.Kept.{specs_exclude_directory}
use Rattle.clean_plan.proofs.Reached.{reach-begun, reach-longer, reach-next, reach-within}
use Rattle.clean_plan.proofs.whole.length_past_longest_spec_excluded_ancestor.Goals as goal

pub loop-at-init : goal.loop-at-init
loop-at-init c =
    let few = reach-begun (specs_exclude_directory c.args.specs.now) c.args.path.now c.args.begin c.args.shared c.requires.shared c.requires.none in
    omega (arith, few)

pub loop-at-preserved : goal.loop-at-preserved
loop-at-preserved c =
    let out = specs_exclude_directory c.args.specs.now in
    let path : List ℕ = c.args.path.now in
    let here = is_beneath_directory (take c.loop-at.at path) path && out (take c.loop-at.at path) in
    c.length_past_ancestor_if_spec_excluded-reach.ensures
    ∙ ap (λ (n : ℕ). if here then c.loop-at.at + 1 else n) c.loop-at.invariant
    ∙ reach-longer here c.args.begin c.loop-at.at (length_past_longest_passing_ancestor out c.loop-at.at path) (omega (arith, c.requires.begin, c.loop-at.auto.at))
    ∙ ap (λ (n : ℕ). max c.args.begin n) (reach-next out c.loop-at.at path)

pub returns-clause-within : goal.returns-clause-within
returns-clause-within c =
    let within = reach-within (specs_exclude_directory c.args.specs.now) c.loop-at.at c.args.path.now in
    omega (arith, within, c.requires.begin, c.requires.shared, c.loop-at.invariant, c.loop-at.auto.at-end c.requires.shared)
