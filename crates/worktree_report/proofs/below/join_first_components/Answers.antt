use Rattle.std.proofs.Common.{◌≡◌, ◌-◌, ℕ, List, ap, sym, ◌∙◌, arith}
use Rattle.gitbase_core.specs.Path.{components}
use Rattle.worktree_report.specs.Below.{join_first_components}
use Rattle.worktree_report.proofs.Fronts.{below-step, below-no_more, below-none}
use Rattle.worktree_report.proofs.below.join_first_components.Goals as goal

pub returns-in_default : goal.returns-in_default
returns-in_default c =
    sym (ap (join_first_components c.loop-left.front c.loop-left.left) c.in_default.ensures.components ∙ below-no_more c.loop-left.front c.loop-left.left) ∙ c.loop-left.invariant

pub loop-left-preserved : goal.loop-left-preserved
loop-left-preserved c =
    ap (λ (d : List ℕ). join_first_components d (c.loop-left.left - 1) (components c.in-Some.after.now)) c.in_ok-push_component.ensures.pushed
    ∙ sym (ap (join_first_components c.loop-left.front c.loop-left.left) c.in-Some.ensures.components ∙ below-step c.loop-left.front c.loop-left.left c.in-Some.name.now (components c.in-Some.after.now) c.loop-left-test.true)
    ∙ c.loop-left.invariant

pub returns : goal.returns
returns c =
    let done : c.loop-left.left ≡ 0 = omega (arith, c.loop-left-test.false) in
    sym (ap (λ (n : ℕ). join_first_components c.loop-left.front n (components c.loop-left.rest.now)) done ∙ below-none c.loop-left.front (components c.loop-left.rest.now)) ∙ c.loop-left.invariant
