use Rattle.std.proofs.Common.{rules, arith, ap, ◌∙◌}
use Rattle.std.proofs.lemmas.Result.{err_from_is_err_and}
use Rattle.worktree_fs.specs.Causes.{CountIncreasedOrSaturated}
use Rattle.module_plan.specs.Wanted.{plan_input_of_asking}
use Rattle.module_plan.proofs.Judging.{judging-grown, judging-stops, unless-later}
use Rattle.module_plan.proofs.judge.plan_submodules_in_name_order.Goals as goal

pub returns-in_err-verdict-clause-refused : goal.returns-in_err-verdict-clause-refused
returns-in_err-verdict-clause-refused g c =
    let p = err_from_is_err_and c.from_residual.result c.from_residual.ensures.1 in
    rw (p.1, p.2)
    (judging-stops g.W.Worktree c.args.worktree.now c.loop-name.worktree c.verdict_on_submodule.new.worktree c.args.asking.now.root.now
    (plan_input_of_asking c.args.asking.now c.args.platform.now) c.loop-name.name-iterator c.loop-name.taken c.loop-name.plan c.loop-name.invariant.0
    c.in-Some.name.now c.next.new.self c.in-Some.ensures.steps (plan_input_of_asking c.args.asking.now c.loop-name.platform) (ap (plan_input_of_asking c.args.asking.now) c.loop-name.invariant.1)
    (CountIncreasedOrSaturated (g.W.Worktree.faults c.loop-name.worktree) (g.W.Worktree.faults c.verdict_on_submodule.new.worktree))
    (CountIncreasedOrSaturated (g.W.Worktree.faults c.args.worktree.now) (g.W.Worktree.faults c.verdict_on_submodule.new.worktree))
    c.in_err-verdict.field-0.0
    (λ more. let k = c.loop-name.invariant.0.keeps.faults in omega (arith, k, more))
    c.in_err-verdict.ensures.refused)

pub returns-in_err-verdict-clause-unfaulted : goal.returns-in_err-verdict-clause-unfaulted
returns-in_err-verdict-clause-unfaulted g c =
    let p = err_from_is_err_and c.from_residual.result c.from_residual.ensures.1 in
    rw (p.1, p.2) (unless-later _ _ c.in_err-verdict.field-0.0 (λ same. same ∙ c.loop-name.invariant.0.unfaulted) c.in_err-verdict.ensures.unfaulted)

pub loop-name-preserved : goal.loop-name-preserved
loop-name-preserved g c = (
  judging-grown g.W.Worktree c.args.worktree.now c.loop-name.worktree c.verdict_on_submodule.new.worktree c.args.asking.now.root.now
      (plan_input_of_asking c.args.asking.now c.args.platform.now) c.loop-name.name-iterator c.loop-name.taken c.loop-name.plan c.loop-name.invariant.0
      c.in-Some.name.now c.next.new.self c.in-Some.ensures.steps (plan_input_of_asking c.args.asking.now c.loop-name.platform) (ap (plan_input_of_asking c.args.asking.now) c.loop-name.invariant.1)
      c.in_ok-verdict.verdict c.verdict_on_submodule.new.taken c.in_ok-plan.plan c.in_ok-verdict.ensures.keeps c.in_ok-verdict.ensures.reads c.in_ok-verdict.ensures.unfaulted
      c.in_ok-verdict.ensures.verdict c.in_ok-verdict.ensures.taken c.in_ok-plan.ensures,
  search rules,
  search rules,
)
