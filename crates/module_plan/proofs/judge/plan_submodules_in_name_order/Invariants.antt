use Rattle.std.proofs.Common.{◌≡◌}
use Rattle.module_plan.specs.Wanted.{plan_input_of_asking}
use Rattle.module_plan.specs.Ways.{AreRecordedKindsRight}
use Rattle.module_plan.proofs.Judging.{IsJudging}
use Rattle.module_plan.proofs.judge.plan_submodules_in_name_order.Given as goal

abbrev pub invariant-loop-name : goal.invariant-loop-name
invariant-loop-name g l =
    IsJudging g.W.Worktree l.fn.worktree l.worktree l.asking.root.now (plan_input_of_asking l.asking l.fn.platform) l.name-iterator l.taken l.plan × (l.platform ≡ l.fn.platform)
    × AreRecordedKindsRight (g.W.Worktree.told l.fn.worktree) l.seen
