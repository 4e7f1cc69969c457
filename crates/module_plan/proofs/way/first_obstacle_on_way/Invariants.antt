use Rattle.module_plan.specs.Ways.{AreRecordedKindsRight}
use Rattle.module_plan.proofs.Onward.{IsOn}
use Rattle.module_plan.proofs.way.first_obstacle_on_way.Given as goal

abbrev pub invariant-loop-name : goal.invariant-loop-name
invariant-loop-name g l =
    IsOn g.W.Worktree l.fn.worktree l.worktree l.root l.path l.full l.name-iterator × AreRecordedKindsRight (g.W.Worktree.told l.fn.worktree) l.seen
